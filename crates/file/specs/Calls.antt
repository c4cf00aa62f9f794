-- What the reader and the writer check, 9 first, and what they leave in the buffers that they are lent.
use Rattle.std.specs.Prelude.{ℕ, ◌*◌, ◌||◌, List, ◌++◌, length, drop, ltb}
use Rattle.table.specs.Limits.{labels_length, edges_length}
use Rattle.table.specs.Answer.{Outcome, refuse, after, ◌then◌}
use Rattle.table.specs.Lent.{Lent}
use Rattle.table.specs.Check.{check_of}
use Rattle.table.specs.declared.Refusal.TheVariants.{ShortBuffer}
use Rattle.file.specs.Layout.{file_of}
use Rattle.file.specs.Reading.{file_limit, table_in, wrong_with}

-- of the reader, with lent labels and edges of these lengths
unfoldable pub read_checks : List ℕ → ℕ → ℕ → Outcome
read_checks f labels edges = refuse (ltb labels labels_length || ltb edges edges_length) ShortBuffer then wrong_with f

-- the lent buffers after the reading: the table's entries, and behind them what was there
abbrev pub labels_read : Outcome → List ℕ → List ℕ → List ℕ
labels_read o f old = after o old ((table_in f).labels ++ drop (table_in f).n old)

abbrev pub edges_read : Outcome → List ℕ → List ℕ → List ℕ
edges_read o f old = after o old ((table_in f).edges ++ drop (3 * (table_in f).m) old)

-- of the writer, with an output of this length; and the output after the writing: the file, and behind it what was there
unfoldable pub write_checks : Lent → ℕ → Outcome
write_checks t out = refuse (ltb out file_limit) ShortBuffer then check_of t

abbrev pub written : Outcome → Lent → List ℕ → List ℕ
written o t old = after o old (file_of t ++ drop (length (file_of t)) old)
