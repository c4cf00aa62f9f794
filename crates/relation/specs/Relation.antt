-- What start, single round, whole run and question come to, for a table that is lent.
use Rattle.std.specs.Prelude.{ℕ, suc, ◌*◌, Bool, not, List, ltb, Result, Ok}
use Rattle.ground.specs.Tests.{first}
use Rattle.ground.specs.Relations.{Rel, falls}
use Rattle.theory.specs.Graph.{step, round}
use Rattle.table.specs.Limits.{relation_length}
use Rattle.table.specs.Answer.{Outcome, refuse, ◌then◌}
use Rattle.table.specs.Lent.{Lent, graph_of, fits}
use Rattle.table.specs.Check.{check_of, known_of}
use Rattle.table.specs.declared.Refusal.{Refusal}
use Rattle.table.specs.declared.Refusal.TheVariants.{ShortBuffer}
use Rattle.relation.specs.Words.{bit_of}

-- relation k of the table
abbrev pub relation_at : Lent → ℕ → Rel
relation_at t k = round (graph_of t) (graph_of t) (fits t) k

-- the relation after the one that a buffer holds, by the edge rule
abbrev pub next_of : Lent → List ℕ → Rel
next_of t ws = step (graph_of t) (graph_of t) (bit_of ws)

-- relation k equals the next
abbrev pub settled : Lent → ℕ → Bool
settled t k = not (falls t.n t.n (relation_at t k) (relation_at t (suc k)))

-- the least k whose relation equals the next
abbrev pub rounds_of : Lent → ℕ
rounds_of t = first (suc (t.n * t.n)) (settled t)

-- A lies under B, as the run finds it
abbrev pub lies_under : Lent → Rel
lies_under t = relation_at t (rounds_of t)

-- ---- refusals: 9, 4, 5, 6, 7, and 8 where classes are asked for

-- of a call that is lent one relation, and one that is lent two
unfoldable pub relation_checks : Lent → ℕ → Outcome
relation_checks t words = refuse (ltb words relation_length) ShortBuffer then check_of t

unfoldable pub round_checks : Lent → ℕ → ℕ → Outcome
round_checks t words next = refuse (ltb words relation_length) ShortBuffer then relation_checks t next

unfoldable pub ask_checks : Lent → ℕ → ℕ → Outcome
ask_checks t a b = check_of t then known_of t.n a b

abbrev pub reply_of : Bool → Result Bool Refusal
reply_of t = Ok t
