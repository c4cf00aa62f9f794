-- What `Lines::new` answers: how many classes the lines are of, and the relation's words, or why there are none.
use Rattle.std.specs.Prelude.{ℕ, ◌≡◌, List, length, Result, Ok, Err}
use Rattle.table.specs.Answer.{or_else}
use Rattle.table.specs.Determined.{same}
use Rattle.table.specs.declared.Refusal.{Refusal}
use Rattle.report.specs.Listing.{listing_checks}
use Rattle.report.specs.declared.Lines.{Lines}

-- what an answer holds, wherever the words lie
abbrev pub shown : Result Lines Refusal → Result (ℕ × List ℕ) Refusal
shown (Ok l) = Ok (l.n, l.relation.now)
shown (Err r) = Err r

abbrev pub lines_given : ℕ → List ℕ → Result (ℕ × List ℕ) Refusal
lines_given n words = or_else Err (listing_checks n (length words)) (Ok (n, words))

pub lines-new-determined : (n : ℕ) (words : List ℕ) (r s : Result Lines Refusal) → shown r ≡ lines_given n words → shown s ≡ lines_given n words → shown r ≡ shown s
lines-new-determined n words r s = same
