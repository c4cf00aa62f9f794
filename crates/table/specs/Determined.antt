-- What each public function promises leaves one outcome only: two results that its equations allow are equal. Nothing lent here is changed but the index.
use Rattle.std.specs.Prelude.{◌≡◌, Bool, List, ◌++◌, ℕ, ◌+◌, drop}
use Rattle.std.proofs.Common.{sym, ◌∙◌}
use Rattle.table.specs.Limits.{limits, lengths}
use Rattle.table.specs.Answer.{number_of, place_of, Outcome}
use Rattle.table.specs.Lent.{Lent}
use Rattle.table.specs.Check.{over_limit, check_of, known_of}
use Rattle.table.specs.Edges.{index_of}
use Rattle.table.specs.declared.Table.{Table}
use Rattle.table.specs.declared.Lengths.{Lengths}
use Rattle.table.specs.declared.Refusal.{Refusal}

-- two values that one equation allows are equal
pub same {ℓ} : {A : Type ℓ} {x y z : A} → x ≡ z → y ≡ z → x ≡ y
same p q = p ∙ sym q

pub table-limits-determined : (r s : Table) → r ≡ limits → s ≡ limits → r ≡ s
table-limits-determined r s = same

pub table-lengths-determined : (r s : Lengths) → r ≡ lengths → s ≡ lengths → r ≡ s
table-lengths-determined r s = same

pub refusal-number-determined : (x : Refusal) (r s : ℕ) → r ≡ number_of x → s ≡ number_of x → r ≡ s
refusal-number-determined x r s = same

pub refusal-place-determined : (x : Refusal) (r s : ℕ) → r ≡ place_of x → s ≡ place_of x → r ≡ s
refusal-place-determined x r s = same

pub over-limit-determined : (n m p q : ℕ) (r s : Bool) → r ≡ over_limit n m p q → s ≡ over_limit n m p q → r ≡ s
over-limit-determined n m p q r s = same

pub check-determined : (t : Lent) (r s : Outcome) → r ≡ check_of t → s ≡ check_of t → r ≡ s
check-determined t r s = same

pub known-determined : (n a b : ℕ) (r s : Outcome) → r ≡ known_of n a b → s ≡ known_of n a b → r ≡ s
known-determined n a b r s = same

pub index-determined : (es : List ℕ) (m n : ℕ) (old r s : List ℕ) → r ≡ index_of es m n ++ drop (n + 1) old → s ≡ index_of es m n ++ drop (n + 1) old → r ≡ s
index-determined es m n old r s = same
