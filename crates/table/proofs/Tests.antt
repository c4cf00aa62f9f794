-- What the check's tests come to.
use Rattle.std.specs.Prelude.{ℕ, ◌≡◌, ◌≤◌, ◌<◌, ◌/◌, ◌^◌, Bool, false, ltb, Some, None, Ok, Err}
use Rattle.std.proofs.Common.{inl, inr, arith}
use Rattle.std.proofs.Math.Pow.{pow_mono}
use Rattle.std.proofs.lemmas.Bool.{cases_Bool}
use Rattle.ground.specs.Tests.{first, found}
use Rattle.table.specs.Answer.{refuse_first}
use Rattle.table.specs.Check.{label_over}
use Rattle.table.specs.declared.Refusal.{Refusal}

-- no word has a label 64 or above
pub not_over : (p x : ℕ) → 64 ≤ p → x < 2 ^ 64 → false ≡ label_over p x
not_over p x h l = let w : 2 ^ 64 ≤ 2 ^ p = pow_mono h in let k : x < 2 ^ p = omega arith in let z : x / 2 ^ p ≡ 0 = grind arith in rw z

module _ (n : ℕ) (p : ℕ → Bool) (r : ℕ → Refusal) where
  -- a search that finds is a refusal, one that doesn't is none
  pub refused : (i : ℕ) → found n p ≡ Some i → refuse_first n p r ≡ Err (r i)
  refused i e = elim (cases_Bool (ltb (first n p) n)) [
    | inl t ↦ let k = rw t at e in let q : first n p ≡ i = cc in rw (t, q)
    | inr t ↦ let k = rw t at e in cc
  ]

  pub passed : found n p ≡ None → refuse_first n p r ≡ Ok tt
  passed e = elim (cases_Bool (ltb (first n p) n)) [
    | inl t ↦ let k = rw t at e in cc
    | inr t ↦ rw t
  ]
