-- What `find` over a range and `position` over a list answer where the closure computes a test: the lowest number that passes.
use Rattle.std.specs.Prelude.{ℕ, ◌≤◌, ◌<◌, ◌≡◌, suc, refl, length, get_or, Bool, true, false, List, [], ◌∷◌, Option, Some, None, MatchOption, ⊤}
use Rattle.std.proofs.Common.{sym, ◌∙◌, inl, inr, arith, le_refl}
use Rattle.std.proofs.Math.Decide.{dec_lt}
use Rattle.std.proofs.lemmas.Iterator.{YieldsList, first_from_Range}
use Rattle.std.proofs.lemmas.Iterator.Search.{position_from_yields_List}
use Rattle.std.proofs.iter.Yields.{nat_range_steps}
use Rattle.std.specs.Fn.{Called, CalledAt}
use Rattle.std.specs.Iterator.{YieldsThen}
use Rattle.std.specs.List.{FoldsTo, position_or_len}
use Rattle.std.specs.declared.ops.Range.{Range}
use Rattle.std.proofs.lemmas.Bool.{cases_Bool}
use denote.Param.Members.{Mut}
use denote.Ref.{Bor}
use Rattle.ground.specs.Tests.{first, found, found_some, found_none}

module _ (a n : ℕ) (p : ℕ → Bool) (early : (k : ℕ) → k < a → p k ≡ false) where
  -- what a call with the number says of its test, where the number is in the range
  abbrev Says : Bool → ℕ → Type 0
  Says b x = a ≤ x → x < n → p x ≡ b

  below : (i : ℕ) → i ≤ n → ((k : ℕ) → a ≤ k → k < i → Says false k) → (k : ℕ) → k < i → p k ≡ false
  below i h none k l = elim (dec_lt k a) [ yes m ↦ early k m | no m ↦ none k (omega arith) l (omega arith) (omega arith) ]

  as_found : (r : Option ℕ)
      → MatchOption r ((k : ℕ) → a ≤ k → k < n → Says false k) (λ i. (a ≤ i) × (i < n) × Says true i × ((k : ℕ) → a ≤ k → k < i → Says false k))
      → r ≡ found n p
  as_found None none = sym (found_none n p (below n (le_refl n) none))
  as_found (Some i) w = sym (found_some n i p w.1 (w.2 w.0 w.1) (below i (omega (arith, w.1)) w.3))

  pub found_in : {F : Type 0} {g : Mut F (Bor ℕ × Unit {0}) Bool} (u : Range ℕ) (f : F) (r : Option ℕ)
      → (xs : List ℕ) × (j : F) × YieldsThen nat_range_steps (record { start = a; end = n }) xs r u × FoldsTo (λ q x q'. CalledAt g q x false q') f xs j × MatchOption r ⊤ (λ x. (q : F) × CalledAt g j x true q)
      → ((x : ℕ) (b : Bool) (q : F) → CalledAt g f x b q → (q ≡ f) × Says b x)
      → r ≡ found n p
  found_in {g = g} u f r ran calls = as_found r (first_from_Range {g = g} _ u f r (Says true) (Says false) ran (λ x q k. (calls x true q k).1) (λ x q k. calls x false q k))

-- the same of `position` over a list's items, with p i the test of item i
first_item : {B : Type 0} (test : B → Bool) (d : B) (xs : List B) (p : ℕ → Bool) → ((i : ℕ) → i < length xs → p i ≡ test (get_or xs i d)) → position_or_len test xs ≡ first (length xs) p
unfolding first
first_item test d [] p e = refl
first_item test d (x ∷ xs) p e = let r = first_item test d xs (λ i. p (suc i)) (λ i l. e (suc i) (omega arith)) in elim (cases_Bool (test x)) [
  | inl t ↦ rw (e 0 (omega arith), t)
  | inr t ↦ rw (e 0 (omega arith), t) (omega arith)
]

pub found_at : {S A B F : Type 0} {steps : S → Option A → S → Type 0} {v : A → B} {g : Mut F (A × Unit {0}) Bool} {s : S} {xs : List B} (test : B → Bool) (d : B) (p : ℕ → Bool) (u : S) (f : F) (r : Option ℕ)
    → (ys : List A) × (o : Option A) × (j : F) × YieldsThen steps s ys o u × FoldsTo (λ q x q'. Called g q (x, tt) false q') f ys j × MatchOption o (r ≡ None) (λ x. (r ≡ Some (length ys)) × ((q : F) × Called g j (x, tt) true q))
    → YieldsList steps v s xs
    → ((x : A) (b : Bool) (q : F) → Called g f (x, tt) b q → (q ≡ f) × (b ≡ test (v x)))
    → ((i : ℕ) → i < length xs → p i ≡ test (get_or xs i d))
    → r ≡ found (length xs) p
found_at {xs = xs} test d p u f r ran all calls e = position_from_yields_List test u f r ran all calls ∙ rw (first_item test d xs p e)
