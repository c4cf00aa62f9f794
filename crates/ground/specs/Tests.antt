-- Tests over the numbers below a bound, as functions to Bool that compute: every number passes (`all`), some number does (`any`), and the lowest that does (`first`).
-- A fact of a test is `t ≡ true`, as the branches of code hand it over. `all` and `any` recurse on the bound from above, which is the step of a loop that counts upward.
-- How many numbers pass is in Counts.antt.
use Rattle.std.specs.Prelude.{◌≡◌, refl, Bool, true, false, cond, not, ◌&&◌, ◌||◌, ◌⊎◌, ℕ, zero, suc, ◌+◌, ◌≤◌, ◌<◌, ltb, Option, Some, None, unwrap_or}
use Rattle.std.proofs.Common.{ap, ap₂, inl, inr, arith, not-suc-le-zero, eq-or-lt_of_le, le_of_suc-le-suc, le_refl, ltb-false, le-ltb, lt-ltb}
use Rattle.std.proofs.lemmas.Bool.Decides.{same_from_decides, nat_tests}
use Rattle.std.proofs.lemmas.Bool.{false≢true, and_parts, or_parts, or_left, or_right, cases_Bool, cases_eq, false_from_ne_true}

-- ---- tests as facts

pub ff {ℓ} : {X : Type ℓ} → false ≡ true → X
ff e = absurd (false≢true e)

pub and_in : {a b : Bool} → a ≡ true → b ≡ true → (a && b) ≡ true
and_in p q = rw p q

pub and_l : (a b : Bool) → (a && b) ≡ true → a ≡ true
and_l a b e = (and_parts a b e).0

pub and_r : (a b : Bool) → (a && b) ≡ true → b ≡ true
and_r a b e = (and_parts a b e).1

pub none_l : (a b : Bool) → (a || b) ≡ false → a ≡ false
none_l a b e = (or_parts a b e).0

pub none_r : (a b : Bool) → (a || b) ≡ false → b ≡ false
none_r a b e = (or_parts a b e).1

-- "if p then q", as a test
pub implies_in : (p q : Bool) → (p ≡ true → q ≡ true) → (not p || q) ≡ true
implies_in true q f = f refl
implies_in false q f = refl

pub implies_out : (p q : Bool) → (not p || q) ≡ true → p ≡ true → q ≡ true
implies_out true q e _ = e
implies_out false q e p = ff p

-- two tests that imply one another are equal
pub same_test : (a b : Bool) → (a ≡ true → b ≡ true) → (b ≡ true → a ≡ true) → a ≡ b
same_test a b f g = same_from_decides {P = b ≡ true} a b (f, g) ((λ e. e), (λ e. e))

-- ---- every number below n passes, and some number below n does

unfoldable pub all : ℕ → (ℕ → Bool) → Bool
all zero p = true
all (suc n) p = all n p && p n

unfoldable pub any : ℕ → (ℕ → Bool) → Bool
any zero p = false
any (suc n) p = any n p || p n

pub lt_cases : {i n : ℕ} → i < suc n → (i ≡ n) ⊎ (i < n)
lt_cases h = eq-or-lt_of_le (le_of_suc-le-suc h)

pub all_in : (n : ℕ) (p : ℕ → Bool) → ((i : ℕ) → i < n → p i ≡ true) → all n p ≡ true
unfolding all
all_in zero p h = refl
all_in (suc n) p h = and_in (all_in n p (λ i l. h i (omega arith))) (h n (omega arith))

pub all_out : (n : ℕ) (p : ℕ → Bool) → all n p ≡ true → (i : ℕ) → i < n → p i ≡ true
unfolding all
all_out zero p e i l = absurd (not-suc-le-zero l)
all_out (suc n) p e i l = elim (lt_cases l) [ inl q ↦ rw q (and_r (all n p) (p n) e) | inr k ↦ all_out n p (and_l (all n p) (p n) e) i k ]

pub any_in : (n : ℕ) (p : ℕ → Bool) (i : ℕ) → i < n → p i ≡ true → any n p ≡ true
unfolding any
any_in zero p i l e = absurd (not-suc-le-zero l)
any_in (suc n) p i l e = elim (lt_cases l) [ inl q ↦ or_right (any n p) (p n) (rw q at e) | inr k ↦ or_left (any n p) (p n) (any_in n p i k e) ]

pub none_out : (n : ℕ) (p : ℕ → Bool) → any n p ≡ false → (i : ℕ) → i < n → p i ≡ false
none_out n p e i l = false_from_ne_true (p i) (λ t. let h = any_in n p i l t in cc)

pub any_ext : (n : ℕ) (p q : ℕ → Bool) → ((i : ℕ) → i < n → p i ≡ q i) → any n p ≡ any n q
unfolding any
any_ext zero p q h = refl
any_ext (suc n) p q h = ap₂ ◌||◌ (any_ext n p q (λ i l. h i (omega arith))) (h n (le_refl (suc n)))

-- a number below n that passes, and none before it does
pub record Lowest (n : ℕ) (p : ℕ → Bool) : Type 0 where
  pub at : ℕ
  pub below : at < n
  pub passes : p at ≡ true
  pub earlier : (j : ℕ) → j < at → p j ≡ false

pub any_out : (n : ℕ) (p : ℕ → Bool) → any n p ≡ true → Lowest n p
unfolding any
any_out zero p e = ff e
any_out (suc n) p e = elim (cases_Bool (any n p)) [
  | inl t ↦ let r = any_out n p t in record { at = r.at; below = omega arith; passes = r.passes; earlier = r.earlier }
  | inr f ↦ record { at = n; below = le_refl (suc n); passes = rw f at e; earlier = none_out n p f }
]

-- ---- the lowest number below n that passes, or n where there is none
unfoldable pub first : ℕ → (ℕ → Bool) → ℕ
first zero p = 0
first (suc n) p = cond (p 0) 0 (suc (first n (λ i. p (suc i))))

-- what it finds: it is within the bound, what stands before it fails, and it passes
pub first_le : (n : ℕ) (p : ℕ → Bool) → first n p ≤ n
unfolding first
first_le zero p = omega arith
first_le (suc n) p = let h = first_le n (λ i. p (suc i)) in grind arith

pub first_below : (n : ℕ) (p : ℕ → Bool) (i : ℕ) → i < first n p → p i ≡ false
unfolding first
first_below zero p i h = absurd (omega arith)
first_below (suc n) p zero h = grind arith
first_below (suc n) p (suc i) h = first_below n (λ k. p (suc k)) i (grind arith)

pub first_passes : (n : ℕ) (p : ℕ → Bool) → first n p < n → p (first n p) ≡ true
unfolding first
first_passes zero p h = absurd (omega arith)
first_passes (suc n) p h = elim (cases_Bool (p 0)) [
  | inl e ↦ rw e e
  | inr e ↦ let l : suc (first n (λ i. p (suc i))) < suc n = rw e at h in rw e (first_passes n (λ i. p (suc i)) (omega arith))
]

-- a search that starts, comes to its end, passes a number by, and finds one
pub first_start : (p : ℕ → Bool) → first 0 p ≡ 0
unfolding first
first_start p = refl

pub first_none : (n : ℕ) (p : ℕ → Bool) → ((i : ℕ) → i < n → p i ≡ false) → first n p ≡ n
unfolding first
first_none zero p h = refl
first_none (suc n) p h = rw (h 0 (omega arith)) (ap suc (first_none n (λ k. p (suc k)) (λ i l. h (suc i) (omega arith))))

pub first_more : (i : ℕ) (p : ℕ → Bool) → first i p ≡ i → p i ≡ false → first (i + 1) p ≡ i + 1
first_more i p e h = first_none (i + 1) p (λ k l. elim (cases_eq k i) [ inl q ↦ rw q h | inr n ↦ first_below i p k (omega arith) ])

pub first_found : (n i : ℕ) (p : ℕ → Bool) → i < n → first i p ≡ i → p i ≡ true → first n p ≡ i
unfolding first
first_found zero i p l e h = absurd (omega arith)
first_found (suc n) zero p l e h = rw h
first_found (suc n) (suc i) p l e h =
    let x : first i (λ k. p (suc k)) ≡ i = grind arith in let r = first_found n i (λ k. p (suc k)) (omega arith) x h in grind arith

pub first_ext : (n : ℕ) (p q : ℕ → Bool) → ((i : ℕ) → i < n → p i ≡ q i) → first n p ≡ first n q
unfolding first
first_ext zero p q e = refl
first_ext (suc n) p q e = rw (e 0 (omega arith), first_ext n (λ i. p (suc i)) (λ i. q (suc i)) (λ i l. e (suc i) (omega arith)))

-- as a refusal's test: some number below n passes exactly if the search ends before n
pub first_clear : (n : ℕ) (p : ℕ → Bool) → ltb (first n p) n ≡ false → (i : ℕ) → i < n → p i ≡ false
first_clear n p e i h = let k = ltb-false (first n p) n e in first_below n p i (omega arith)

pub first_passed : (n : ℕ) (p : ℕ → Bool) → ((i : ℕ) → i < n → p i ≡ false) → ltb (first n p) n ≡ false
first_passed n p h = let e = first_none n p h in le-ltb (first n p) n (omega arith)

pub first_hit : (r n : ℕ) (p : ℕ → Bool) → r ≡ first n p → r < n → ltb (first n p) n ≡ true
first_hit r n p e h = lt-ltb (first n p) n (omega arith)

pub first_miss : (r n : ℕ) (p : ℕ → Bool) → r ≡ first n p → n ≤ r → ltb (first n p) n ≡ false
first_miss r n p e h = le-ltb (first n p) n (omega arith)

-- ---- the same as an option: that number where there is one

abbrev pub found : ℕ → (ℕ → Bool) → Option ℕ
found n p = cond (ltb (first n p) n) (Some (first n p)) None

pub found_some : (n i : ℕ) (p : ℕ → Bool) → i < n → p i ≡ true → ((k : ℕ) → k < i → p k ≡ false) → found n p ≡ Some i
found_some n i p l e none = let q : first n p ≡ i = first_found n i p l (first_none i p none) e in rw (q, lt-ltb i n l)

pub found_none : (n : ℕ) (p : ℕ → Bool) → ((k : ℕ) → k < n → p k ≡ false) → found n p ≡ None
found_none n p none = rw (first_passed n p none)

-- as a number again, n where there is none
pub found_or : (n : ℕ) (p : ℕ → Bool) → unwrap_or (found n p) n ≡ first n p
found_or n p = let k = first_le n p in grind (arith, nat_tests)
