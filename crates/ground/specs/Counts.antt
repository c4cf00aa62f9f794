-- How many numbers below a bound pass a test, and sums over the numbers below a bound.
use Rattle.std.specs.Prelude.{◌≡◌, refl, Bool, true, false, ℕ, zero, suc, ◌+◌, ◌*◌, ◌≤◌, ◌<◌}
use Rattle.std.proofs.Common.{sym, ap, ap₂, subst, ◌∙◌, inl, inr, arith, not-suc-le-zero, le_refl, add-one}
use Rattle.std.proofs.Math.Decide.{dec_lt, le_ind}
use Rattle.std.proofs.lemmas.Bool.{cases_Bool}
use Rattle.ground.specs.Tests.{lt_cases}

-- ---- how many numbers below n pass, and the sum of f over the numbers below n

abbrev pub one : Bool → ℕ
one true = 1
one false = 0

unfoldable pub count : ℕ → (ℕ → Bool) → ℕ
count zero p = 0
count (suc n) p = count n p + one (p n)

unfoldable pub sum : ℕ → (ℕ → ℕ) → ℕ
sum zero f = 0
sum (suc n) f = sum n f + f n

one_mono : (a b : Bool) → (a ≡ true → b ≡ true) → one a ≤ one b
one_mono true b f = rw (f refl) (le_refl 1)
one_mono false b f = omega arith

one_le : (a : Bool) → one a ≤ 1
one_le true = omega arith
one_le false = omega arith

pub count_le : (n : ℕ) (p : ℕ → Bool) → count n p ≤ n
unfolding count
count_le zero p = omega arith
count_le (suc n) p = omega (arith, count_le n p, one_le (p n))

pub count_mono : (n : ℕ) (p q : ℕ → Bool) → ((i : ℕ) → i < n → p i ≡ true → q i ≡ true) → count n p ≤ count n q
unfolding count
count_mono zero p q h = le_refl 0
count_mono (suc n) p q h = omega (arith, count_mono n p q (λ i l. h i (omega arith)), one_mono (p n) (q n) (h n (omega arith)))

pub count_strict : (n : ℕ) (p q : ℕ → Bool) → ((i : ℕ) → i < n → p i ≡ true → q i ≡ true)
    → (i : ℕ) → i < n → p i ≡ false → q i ≡ true → count n p < count n q
unfolding count
count_strict zero p q h i l e f = absurd (not-suc-le-zero l)
count_strict (suc n) p q h i l e f = elim (lt_cases l) [
  | inl k ↦ rw (sym (ap p k) ∙ e, sym (ap q k) ∙ f) (omega (arith, count_mono n p q (λ i l. h i (omega arith))))
  | inr k ↦ omega (arith, count_strict n p q (λ i l. h i (omega arith)) i k e f, one_mono (p n) (q n) (h n (omega arith)))
]

pub sum_mono : (n : ℕ) (f g : ℕ → ℕ) → ((i : ℕ) → i < n → f i ≤ g i) → sum n f ≤ sum n g
unfolding sum
sum_mono zero f g h = le_refl 0
sum_mono (suc n) f g h = omega (arith, sum_mono n f g (λ i l. h i (omega arith)), h n (omega arith))

pub sum_strict : (n : ℕ) (f g : ℕ → ℕ) → ((i : ℕ) → i < n → f i ≤ g i) → (i : ℕ) → i < n → f i < g i → sum n f < sum n g
unfolding sum
sum_strict zero f g h i l e = absurd (not-suc-le-zero l)
sum_strict (suc n) f g h i l e = elim (lt_cases l) [
  | inl k ↦ omega (arith, sum_mono n f g (λ i l. h i (omega arith)), subst (λ (x : ℕ). f x < g x) k e)
  | inr k ↦ omega (arith, sum_strict n f g (λ i l. h i (omega arith)) i k e, h n (omega arith))
]

pub sum_le : (n c : ℕ) (f : ℕ → ℕ) → ((i : ℕ) → i < n → f i ≤ c) → sum n f ≤ n * c
unfolding sum
sum_le zero c f h = omega arith
sum_le (suc n) c f h = omega (arith, sum_le n c f (λ i l. h i (omega arith)), h n (omega arith))

pub sum_ge : (n c : ℕ) (f : ℕ → ℕ) → ((i : ℕ) → i < n → c ≤ f i) → n * c ≤ sum n f
unfolding sum
sum_ge zero c f h = omega arith
sum_ge (suc n) c f h = omega (arith, sum_ge n c f (λ i l. h i (omega arith)), h n (omega arith))

-- ---- a longer range

pub count_more : (p : ℕ → Bool) (i n : ℕ) → i ≤ n → count i p ≤ count n p
unfolding count
count_more p i n h = le_ind (λ (k : ℕ). count i p ≤ count k p) (le_refl (count i p)) (λ k l ih. omega arith) n h

pub count_past : (p : ℕ → Bool) (i n : ℕ) → i < n → p i ≡ true → count i p < count n p
unfolding count
count_past p i n h e = let m = rw e at (count_more p (suc i) n h) in omega arith

pub count_ge : (n : ℕ) (p : ℕ → Bool) (i : ℕ) → i < n → p i ≡ true → 1 ≤ count n p
count_ge n p i l e = omega (arith, count_past p i n l e)

pub sum_more : (f : ℕ → ℕ) (i n : ℕ) → i ≤ n → sum i f ≤ sum n f
unfolding sum
sum_more f i n h = le_ind (λ (k : ℕ). sum i f ≤ sum k f) (le_refl (sum i f)) (λ k l ih. omega arith) n h

pub sum_past : (f : ℕ → ℕ) (i n : ℕ) → i < n → sum i f + f i ≤ sum n f
unfolding sum
sum_past f i n h = sum_more f (suc i) n h

-- every number below the count is some pair's
pub count_find : (p : ℕ → Bool) (n d : ℕ) → d < count n p → (v : ℕ) × (v < n) × (p v ≡ true) × (count v p ≡ d)
unfolding count
count_find p zero d h = absurd (not-suc-le-zero h)
count_find p (suc n) d h = elim (dec_lt d (count n p)) [
  | yes l ↦ let x = count_find p n d l in (x.0, omega (arith, x.1), x.2, x.3)
  | no l ↦ elim (cases_Bool (p n)) [
    | inl e ↦ (n, le_refl (suc n), e, (let h' : d < count n p + 1 = rw e at h in omega arith))
    | inr e ↦ absurd (let h' : d < count n p + 0 = rw e at h in omega arith)
  ]
]

pub sum_find : (f : ℕ → ℕ) (n d : ℕ) → d < sum n f → (u : ℕ) × (u < n) × (sum u f ≤ d) × (d < sum u f + f u)
unfolding sum
sum_find f zero d h = absurd (not-suc-le-zero h)
sum_find f (suc n) d h = elim (dec_lt d (sum n f)) [
  | yes l ↦ let x = sum_find f n d l in (x.0, omega (arith, x.1), x.2, x.3)
  | no l ↦ (n, le_refl (suc n), omega arith, h)
]

-- ---- one number more, and tests that agree

pub count_zero : (p : ℕ → Bool) → count 0 p ≡ 0
unfolding count
count_zero p = refl

pub count_yes : (p : ℕ → Bool) (i : ℕ) → p i ≡ true → count (i + 1) p ≡ count i p + 1
unfolding count
count_yes p i e = rw (add-one i, e)

pub count_no : (p : ℕ → Bool) (i : ℕ) → p i ≡ false → count (i + 1) p ≡ count i p
unfolding count
count_no p i e = rw (add-one i, e) (omega arith)

pub count_ext : (n : ℕ) (p q : ℕ → Bool) → ((x : ℕ) → x < n → p x ≡ q x) → count n p ≡ count n q
unfolding count
count_ext zero p q h = refl
count_ext (suc n) p q h = ap₂ (λ (a b : ℕ). a + b) (count_ext n p q (λ x l. h x (omega arith))) (ap one (h n (le_refl (suc n))))

pub sum_ext : (n : ℕ) (f g : ℕ → ℕ) → ((x : ℕ) → x < n → f x ≡ g x) → sum n f ≡ sum n g
unfolding sum
sum_ext zero f g h = refl
sum_ext (suc n) f g h = ap₂ (λ (a b : ℕ). a + b) (sum_ext n f g (λ x l. h x (omega arith))) (h n (le_refl (suc n)))
