-- Bits of words: which are set (`has`), what masks do to them, one set within another (`among`), and the word with given bits (`word_of`).
use Rattle.std.specs.Prelude.{◌≡◌, refl, Bool, true, false, ◌&&◌, ◌||◌, ◌⊎◌, ◌↔◌, ℕ, zero, suc, ◌+◌, ◌*◌, ◌/◌, ◌%◌, ◌^◌, ◌<◌, eqb}
use Rattle.std.proofs.Common.{sym, ap, ap₂, ◌∙◌, inl, inr, arith, not-suc-le-zero, zero-lt-suc, add-one, shl_exact, eqb-true, eq-eqb, ne_eqb}
use Rattle.std.specs.Int.Bits.{bit_and, bit_or, or_shifted_r}
use Rattle.std.proofs.lemmas.Nat.{and_le_l}
use Rattle.std.proofs.Math.Pow.{high}
use Rattle.std.proofs.lemmas.Nat.Bits.{bit_at-suc, bit_at-zero, bit_at_and, bit_at_or, bit_at-pow_same, bit_at-pow_other, bit_at-lt, bit_at_cat_low, same_from_bits_below}
use Rattle.std.proofs.lemmas.Bool.{cases_eq, or_left, or_right, or_cases, cases_Bool}
use Rattle.std.proofs.lemmas.Bool.Decides.{nat_tests}
use Rattle.ground.specs.Tests.{and_in, and_l, and_r, same_test, lt_cases}
use Rattle.ground.specs.Counts.{one}

-- bit k of the word x is set
abbrev pub has : ℕ → ℕ → Bool
has x k = eqb (x / 2 ^ k % 2) 1

-- ---- masks, bit by bit

pub mod2 : (x : ℕ) → (x % 2 ≡ 0) ⊎ (x % 2 ≡ 1)
mod2 x = grind arith

pub has_and : (x y k : ℕ) → has (bit_and x y) k ≡ (has x k && has y k)
has_and x y k = rw (bit_at_and x y k) (grind (arith, nat_tests, bit_at-lt x k, bit_at-lt y k))

pub has_or : (x y k : ℕ) → has (bit_or x y) k ≡ (has x k || has y k)
has_or x y k = rw (bit_at_or x y k) (grind (arith, nat_tests, bit_at-lt x k, bit_at-lt y k))

pub has_suc : (x j : ℕ) → has x (suc j) ≡ has (x / 2) j
has_suc x j = ap (λ (z : ℕ). eqb z 1) (bit_at-suc x j)

pub has_zero : (j : ℕ) → has 0 j ≡ false
has_zero j = rw (bit_at-zero j)

-- the word with one bit set
pub has_pow : (i j : ℕ) → has (2 ^ i) j ≡ eqb i j
has_pow i j = elim (cases_eq i j) [
  | inl e ↦ rw (e, bit_at-pow_same j, eq-eqb j j refl)
  | inr n ↦ rw (bit_at-pow_other i j (λ e. n (sym e)), ne_eqb i j n)
]

-- two words of k bits with the same bits are one
pub same_bits : (k x y : ℕ) → x < 2 ^ k → y < 2 ^ k → ((i : ℕ) → i < k → has x i ≡ has y i) → x ≡ y
same_bits k x y h l f = same_from_bits_below k x y h l (λ i m. grind (arith, nat_tests, bit_at-lt x i, bit_at-lt y i, f i m))

-- ---- every set bit of x is among those of y, tested by a mask

unfoldable pub among : ℕ → ℕ → Bool
among x y = eqb (bit_and x y) x

pub among_out : (x y : ℕ) → among x y ≡ true → (i : ℕ) → has x i ≡ true → has y i ≡ true
unfolding among
among_out x y e i d = and_r (has x i) (has y i) (sym (has_and x y i) ∙ ap (λ (z : ℕ). has z i) (eqb-true (bit_and x y) x e) ∙ d)

pub lt_pow : (x : ℕ) → x < 2 ^ x
lt_pow zero = omega arith
lt_pow (suc x) = omega (arith, lt_pow x)

pub among_in : (x y : ℕ) → ((i : ℕ) → has x i ≡ true → has y i ≡ true) → among x y ≡ true
unfolding among
among_in x y f = eq-eqb (bit_and x y) x (same_bits x (bit_and x y) x (omega (arith, and_le_l x y, lt_pow x)) (lt_pow x)
    (λ i l. has_and x y i ∙ same_test (has x i && has y i) (has x i) (and_l (has x i) (has y i)) (λ d. and_in d (f i d))))

pub among_refl : (x : ℕ) → among x x ≡ true
among_refl x = among_in x x (λ i d. d)

pub among_trans : (x y z : ℕ) → among x y ≡ true → among y z ≡ true → among x z ≡ true
among_trans x y z e f = among_in x z (λ i d. among_out y z f i (among_out x y e i d))

pub among_and_l : (x y : ℕ) → among (bit_and x y) x ≡ true
among_and_l x y = among_in (bit_and x y) x (λ i d. and_l (has x i) (has y i) (sym (has_and x y i) ∙ d))

pub among_and_r : (x y : ℕ) → among (bit_and x y) y ≡ true
among_and_r x y = among_in (bit_and x y) y (λ i d. and_r (has x i) (has y i) (sym (has_and x y i) ∙ d))

pub among_and : (z x y : ℕ) → among z x ≡ true → among z y ≡ true → among z (bit_and x y) ≡ true
among_and z x y e f = among_in z (bit_and x y) (λ i d. has_and x y i ∙ and_in (among_out z x e i d) (among_out z y f i d))

pub among_or_l : (x y : ℕ) → among x (bit_or x y) ≡ true
among_or_l x y = among_in x (bit_or x y) (λ i d. has_or x y i ∙ or_left (has x i) (has y i) d)

pub among_or_r : (x y : ℕ) → among y (bit_or x y) ≡ true
among_or_r x y = among_in y (bit_or x y) (λ i d. has_or x y i ∙ or_right (has x i) (has y i) d)

pub among_or : (x y z : ℕ) → among x z ≡ true → among y z ≡ true → among (bit_or x y) z ≡ true
among_or x y z e f = among_in (bit_or x y) z (λ i d. elim (or_cases (has x i) (has y i) (sym (has_or x y i) ∙ d)) [ inl a ↦ among_out x z e i a | inr b ↦ among_out y z f i b ])

-- what the test says
pub among_iff : (x y : ℕ) → (among x y ≡ true) ↔ ((k : ℕ) → has x k ≡ true → has y k ≡ true)
among_iff x y = (among_out x y, among_in x y)

-- ---- the word whose bits below k are those that p gives, and whose others are 0

unfoldable pub word_of : ℕ → (ℕ → Bool) → ℕ
word_of zero p = 0
word_of (suc k) p = one (p k) * 2 ^ k + word_of k p

pub word_lt : (k : ℕ) (p : ℕ → Bool) → word_of k p < 2 ^ k
unfolding word_of
word_lt zero p = zero-lt-suc 0
word_lt (suc k) p = elim (cases_Bool (p k)) [ inl e ↦ rw e (omega (arith, word_lt k p)) | inr e ↦ rw e (omega (arith, word_lt k p)) ]

pub word_zero : (p : ℕ → Bool) → word_of 0 p ≡ 0
unfolding word_of
word_zero p = refl

pub word_set : (k : ℕ) (p : ℕ → Bool) → k < 64 → p k ≡ true → bit_or (word_of k p) (1 * 2 ^ k % 2 ^ 64) ≡ word_of (k + 1) p
unfolding word_of
word_set k p l e = rw (add-one k, e, shl_exact {a = 1} 1 k 64 (omega arith) (omega arith)) (or_shifted_r 1 k (word_of k p) (word_lt k p))

pub word_skip : (k : ℕ) (p : ℕ → Bool) → p k ≡ false → word_of k p ≡ word_of (k + 1) p
unfolding word_of
word_skip k p e = rw (add-one k, e) (omega arith)

pub word_none : (k : ℕ) (p : ℕ → Bool) → ((i : ℕ) → p i ≡ false) → word_of k p ≡ 0
unfolding word_of
word_none zero p h = refl
word_none (suc k) p h = rw (h k) (omega (arith, word_none k p h))

pub has_word : (k : ℕ) (p : ℕ → Bool) (j : ℕ) → j < k → has (word_of k p) j ≡ p j
unfolding word_of
has_word zero p j l = absurd (not-suc-le-zero l)
has_word (suc k) p j l =
    elim (lt_cases l) [
      | inl q ↦ rw (q, high (one (p k)) k (word_lt k p)) (elim (cases_Bool (p k)) [ inl e ↦ rw e | inr e ↦ rw e ])
      | inr h ↦ ap (λ (x : ℕ). eqb x 1) (bit_at_cat_low (one (p k)) k (word_of k p) j h) ∙ has_word k p j h
    ]

pub word_of_ext : (k : ℕ) (p q : ℕ → Bool) → ((j : ℕ) → j < k → p j ≡ q j) → word_of k p ≡ word_of k q
unfolding word_of
word_of_ext zero p q h = refl
word_of_ext (suc k) p q h = ap₂ (λ (b : Bool) (x : ℕ). one b * 2 ^ k + x) (h k (omega arith)) (word_of_ext k p q (λ j l. h j (omega arith)))
