-- A relation in words: four words for each row, the bit of row B and column A in word A / 64 of the row at A % 64.
-- Sets of pairs that other layers keep are held in the same way.
use Rattle.std.specs.Prelude.{◌≡◌, Bool, true, false, ◌&&◌, ◌||◌, List, ◌++◌, ℕ, ◌+◌, ◌*◌, ◌/◌, ◌%◌, ◌^◌, ◌≤◌, ◌<◌, eqb, ltb, length, set, drop, replicate}
use Rattle.std.proofs.Math.Path.{sym, ap}
use Rattle.std.proofs.Common.{◌∙◌, length-set, length-append, length-drop, get_or-set_other, arith}
use Rattle.std.proofs.Math.Bool.{or-false}
use Rattle.std.proofs.Math.Decide.{ℕ_discrete}
use Rattle.std.proofs.Math.ListN.{get_or, get_or-append}
use Rattle.std.proofs.lemmas.List.{get_or-replicate}
use Rattle.std.proofs.Math.Seq.{get_or-set_same}
use Rattle.std.specs.Int.Bits.{bit_and, bit_or}
use Rattle.std.proofs.lemmas.Nat.{and_mask, one_shl}
use Rattle.std.proofs.lemmas.Bool.Decides.{nat_tests}
use Rattle.std.proofs.lemmas.Bool.{lt-ltb}
use Rattle.ground.specs.Relations.{Rel}
use Rattle.ground.specs.Lists.{tabulate, length_tabulate, get_or_tabulate}
use Rattle.ground.specs.Bits.{has, has_or, has_pow, has_zero, has_word, word_of, word_lt, same_bits}

-- the bit of row b, column a
unfoldable pub bit_of : List ℕ → Rel
bit_of ws b a = has (get_or ws (4 * b + a / 64) 0) (a % 64)

-- word w of the relation that holds the pairs of r within n by n, and no other
abbrev pub bit_in : ℕ → Rel → ℕ → ℕ → Bool
bit_in n r w k = ltb (w / 4) n && (ltb (w % 4 * 64 + k) n && r (w / 4) (w % 4 * 64 + k))

unfoldable pub word_in : ℕ → Rel → ℕ → ℕ
word_in n r w = word_of 64 (bit_in n r w)

-- a buffer with that relation in its first 1,024 words, and behind them what stood there
unfoldable pub relation_over : ℕ → Rel → List ℕ → List ℕ
relation_over n r old = tabulate 1024 (word_in n r) ++ drop 1024 old

-- the pairs of r within n by n
abbrev pub cut : ℕ → Rel → Rel
cut n r b a = ltb b n && (ltb a n && r b a)

pub cut_in : (n : ℕ) (r : Rel) (b a : ℕ) → b < n → a < n → cut n r b a ≡ r b a
cut_in n r b a h l = rw (lt-ltb b n h, lt-ltb a n l)

pub cut_inside : (n : ℕ) (r : Rel) (b a : ℕ) → cut n r b a ≡ true → (b < n) × (a < n)
cut_inside n r b a e = (grind (arith, nat_tests), grind (arith, nat_tests))

-- ---- the bits of such a buffer are the relation's

pub length_over_relation : (n : ℕ) (r : Rel) (old : List ℕ) → 1024 ≤ length old → length (relation_over n r old) ≡ length old
unfolding relation_over
length_over_relation n r old h = simp (length-append, length_tabulate, length-drop) (omega arith)

pub word_over : (n : ℕ) (r : Rel) (old : List ℕ) (w : ℕ) → w < 1024 → get_or (relation_over n r old) w 0 ≡ word_in n r w
unfolding relation_over
word_over n r old w l = get_or-append (tabulate 1024 (word_in n r)) (drop 1024 old) 0 w (omega (arith, length_tabulate 1024 (word_in n r))) ∙ get_or_tabulate 1024 (word_in n r) 0 w l

pub bit_over : (n : ℕ) (r : Rel) (old : List ℕ) (b a : ℕ) → b < 256 → a < 256 → bit_of (relation_over n r old) b a ≡ cut n r b a
unfolding bit_of word_in
bit_over n r old b a bl al =
    let row : (4 * b + a / 64) / 4 ≡ b = omega arith in
    let col : (4 * b + a / 64) % 4 * 64 + a % 64 ≡ a = omega arith in
    rw (word_over n r old (4 * b + a / 64) (omega arith), has_word 64 (bit_in n r (4 * b + a / 64)) (a % 64) (omega arith), row, col)

pub words_fit : (n : ℕ) (r : Rel) (old : List ℕ) (w : ℕ) → w < 1024 → get_or (relation_over n r old) w 0 < 2 ^ 64
unfolding word_in
words_fit n r old w l = rw (word_over n r old w l) (word_lt 64 (bit_in n r w))

-- two buffers whose bits agree have the same words
pub same_words : (vs ws : List ℕ) → ((i : ℕ) → i < 1024 → get_or vs i 0 < 2 ^ 64) → ((i : ℕ) → i < 1024 → get_or ws i 0 < 2 ^ 64)
    → ((y x : ℕ) → y < 256 → x < 256 → bit_of vs y x ≡ bit_of ws y x) → (i : ℕ) → i < 1024 → get_or vs i 0 ≡ get_or ws i 0
unfolding bit_of
same_words vs ws hv hw f i l = same_bits 64 (get_or vs i 0) (get_or ws i 0) (hv i l) (hw i l) (λ j h.
    let w : 4 * (i / 4) + (64 * (i % 4) + j) / 64 ≡ i = omega arith in
    let d : (64 * (i % 4) + j) % 64 ≡ j = omega arith in
    rw (w, d) at (f (i / 4) (64 * (i % 4) + j) (omega arith) (omega arith)))

-- words that are equal hold the same bits
pub equal_words : (vs ws : List ℕ) → ((i : ℕ) → i < 1024 → get_or vs i 0 ≡ get_or ws i 0) → (y x : ℕ) → y < 256 → x < 256 → bit_of vs y x ≡ bit_of ws y x
unfolding bit_of
equal_words vs ws f y x yl xl = ap (λ (w : ℕ). has w (x % 64)) (f (4 * y + x / 64) (omega arith))

-- ---- a bit read by shift and mask, and a bit set by shift and mask

pub bit_read : (ws : List ℕ) (b a : ℕ) → eqb (bit_and (get_or ws (4 * b + a / 64) 0 / 2 ^ (a % 64)) 1) 1 ≡ bit_of ws b a
unfolding bit_of
bit_read ws b a = ap (λ (z : ℕ). eqb z 1) (and_mask (get_or ws (4 * b + a / 64) 0 / 2 ^ (a % 64)) 1)

-- ws with the bit of row b, column a set
unfoldable pub with_pair : List ℕ → ℕ → ℕ → List ℕ
with_pair ws b a = set ws (4 * b + a / 64) (bit_or (get_or ws (4 * b + a / 64) 0) (2 ^ (a % 64)))

pub pair_set : (ws : List ℕ) (b a : ℕ) → set ws (4 * b + a / 64) (bit_or (get_or ws (4 * b + a / 64) 0) (1 * 2 ^ (a % 64) % 2 ^ 64)) ≡ with_pair ws b a
unfolding with_pair
pair_set ws b a = rw (one_shl (a % 64) 64 (omega arith))

pub length_pair : (ws : List ℕ) (b a : ℕ) → length (with_pair ws b a) ≡ length ws
unfolding with_pair
length_pair ws b a = length-set ws (4 * b + a / 64) (bit_or (get_or ws (4 * b + a / 64) 0) (2 ^ (a % 64)))

module _ (ws : List ℕ) (b a : ℕ) (long : 1024 ≤ length ws) (bl : b < 256) (al : a < 256) where
  pub bit_with : (y x : ℕ) → y < 256 → x < 256 → bit_of (with_pair ws b a) y x ≡ (bit_of ws y x || (eqb b y && eqb a x))
  unfolding bit_of with_pair
  bit_with y x yl xl = elim (ℕ_discrete (4 * y + x / 64) (4 * b + a / 64)) [
    | yes e ↦ let same : b ≡ y = omega arith in let t : eqb (a % 64) (x % 64) ≡ (eqb b y && eqb a x) = grind (arith, nat_tests) in
        rw (e, get_or-set_same ws (4 * b + a / 64) _ 0 (omega arith), has_or (get_or ws (4 * b + a / 64) 0) (2 ^ (a % 64)) (x % 64), has_pow (a % 64) (x % 64), t)
    | no e ↦ let n : (eqb b y && eqb a x) ≡ false = grind (arith, nat_tests) in
        rw (get_or-set_other ws (4 * b + a / 64) (4 * y + x / 64) _ 0 e, n) (sym (or-false (bit_of ws y x)))
  ]

-- no bit is set in words that are zero
pub bit_none : (y x : ℕ) → y < 256 → x < 256 → bit_of (replicate 1024 0) y x ≡ false
unfolding bit_of
bit_none y x yl xl = ap (λ (w : ℕ). has w (x % 64)) (get_or-replicate 1024 (4 * y + x / 64) 0 0 (omega arith)) ∙ has_zero (x % 64)
