-- Numbers as bytes, the lowest first: the bytes of a number (`le`), the number that bytes spell (`num`), zeros, and the 16-bit number at a byte (`word`).
use Rattle.std.specs.Prelude.{◌≡◌, refl, Bool, true, false, ◌&&◌, ℕ, zero, suc, ◌+◌, ◌*◌, ◌-◌, ◌/◌, ◌%◌, ◌^◌, ◌≤◌, ◌<◌, List, [], ◌∷◌, ◌++◌, eqb, length, take, drop, get_or, set, replicate}
use Rattle.std.proofs.Common.{ap, ◌∙◌, arith, pow-suc, add-one, append_assoc, append-nil, length-take, length-drop, drop_of_length-le, take_all, drop-cons, take-suc-set, get_or-drop, get_or-take, ne_eqb}
use Rattle.std.proofs.lemmas.List.{length-replicate, replicate-append-replicate, take-replicate, drop-replicate}
use Rattle.std.proofs.Math.Seq.{drop-length}
use Rattle.std.proofs.lemmas.List.Edits.{fill_more}
use Rattle.ground.specs.Lists.{part}

-- the k bytes of v
unfoldable pub le : ℕ → ℕ → List ℕ
le zero v = []
le (suc k) v = v % 256 ∷ le k (v / 256)

-- the number that bytes spell
unfoldable pub num : List ℕ → ℕ
num [] = 0
num (b ∷ l) = b + 256 * num l

-- n zero bytes, and whether all bytes are zero
unfoldable pub zeros : ℕ → List ℕ
zeros n = replicate n 0

unfoldable pub blank : List ℕ → Bool
blank [] = true
blank (x ∷ l) = eqb x 0 && blank l

-- the 16-bit number at byte i
unfoldable pub word : List ℕ → ℕ → ℕ
word l i = num (part l i 2)

-- every entry is a byte
abbrev pub Bytes : List ℕ → Type 0
Bytes l = (j : ℕ) → get_or l j 0 < 256

-- ---- numbers and their bytes undo each other

pub length_le : (k v : ℕ) → length (le k v) ≡ k
unfolding le
length_le zero v = refl
length_le (suc k) v = ap suc (length_le k (v / 256))

pub num_le : (k v : ℕ) → v < 256 ^ k → num (le k v) ≡ v
unfolding num le
num_le zero v h = omega arith
num_le (suc k) v h =
    let e : 256 ^ suc k ≡ 256 ^ k * 256 = pow-suc 256 k in
    let i : num (le k (v / 256)) ≡ v / 256 = num_le k (v / 256) (omega arith) in
    omega arith

pub le_num : (l : List ℕ) → Bytes l → le (length l) (num l) ≡ l
unfolding num le
le_num [] b = refl
le_num (x ∷ l) b =
    let z : x < 256 = b 0 in
    let m : (x + 256 * num l) % 256 ≡ x = omega arith in
    let d : (x + 256 * num l) / 256 ≡ num l = omega arith in
    rw (m, d) (ap (λ (r : List ℕ). x ∷ r) (le_num l (λ j. b (suc j))))

pub le_num_of : (k : ℕ) (l : List ℕ) → length l ≡ k → Bytes l → le k (num l) ≡ l
le_num_of k l e b = rw (← e) (le_num l b)

pub num_lt : (k : ℕ) (l : List ℕ) → ((j : ℕ) → get_or l j 0 < 256) → length l ≤ k → num l < 256 ^ k
unfolding num
num_lt zero [] b h = omega arith
num_lt zero (x ∷ l) b h = absurd (omega arith)
num_lt (suc k) [] b h = let e : 256 ^ suc k ≡ 256 ^ k * 256 = pow-suc 256 k in let i = num_lt k [] (λ j. omega arith) (omega arith) in omega arith
num_lt (suc k) (x ∷ l) b h =
    let e : 256 ^ suc k ≡ 256 ^ k * 256 = pow-suc 256 k in
    let i = num_lt k l (λ j. b (suc j)) (omega arith) in
    let z = b 0 in
    omega arith

-- the loop that reads a number, from its last byte down

pub word_is : (l : List ℕ) (i : ℕ) → i + 1 < length l → word l i ≡ get_or l i 0 + 256 * get_or l (i + 1) 0
unfolding word part num
word_is l i h =
    let h₀ : i < length l = omega arith in
    let h₁ : suc i < length l = omega arith in
    rw (add-one i, drop-cons l i 0 h₀, drop-cons l (suc i) 0 h₁) (omega arith)

-- ---- a number written byte by byte

pub le_step : (l : List ℕ) (i k v : ℕ) → i < length l → take (i + 1) (set l i (v % 256)) ++ le k (v / 256) ≡ take i l ++ le (suc k) v
unfolding le
le_step l i k v h = rw (add-one i, take-suc-set l i (v % 256) h, append_assoc)

pub le_two : (v : ℕ) → v < 65536 → le 2 v ≡ v % 256 ∷ v / 256 ∷ []
unfolding le
le_two v h = let e : v / 256 % 256 ≡ v / 256 = omega arith in rw e

pub set_two : (l : List ℕ) (a b : ℕ) → length l ≡ 2 → set (set l 0 a) 1 b ≡ a ∷ b ∷ []
set_two [] a b h = absurd (omega arith)
set_two (x ∷ []) a b h = absurd (omega arith)
set_two (x ∷ y ∷ []) a b h = refl
set_two (x ∷ y ∷ z ∷ l) a b h = absurd (omega arith)

pub le_turn : (w : ℕ) (l g : List ℕ) (i v : ℕ) → i < w → length l ≡ w → take i l ++ le (w - i) v ≡ g → take (i + 1) (set l i (v % 256)) ++ le (w - (i + 1)) (v / 256) ≡ g
le_turn w l g i v h n e =
    let k : suc (w - (i + 1)) ≡ w - i = omega arith in
    le_step l i (w - (i + 1)) v (omega arith) ∙ rw k e

pub le_done : (w : ℕ) (l g : List ℕ) (i v : ℕ) → w ≤ i → i ≤ w → length l ≡ w → take i l ++ le (w - i) v ≡ g → l ≡ g
unfolding le
le_done w l g i v h h' n e =
    let k : w - i ≡ 0 = omega arith in
    rw (k, append-nil, take_all i l (omega arith)) at e

-- ---- a number read byte by byte, the highest first

pub num_more : (s : List ℕ) (at i w : ℕ) → i < w → at + w ≤ length s → num (drop i (part s at w)) ≡ get_or s (at + i) 0 + 256 * num (drop (i + 1) (part s at w))
unfolding part num
num_more s at i w h k =
    let n : i < length (take w (drop at s)) = simp (length-take, length-drop) (omega arith) in
    rw (add-one i, drop-cons (take w (drop at s)) i 0 n, get_or-take w (drop at s) i 0 h, get_or-drop at s i 0)

-- parts of bytes are bytes
pub bytes_take : (w : ℕ) (l : List ℕ) → ((j : ℕ) → get_or l j 0 < 256) → (j : ℕ) → get_or (take w l) j 0 < 256
bytes_take zero l b j = omega arith
bytes_take (suc w) [] b j = omega arith
bytes_take (suc w) (x ∷ l) b zero = b 0
bytes_take (suc w) (x ∷ l) b (suc j) = bytes_take w l (λ k. b (suc k)) j

pub bytes_drop : (w : ℕ) (l : List ℕ) → ((j : ℕ) → get_or l j 0 < 256) → (j : ℕ) → get_or (drop w l) j 0 < 256
bytes_drop w l b j = rw (get_or-drop w l j 0) (b (w + j))

pub bytes_part : (l : List ℕ) (i w : ℕ) → ((j : ℕ) → get_or l j 0 < 256) → (j : ℕ) → get_or (part l i w) j 0 < 256
unfolding part
bytes_part l i w b = bytes_take w (drop i l) (bytes_drop i l b)

-- what is read so far fits
pub num_fits : (s : List ℕ) (at i v : ℕ) → ((j : ℕ) → get_or s j 0 < 256) → 0 < i → v ≡ num (drop i (part s at 8)) → v < 256 ^ 7
unfolding part
num_fits s at i v b h e =
    rw e (num_lt 7 (drop i (part s at 8)) (bytes_drop i (part s at 8) (bytes_part s at 8 b)) (simp (length-drop, length-take) (omega arith)))

pub num_end : (s : List ℕ) (at i : ℕ) → 8 ≤ i → 0 ≡ num (drop i (part s at 8))
unfolding part num
num_end s at i h = rw (drop_of_length-le (take 8 (drop at s)) {i = i} (simp length-take (omega arith)))

pub num_turn : (s : List ℕ) (at i v x : ℕ) → 0 < i → i ≤ 8 → at + 8 ≤ length s → v ≡ num (drop i (part s at 8)) → x ≡ get_or s (at + (i - 1)) 0 → v * 256 + x ≡ num (drop (i - 1) (part s at 8))
num_turn s at i v x h h' k e y =
    let p = num_more s at (i - 1) 8 (omega arith) k in
    let q : i - 1 + 1 ≡ i = omega arith in
    let r = ap (λ (z : ℕ). num (drop z (part s at 8))) q in
    omega arith

pub num_done : (s : List ℕ) (at i v : ℕ) → i ≤ 0 → v ≡ num (drop i (part s at 8)) → v ≡ num (part s at 8)
num_done s at i v h e = let q : i ≡ 0 = omega arith in rw q at e

-- the check of block b, as a part of the file

-- ---- zeros

pub length_zeros : (n : ℕ) → length (zeros n) ≡ n
unfolding zeros
length_zeros n = length-replicate n 0

pub drop_zeros : (k n : ℕ) → drop k (zeros n) ≡ zeros (n - k)
unfolding zeros
drop_zeros k n = drop-replicate k n 0

pub take_zeros : (k n : ℕ) → k ≤ n → take k (zeros n) ≡ zeros k
unfolding zeros
take_zeros k n h = take-replicate k n 0 h

pub zeros_add : (n m : ℕ) → zeros n ++ zeros m ≡ zeros (n + m)
unfolding zeros
zeros_add n m = replicate-append-replicate n m 0

-- a turn of the loop that writes a table of values, and its end

pub zeros_turn : (d l : List ℕ) (i : ℕ) → i < length d → l ≡ zeros i ++ drop i d → set l i 0 ≡ zeros (i + 1) ++ drop (i + 1) d
unfolding zeros
zeros_turn d l i h e = rw e (fill_more i 0 d h)

pub zeros_done : (d l : List ℕ) (i : ℕ) → length d ≤ i → i ≤ length d → l ≡ zeros i ++ drop i d → l ≡ zeros (length d)
zeros_done d l i h h' e = let k : i ≡ length d = omega arith in e ∙ rw (k, drop-length d) (append-nil (zeros (length d)))

-- ---- parts and runs

pub blank_more : (l : List ℕ) (i : ℕ) → i < length l → get_or l i 0 ≡ 0 → blank (drop (i + 1) l) ≡ blank (drop i l)
unfolding blank
blank_more l i h e = rw (add-one i, drop-cons l i 0 h, e)

pub blank_not : (l : List ℕ) (i : ℕ) → i < length l → (get_or l i 0 ≡ 0 → ⊥) → blank (drop i l) ≡ false
unfolding blank
blank_not l i h e = rw (drop-cons l i 0 h, ne_eqb (get_or l i 0) 0 e)

pub blank_end : (l : List ℕ) (i : ℕ) → length l ≤ i → blank (drop i l) ≡ true
unfolding blank
blank_end l i h = rw (drop_of_length-le l h)

-- ---- numbers
