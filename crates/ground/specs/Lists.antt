-- Lists by index: a list of what a function gives (`tabulate`), a part of a list (`part`), and a list written over another from some entry on (`over`).
-- What a loop that fills or copies a buffer has done so far is said with these. Runs of lists one after the other are in Runs.antt.
use Rattle.std.specs.Prelude.{◌≡◌, refl, get_or, set}
use Rattle.std.proofs.Math.Path.{sym, ap, ap₂}
use Rattle.std.proofs.Common.{◌∙◌, inl, inr, arith, not-suc-le-zero, mul-zero, mul-suc, add-one, length-take, length-drop, take-append-drop, drop-cons, length-take-le, take-take, take-add, take_all, get_or-append-add, get_or-take, List, [], ◌∷◌, ◌++◌, append_assoc, ℕ, zero, suc, ◌+◌, ◌*◌, ◌-◌, ◌≤◌, ◌<◌}
use Rattle.std.proofs.Math.ListN.{length, take, drop, length-append, get_or-append}
use Rattle.std.proofs.Math.Seq.{paste, take_at, drop-drop, append_snoc, drop-append-add}
use Rattle.std.proofs.lemmas.List.Edits.{sets, sets-eq, paste_all, paste-paste}
use Rattle.std.proofs.lemmas.List.{set_at, get_or_at, take-append-le, drop-append-le, drop-take}
use Rattle.std.specs.List.{concat}
use Rattle.std.specs.Simd.{first_chunks}
use Rattle.ground.specs.Tests.{lt_cases}

-- ---- f 0, f 1, .., f (n - 1)

unfoldable pub tabulate {ℓ} : {A : Type ℓ} → ℕ → (ℕ → A) → List A
tabulate zero f = []
tabulate (suc n) f = tabulate n f ++ (f n ∷ [])

pub length_tabulate {ℓ} : {A : Type ℓ} (n : ℕ) (f : ℕ → A) → length (tabulate n f) ≡ n
unfolding tabulate
length_tabulate zero f = refl
length_tabulate (suc n) f = length-append (tabulate n f) (f n ∷ []) ∙ (let e = length_tabulate n f in omega arith)

pub get_or_tabulate {ℓ} : {A : Type ℓ} (n : ℕ) (f : ℕ → A) (d : A) (i : ℕ) → i < n → get_or (tabulate n f) i d ≡ f i
unfolding tabulate
get_or_tabulate zero f d i l = absurd (not-suc-le-zero l)
get_or_tabulate (suc n) f d i l = elim (lt_cases l) [
  | inl e ↦ get_or_at (tabulate n f) (f n) [] d i (length_tabulate n f ∙ sym e) ∙ ap f (sym e)
  | inr k ↦ get_or-append (tabulate n f) (f n ∷ []) d i (let e = length_tabulate n f in omega arith) ∙ get_or_tabulate n f d i k
]

pub tabulate_ext {ℓ} : {A : Type ℓ} (n : ℕ) (f g : ℕ → A) → ((i : ℕ) → i < n → f i ≡ g i) → tabulate n f ≡ tabulate n g
unfolding tabulate
tabulate_ext zero f g h = refl
tabulate_ext (suc n) f g h = ap₂ (λ xs x. xs ++ (x ∷ [])) (tabulate_ext n f g (λ i l. h i (omega arith))) (h n (omega arith))

-- a buffer filled from its front: nothing yet, and one entry more
pub tabulate_start : (d : List ℕ) (f : ℕ → ℕ) → d ≡ tabulate 0 f ++ drop 0 d
unfolding tabulate
tabulate_start d f = refl

pub tabulate_more : (d l : List ℕ) (i v : ℕ) (f : ℕ → ℕ) → i < length d → l ≡ tabulate i f ++ drop i d → v ≡ f i → set l i v ≡ tabulate (i + 1) f ++ drop (i + 1) d
unfolding tabulate
tabulate_more d l i v f h e q =
    rw (e, q, drop-cons d i 0 h, set_at (tabulate i f) (get_or d i 0) (drop (suc i) d) (f i) i (length_tabulate i f), add-one i)
    (sym (append_snoc (tabulate i f) (f i) (drop (suc i) d)))

-- ---- the w entries from entry i on

unfoldable pub part : List ℕ → ℕ → ℕ → List ℕ
part l i w = take w (drop i l)

pub length_part : (l : List ℕ) (i w : ℕ) → i + w ≤ length l → length (part l i w) ≡ w
unfolding part
length_part l i w h = simp (length-take, length-drop) (omega arith)

-- a part of a part
pub part_part : (l : List ℕ) (a w i v : ℕ) → i + v ≤ w → part (part l a w) i v ≡ part l (a + i) v
unfolding part
part_part l a w i v h =
    let e : i + (w - i) ≡ w = omega arith in
    let k : v ≤ w - i = omega arith in
    rw (← e, drop-take i (w - i) (drop a l), drop-drop i a l, take-take v (w - i) (drop (a + i) l) k)

pub part_split : (l : List ℕ) (i u v : ℕ) → part l i (u + v) ≡ part l i u ++ part l (i + u) v
unfolding part
part_split l i u v = take-add u v (drop i l) ∙ rw (drop-drop u i l)

pub part_all : (l : List ℕ) (n : ℕ) → length l ≡ n → part l 0 n ≡ l
unfolding part
part_all l n e = take_all n l (omega arith)

pub part_front : (l r : List ℕ) (i w : ℕ) → i + w ≤ length l → part (l ++ r) i w ≡ part l i w
unfolding part
part_front l r i w h =
    let a : i ≤ length l = omega arith in
    let b : w ≤ length (drop i l) = simp length-drop (omega arith) in
    rw (drop-append-le i l r a, take-append-le w (drop i l) r b)

pub part_back : (p q : List ℕ) (a i w : ℕ) → length p ≡ a → part (p ++ q) (a + i) w ≡ part q i w
unfolding part
part_back p q a i w e = rw (← e, drop-append-add p q i)

pub part_first : (p q : List ℕ) (a : ℕ) → length p ≡ a → part (p ++ q) 0 a ≡ p
unfolding part
part_first p q a e = take_at p q a e

-- ---- xs written over old from entry `at` on: what stands before and behind is as found

unfoldable pub over : ℕ → List ℕ → List ℕ → List ℕ
over at xs old = take at old ++ (xs ++ drop (at + length xs) old)

pub over_none : (at : ℕ) (old : List ℕ) → old ≡ over at [] old
unfolding over
over_none at old = let e : at + 0 ≡ at = omega arith in rw e (sym (take-append-drop at old))

module _ (at : ℕ) (xs ys old : List ℕ) (fits : at + length xs ≤ length old) where
  pub over_more : (at' : ℕ) → at' ≡ at + length xs → over at' ys (over at xs old) ≡ over at (xs ++ ys) old
  unfolding over
  over_more at' e = rw (
    e,
    ← paste_all old at xs (length xs) refl,
    ← paste_all (paste old at xs (length xs)) (at + length xs) ys (length ys) refl,
    paste-paste old at xs ys (length xs) (length ys) refl refl (omega arith),
    ← length-append xs ys,
  ) (paste_all old at (xs ++ ys) (length (xs ++ ys)) refl)

pub length_over : (at : ℕ) (xs old : List ℕ) → at + length xs ≤ length old → length (over at xs old) ≡ length old
unfolding over
length_over at xs old h = simp (length-append, length-drop, length-take) (omega arith)

pub over_sets : (at : ℕ) (xs old : List ℕ) → at + length xs ≤ length old → sets old at xs ≡ over at xs old
unfolding over
over_sets at xs old h = sets-eq xs old at h ∙ append_assoc (take at old) xs (drop (at + length xs) old)

pub over_one : (at v : ℕ) (old : List ℕ) → at < length old → set old at v ≡ over at (v ∷ []) old
over_one at v old h = over_sets at (v ∷ []) old (omega arith)

pub over_below : (at i : ℕ) (xs old : List ℕ) → i < at → at ≤ length old → get_or (over at xs old) i 0 ≡ get_or old i 0
unfolding over
over_below at i xs old l h = get_or-append (take at old) _ 0 i (omega (arith, length-take-le at old h)) ∙ get_or-take at old i 0 l

pub over_at : (at i : ℕ) (xs old : List ℕ) → at ≤ length old → i < length xs → get_or (over at xs old) (at + i) 0 ≡ get_or xs i 0
unfolding over
over_at at i xs old h l =
    let q : at + i ≡ length (take at old) + i = omega (arith, length-take-le at old h) in
    rw (q, get_or-append-add (take at old) (xs ++ drop (at + length xs) old) i 0) (get_or-append xs _ 0 i l)

-- ---- a list cut into pieces of n entries, and pieces one after another

module _ (n : ℕ) where
  pub concat_pieces : (k : ℕ) (l : List ℕ) → concat (first_chunks n k l) ≡ take (n * k) l
  concat_pieces zero l = rw (mul-zero n)
  concat_pieces (suc k) l =
      let e : n * suc k ≡ n + n * k = mul-suc n k ∙ omega arith in
      rw (concat_pieces k (drop n l), e) (sym (take-add n (n * k) l))

  -- entry j of piece i, where every piece has n
  pub piece_entry : (ps : List (List ℕ)) → ((i : ℕ) → i < length ps → length (get_or ps i []) ≡ n) → (i j : ℕ) → i < length ps → j < n → get_or (concat ps) (n * i + j) 0 ≡ get_or (get_or ps i []) j 0
  piece_entry [] each i j h l = absurd (omega arith)
  piece_entry (p ∷ ps) each zero j h l = let e : n * 0 + j ≡ j = omega arith in rw e (get_or-append p (concat ps) 0 j (let k = each 0 (omega arith) in omega arith))
  piece_entry (p ∷ ps) each (suc i) j h l =
      let e : n * suc i + j ≡ length p + (n * i + j) = let k = each 0 (omega arith) in omega (arith, mul-suc n i) in
      rw (e, get_or-append-add p (concat ps) (n * i + j) 0) (piece_entry ps (λ k m. each (suc k) (omega arith)) i j (omega arith) l)
