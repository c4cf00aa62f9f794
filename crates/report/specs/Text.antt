-- Text as bytes: how long a number is, and a text written into a buffer.
use Rattle.std.specs.Prelude.{ℕ, zero, suc, ◌+◌, ◌/◌, ◌%◌, ◌^◌, ◌==◌, ◌≤◌, ◌<◌, ◌≡◌, false, refl, decimal, List, [], ◌∷◌, ◌++◌, length}
use Rattle.std.proofs.Common.{subst, sym, ap, ◌∙◌, inl, inr, arith, le_refl, pow-suc, append_assoc, length-append}
use Rattle.std.proofs.Math.Decide.{dec_lt, le_ind}
use Rattle.std.proofs.lemmas.Bool.{cases_Bool}
use Rattle.std.proofs.lemmas.Fmt.{decimal_digit, decimal_step, length-decimal-le_wide}
use Rattle.std.proofs.Math.Seq.{drop-drop}
use borrow.Rule.Slice.PartMut.{put_mid}
use Rattle.std.specs.Borrow.{GName}
use Rattle.std.specs.Fmt.{WritesInCalls, digits, digits_onto, digit_glyph}
use Rattle.std.specs.List.{FoldsTo, concat}
use Rattle.ground.specs.Lists.{over, over_none, over_more, length_over}

-- at most 64 digits of a number are written
length_onto : (j n : ℕ) (acc : List ℕ) → length (digits_onto j 10 false n acc) ≤ j + length acc
length_onto zero n acc = omega arith
length_onto (suc j) n acc = elim (cases_Bool (n / 10 == 0)) [
  | inl e ↦ rw e (omega arith)
  | inr e ↦ rw e (omega (arith, length_onto j (n / 10) (digit_glyph false (n % 10) ∷ acc)))
]

ten_more : (i j : ℕ) → i ≤ j → 10 ^ i ≤ 10 ^ j
ten_more i j h = le_ind (λ (k : ℕ). 10 ^ i ≤ 10 ^ k) (le_refl _) (λ k l ih. omega (arith, pow-suc 10 k)) j h

-- a number has no more digits than a power of ten that it lies below
pub length_decimal : (k v : ℕ) → v < 10 ^ suc k → length (decimal v) ≤ suc k
unfolding digits
length_decimal k v h = elim (dec_lt k 64) [
  | yes l ↦ length-decimal-le_wide (suc k) v (omega arith) h (omega (arith, ten_more (suc k) 64 (omega arith)))
  | no l ↦ omega (arith, length_onto 64 v [])
]

-- a number of one digit, of two, of three, and two digits of a longer one
pub decimal_single : (v : ℕ) → v < 10 → decimal v ≡ (48 + v % 10) ∷ []
decimal_single v h =
    let same : v % 10 ≡ v = omega arith in
    decimal_digit v h ∙ ap (λ (d : ℕ). (48 + d) ∷ []) (sym same)

pub decimal_pair : (v : ℕ) → 10 ≤ v → v < 100 → decimal v ≡ (48 + v / 10 % 10) ∷ (48 + v % 10) ∷ []
decimal_pair v h l =
    let tens : v / 10 % 10 ≡ v / 10 = omega arith in
    decimal_step v h (omega arith) ∙ ap (λ (xs : List ℕ). xs ++ ((48 + v % 10) ∷ [])) (decimal_digit (v / 10) (omega arith) ∙ ap (λ (d : ℕ). (48 + d) ∷ []) (sym tens))

pub decimal_hundreds : (v : ℕ) → 100 ≤ v → v < 2 ^ 64 → decimal v ≡ decimal (v / 100) ++ ((48 + v / 10 % 10) ∷ (48 + v % 10) ∷ [])
decimal_hundreds v h l =
    let hundreds : v / 10 / 10 ≡ v / 100 = omega arith in
    decimal_step v (omega arith) l ∙ ap (λ (xs : List ℕ). xs ++ ((48 + v % 10) ∷ [])) (decimal_step (v / 10) (omega arith) (omega arith))
    ∙ append_assoc (decimal (v / 10 / 10)) ((48 + v / 10 % 10) ∷ []) ((48 + v % 10) ∷ []) ∙ ap (λ (n : ℕ). decimal n ++ ((48 + v / 10 % 10) ∷ (48 + v % 10) ∷ [])) hundreds

pub decimal_three : (v : ℕ) → 100 ≤ v → v < 1000 → decimal v ≡ (48 + v / 100) ∷ (48 + v / 10 % 10) ∷ (48 + v % 10) ∷ []
decimal_three v h l = decimal_hundreds v h (omega arith) ∙ ap (λ (xs : List ℕ). xs ++ ((48 + v / 10 % 10) ∷ (48 + v % 10) ∷ [])) (decimal_digit (v / 100) (omega arith))

pub length_number : (v : ℕ) → v < 100000 → length (decimal v) ≤ 5
length_number v h = length_decimal 4 v h

-- a text of at most eight bytes and a number
pub length_count : (ws : List ℕ) (v : ℕ) → length ws ≤ 8 → v < 100000 → length (ws ++ decimal v) ≤ 13
length_count ws v h l = omega (arith, length-append ws (decimal v), length_number v l)

-- ---- the bytes xs were written from byte `at` on, and the next is byte e
pub record Wrote (at : ℕ) (xs old new : List ℕ) (e : ℕ) : Type 0 where
  pub next : e ≡ at + length xs
  pub contents : new ≡ over at xs old
  pub long : length new ≡ length old

pub wrote_none : (at : ℕ) (old : List ℕ) → Wrote at [] old old at
wrote_none at old = record { next = omega arith; contents = over_none at old; long = refl }

pub wrote_more : (at e f : ℕ) (xs ys old mid new : List ℕ) → at + length xs ≤ length old → Wrote at xs old mid e → Wrote e ys mid new f → Wrote at (xs ++ ys) old new f
wrote_more at e f xs ys old mid new h a b = record {
  next = omega (arith, length-append xs ys, a.next, b.next);
  contents = b.contents ∙ ap (over e ys) a.contents ∙ over_more at xs ys old h e a.next;
  long = b.long ∙ a.long;
}

-- a text that was written leaves one buffer and one next place
pub write-into-determined : (at : ℕ) (xs old r s : List ℕ) (e f : ℕ) → Wrote at xs old r e → Wrote at xs old s f → (r ≡ s) × (e ≡ f)
write-into-determined at xs old r s e f a b = (a.contents ∙ sym b.contents, a.next ∙ sym b.next)

-- the same, said of equal lists, as where branches meet
pub wrote_as : (at e f : ℕ) (xs ys old new cur : List ℕ) → xs ≡ ys → cur ≡ new → f ≡ e → Wrote at xs old new e → Wrote at ys old cur f
wrote_as at e f xs ys old new cur p q r w = rw (← p, q, r) w

-- a part of a buffer in whose place xs came
pub put_over : (at k : ℕ) (xs old new : List ℕ) → at + length xs ≤ length old → k ≡ length xs → new ≡ xs → Wrote at xs old (put_mid at k old new) (at + length xs)
unfolding over
put_over at k xs old new h e q =
    let same : put_mid at k old new ≡ over at xs old = rw (e, q, drop-drop (length xs) at old) in
    record { next = refl; contents = same; long = ap length same ∙ length_over at xs old h }

-- Texts written one after another are the whole written at once. W holds a buffer, by a reference with a name, and how far it is filled.
module _ {W : Type 0} (out : W → List ℕ) (name : W → GName) (at : W → ℕ) (inside : (w : W) → at w ≤ length (out w)) where
  abbrev pub Writes : W → List ℕ → W → Type 0
  Writes old xs new = (name new ≡ name old) × Wrote (at old) xs (out old) (out new) (at new)

  pub wrote_parts : (parts : List (List ℕ)) (w v : W) → FoldsTo Writes w parts v → Writes w (concat parts) v
  wrote_parts [] w v f = subst (λ (u : W). Writes w [] u) f (refl, wrote_none (at w) (out w))
  wrote_parts (xs ∷ parts) w v f =
      let i : at f.0 ≤ length (out f.0) = inside f.0 in
      let first : Writes w xs f.0 = f.1 in
      let rest = wrote_parts parts f.0 v f.2 in (
        rest.0 ∙ first.0,
        wrote_more (at w) (at f.0) (at v) xs (concat parts) (out w) (out f.0) (out v) (omega (arith, first.1.next, first.1.long)) first.1 rest.1,
      )

  pub wrote_calls : (w : W) (xs : List ℕ) (v : W) → WritesInCalls Writes w xs v → Writes w xs v
  wrote_calls w xs v c = subst (λ (l : List ℕ). Writes w l v) c.whole (wrote_parts c.parts w v c.calls)
