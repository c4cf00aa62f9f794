-- Which block holds what: the block of a content, and the content of a block.
use Rattle.std.specs.Prelude.{◌≡◌, refl, ℕ, suc, ◌+◌, ◌*◌, ◌-◌, ◌≤◌, ◌<◌}
use Rattle.std.proofs.Common.{ap, ◌∙◌, arith, mul-suc, mul-le-mul_left}
use Rattle.std.proofs.Math.Decide.{dec_lt}
use Rattle.std.proofs.lemmas.Bool.{ne_eqb, le-leb, lt-leb}
use Rattle.file.specs.Layout.{Content, head, classes, edges, class_blocks, content_at}

pub at_classes : (n b : ℕ) → (b ≡ 0 → ⊥) → b ≤ class_blocks n → content_at n b ≡ classes (b - 1)
unfolding content_at
at_classes n b h k = rw (ne_eqb b 0 h, le-leb b (class_blocks n) k)

pub at_edges : (n b : ℕ) → class_blocks n < b → content_at n b ≡ edges (b - 1 - class_blocks n)
unfolding content_at
at_edges n b k = rw (ne_eqb b 0 (λ e. omega arith), lt-leb b (class_blocks n) k)

-- the number of the block
abbrev pub start_of : ℕ → Content → ℕ
start_of n head = 0
start_of n (classes k) = 1 + k
start_of n (edges k) = 1 + class_blocks n + k

at_zero : (n : ℕ) → start_of n (content_at n 0) ≡ 0
unfolding content_at
at_zero n = refl

pub start_at : (n b : ℕ) → start_of n (content_at n b) ≡ b
start_at n b = elim (dec_lt (class_blocks n) b) [
  | yes k ↦ ap (start_of n) (at_edges n b k) ∙ omega arith
  | no k ↦ elim (dec_lt 0 b) [
    | yes h ↦ ap (start_of n) (at_classes n b (λ e. omega arith) (omega arith)) ∙ omega arith
    | no h ↦ let z : b ≡ 0 = omega arith in rw z (at_zero n)
  ]
]

-- record i ends where the records end, or before
pub record_end : (w i c : ℕ) → i < c → w * i + w ≤ w * c
record_end w i c h = let m : w * suc i ≤ w * c = mul-le-mul_left w h in omega (arith, mul-suc w i)
