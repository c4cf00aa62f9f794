-- One block: what the layout makes passes the tests, and what passes them is what the layout makes of the records in it.
use Rattle.std.specs.Prelude.{◌≡◌, refl, true, ℕ, zero, suc, ◌+◌, ◌*◌, ◌-◌, ◌%◌, ◌^◌, ◌≤◌, ◌<◌, List, [], ◌∷◌, ◌++◌, length, eqb}
use Rattle.std.proofs.Common.{sym, ap, ap₂, ◌∙◌, arith, append_assoc, length-append, eqb-true, eq-eqb, add-zero}
use Rattle.std.proofs.lemmas.Bool.{and_parts}
use Rattle.ground.specs.Tests.{and_in}
use Rattle.ground.specs.Counts.{sum_ext}
use Rattle.ground.specs.Lists.{part, length_part, part_split, part_all, part_front, part_back, part_first}
use Rattle.ground.specs.Bytes.{le, num, word, zeros, blank, Bytes, num_le, le_num_of, length_le, length_zeros, bytes_part}
use Rattle.file.specs.Block.{check_of_block, body_of, sealed, block_of}
use Rattle.file.specs.Reading.{shape_right}
use Rattle.file.specs.Lengths.{length_body}

blank_zeros : (l : List ℕ) → blank l ≡ true → l ≡ zeros (length l)
unfolding blank zeros
blank_zeros [] e = refl
blank_zeros (x ∷ l) e = let a = and_parts (eqb x 0) (blank l) e in ap₂ (λ (y : ℕ) (r : List ℕ). y ∷ r) (eqb-true x 0 a.0) (blank_zeros l a.1)

zeros_blank : (n : ℕ) → blank (zeros n) ≡ true
unfolding blank zeros
zeros_blank zero = refl
zeros_blank (suc n) = zeros_blank n

-- the check of a block is that of what stands before its last two bytes
check_front : (l r : List ℕ) → length l ≡ 510 → check_of_block (l ++ r) ≡ check_of_block l
unfolding check_of_block word
check_front l r h = ap (λ (x : ℕ). x % 65536) (sum_ext 255 _ _ (λ i k. ap num (part_front l r (2 * i) 2 (omega arith))))

check_lt : (l : List ℕ) → check_of_block l < 256 ^ 2
unfolding check_of_block
check_lt l = omega arith

-- ---- from the layout to the tests
module _ (kind number count : ℕ) (records : List ℕ) where
  abbrev body : List ℕ
  body = body_of kind number count records

  abbrev whole : List ℕ
  whole = block_of kind number count records

  at_kind : word whole 0 ≡ num (le 2 kind)
  unfolding sealed body_of word part le
  at_kind = refl

  at_number : word whole 2 ≡ num (le 2 number)
  unfolding sealed body_of word part le
  at_number = refl

  at_count : word whole 4 ≡ num (le 2 count)
  unfolding sealed body_of word part le
  at_count = refl

  at_zero : word whole 6 ≡ num (le 2 0)
  unfolding sealed body_of word part le
  at_zero = refl

  abbrev first_bytes : List ℕ
  first_bytes = le 2 kind ++ (le 2 number ++ (le 2 count ++ le 2 0))

  abbrev spare : List ℕ
  spare = zeros (502 - length records)

  abbrev last_bytes : List ℕ
  last_bytes = le 2 (check_of_block body)

  length_first : length first_bytes ≡ 8
  length_first = grind (arith, length-append, length_le)

  -- the block's parts, one after the other
  parts : whole ≡ first_bytes ++ (records ++ (spare ++ last_bytes))
  unfolding sealed body_of
  parts = simp append_assoc refl

  module _ (room : length records ≤ 502) where
    pub check_right : check_of_block whole ≡ word whole 510
    unfolding sealed word
    check_right =
        let e : part (body ++ last_bytes) 510 2 ≡ last_bytes = part_back body last_bytes 510 0 2 (length_body kind number count records room) ∙ part_all last_bytes 2 (length_le 2 (check_of_block body)) in
        check_front body last_bytes (length_body kind number count records room) ∙ sym (ap num e ∙ num_le 2 (check_of_block body) (check_lt body))

    pub record_part : (i w : ℕ) → i + w ≤ length records → part whole (8 + i) w ≡ part records i w
    record_part i w g = rw parts (part_back first_bytes (records ++ (spare ++ last_bytes)) 8 i w length_first ∙ part_front records (spare ++ last_bytes) i w g)

    unused : part whole (8 + length records) (502 - length records) ≡ spare
    unused = rw parts (part_back first_bytes (records ++ (spare ++ last_bytes)) 8 (length records) (502 - length records) length_first
        ∙ ap (λ (i : ℕ). part (records ++ (spare ++ last_bytes)) i (502 - length records)) (sym (add-zero (length records)))
        ∙ part_back records (spare ++ last_bytes) (length records) 0 (502 - length records) refl
        ∙ part_first spare last_bytes (502 - length records) (length_zeros (502 - length records)))

    pub shape_of_block : kind < 65536 → number < 65536 → count < 65536 → shape_right kind number count (length records) whole ≡ true
    unfolding shape_right
    shape_of_block hk hn hc =
        and_in (eq-eqb _ _ (at_kind ∙ num_le 2 kind hk))
        (and_in (eq-eqb _ _ (at_number ∙ num_le 2 number hn))
        (and_in (eq-eqb _ _ (at_count ∙ num_le 2 count hc))
        (and_in (eq-eqb _ _ (at_zero ∙ num_le 2 0 (omega arith)))
        (ap blank unused ∙ zeros_blank (502 - length records)))))

-- ---- from the tests to the layout
module _ (l : List ℕ) (len : length l ≡ 512) (bytes : Bytes l) where
  two : (i v : ℕ) → i + 2 ≤ 512 → word l i ≡ v → part l i 2 ≡ le 2 v
  unfolding word
  two i v h e = sym (le_num_of 2 (part l i 2) (length_part l i 2 (omega arith)) (bytes_part l i 2 bytes)) ∙ ap (le 2) e

  -- a list of 512 entries is its parts
  cut : (used : ℕ) → used ≤ 502 → l ≡ part l 0 2 ++ (part l 2 2 ++ (part l 4 2 ++ (part l 6 2 ++ (part l 8 used ++ (part l (8 + used) (502 - used) ++ part l 510 2)))))
  cut used h =
      let a : 504 ≡ used + (502 - used + 2) = omega arith in
      let b : 8 + used + (502 - used) ≡ 510 = omega arith in
      let tail : part l 8 504 ≡ part l 8 used ++ (part l (8 + used) (502 - used) ++ part l 510 2) =
      ap (part l 8) a ∙ part_split l 8 used (502 - used + 2) ∙ ap (λ (x : List ℕ). part l 8 used ++ x)
      (part_split l (8 + used) (502 - used) 2 ∙ ap (λ (i : ℕ). part l (8 + used) (502 - used) ++ part l i 2) b) in
      sym (part_all l 512 len) ∙ part_split l 0 2 510 ∙ ap (λ (x : List ℕ). part l 0 2 ++ x)
      (part_split l 2 2 508 ∙ ap (λ (x : List ℕ). part l 2 2 ++ x)
      (part_split l 4 2 506 ∙ ap (λ (x : List ℕ). part l 4 2 ++ x)
      (part_split l 6 2 504 ∙ ap (λ (x : List ℕ). part l 6 2 ++ x) tail)))

  pub block_back : (kind number count used : ℕ) → used ≤ 502 → check_of_block l ≡ word l 510 → shape_right kind number count used l ≡ true → l ≡ block_of kind number count (part l 8 used)
  unfolding shape_right sealed body_of
  block_back kind number count used h check e =
      let t0 = and_parts (eqb (word l 0) kind) _ e in
      let t2 = and_parts (eqb (word l 2) number) _ t0.1 in
      let t4 = and_parts (eqb (word l 4) count) _ t2.1 in
      let t6 = and_parts (eqb (word l 6) 0) _ t4.1 in
      let r = part l 8 used in
      let lr : length r ≡ used = length_part l 8 used (omega arith) in
      let lz : length (part l (8 + used) (502 - used)) ≡ 502 - used = length_part l (8 + used) (502 - used) (omega arith) in
      let z : part l (8 + used) (502 - used) ≡ zeros (502 - length r) = blank_zeros _ t6.1 ∙ ap zeros (omega arith) in
      let body = body_of kind number count r in
      let s : l ≡ body ++ part l 510 2 = cut used h ∙ rw (two 0 kind (omega arith) (eqb-true _ _ t0.0), two 2 number (omega arith) (eqb-true _ _ t2.0), two 4 count (omega arith) (eqb-true _ _ t4.0), two 6 0 (omega arith) (eqb-true _ _ t6.0), z) (sym (simp append_assoc refl)) in
      let cb : check_of_block l ≡ check_of_block body = ap check_of_block s ∙ check_front body (part l 510 2) (length_body kind number count r (omega arith)) in
      s ∙ ap (λ (x : List ℕ). body ++ x) (two 510 (check_of_block body) (omega arith) (sym check ∙ cb))
