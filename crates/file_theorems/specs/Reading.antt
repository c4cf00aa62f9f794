-- What passes the tests is the file of the table that stands in it.
use Rattle.std.specs.Prelude.{◌≡◌, ℕ, ◌+◌, ◌*◌, ◌/◌, ◌%◌, ◌≤◌, ◌<◌, List, ◌++◌, length, get_or}
use Rattle.std.proofs.Common.{sym, ap, ap₂, ◌∙◌, arith, add-zero, eqb-true}
use Rattle.std.proofs.lemmas.Bool.{not-false}
use Rattle.ground.specs.Lists.{part, get_or_tabulate, length_part, part_split, part_part}
use Rattle.ground.specs.Bytes.{le, word, Bytes, le_num_of, bytes_part}
use Rattle.ground.specs.Runs.{cat, cat_ext, cat_split}
use Rattle.table.specs.Lent.{Lent}
use Rattle.file.specs.Block.{check_of_block, block_of}
use Rattle.file.specs.Layout.{Content, head, classes, edges, class_blocks, edge_blocks, blocks_of, content_at, kind_of, count_of, size_of, record_of, block_at, file_of}
use Rattle.file.specs.Reading.{block, label_in, number_in, table_in, check_wrong, block_wrong, content_right}
use Rattle.file.specs.Lengths.{records_fit}
use Rattle.file_theorems.specs.Blocks.{block_back}
use Rattle.file_theorems.specs.Passing.{Passes}
use Rattle.file_theorems.specs.Places.{start_of, start_at, record_end}

module _ (f : List ℕ) (bytes : Bytes f) (P : Passes f (table_in f)) where
  abbrev t : Lent
  t = table_in f

  two_at : (i : ℕ) → i + 2 ≤ length f → part f i 2 ≡ le 2 (word f i)
  unfolding word
  two_at i h = sym (le_num_of 2 (part f i 2) (length_part f i 2 h) (bytes_part f i 2 bytes))

  -- number r of record i of block k of the edges
  number_at : (k i r : ℕ) → i < 83 → r < 3 → 83 * k + i < t.m → le 2 (get_or t.edges (3 * (83 * k + i) + r) 0) ≡ part f (512 * (1 + class_blocks t.n + k) + (8 + 6 * i) + 2 * r) 2
  unfolding number_in
  number_at k i r h g u =
      let j = 3 * (83 * k + i) + r in
      let d : j / 249 ≡ k = omega arith in
      let e : j % 249 ≡ 3 * i + r = omega arith in
      let s : 512 * (1 + class_blocks t.n + j / 249) + (8 + 2 * (j % 249)) ≡ 512 * (1 + class_blocks t.n + k) + (8 + 6 * i) + 2 * r = omega arith in
      let z = P.long in
      let w : k < edge_blocks t.m = omega arith in
      ap (le 2) (get_or_tabulate (3 * t.m) (number_in f t.n) 0 j (omega arith) ∙ ap (word f) s) ∙ sym (two_at (512 * (1 + class_blocks t.n + k) + (8 + 6 * i) + 2 * r) (omega arith))

  record_is : (content : Content) (b : ℕ) → b ≡ start_of t.n content → b < blocks_of t.n t.m → (i : ℕ) → i < count_of t.n t.m content
      → part f (512 * b + (8 + size_of content * i)) (size_of content) ≡ record_of t content i
  unfolding label_in
  record_is head b e h i g =
      let z = P.long in
      let a : 512 * b + (8 + 8 * i) ≡ 8 = omega arith in
      ap (λ (x : ℕ). part f x 8) a
      ∙ part_split f 8 2 6 ∙ ap₂ (λ (x y : List ℕ). x ++ y) (two_at 8 (omega arith))
      (part_split f 10 2 4 ∙ ap₂ (λ (x y : List ℕ). x ++ y) (two_at 10 (omega arith))
      (part_split f 12 2 2 ∙ ap₂ (λ (x y : List ℕ). x ++ y) (two_at 12 (omega arith)) (two_at 14 (omega arith))))
  record_is (classes k) b e h i g =
      let z = P.long in
      let j = 62 * k + i in
      let s = 512 * (1 + j / 62) + (8 + 8 * (j % 62)) in
      let a : 512 * b + (8 + 8 * i) ≡ s = omega arith in
      ap (λ (y : ℕ). part f y 8) a
      ∙ sym (ap (le 8) (get_or_tabulate t.n (label_in f) 0 j (omega arith)) ∙ le_num_of 8 (part f s 8) (length_part f s 8 (omega arith)) (bytes_part f s 8 bytes))
  record_is (edges k) b e h i g =
      let s = 512 * (1 + class_blocks t.n + k) + (8 + 6 * i) in
      let a : 512 * b + (8 + 6 * i) ≡ s = omega arith in
      let u : 83 * k + i < t.m = omega arith in
      let v : i < 83 = omega arith in
      ap (λ (x : ℕ). part f x 6) a
      ∙ part_split f s 2 4 ∙ ap₂ (λ (x y : List ℕ). x ++ y) (ap (λ (x : ℕ). part f x 2) (sym (add-zero s)) ∙ sym (number_at k i 0 v (omega arith) u) ∙ ap (λ (x : ℕ). le 2 (get_or t.edges x 0)) (add-zero (3 * (83 * k + i))))
      (part_split f (s + 2) 2 2 ∙ ap₂ (λ (x y : List ℕ). x ++ y) (sym (number_at k i 1 v (omega arith) u)) (ap (λ (x : ℕ). part f x 2) (omega arith) ∙ sym (number_at k i 2 v (omega arith) u)))

  -- block b of the file is block b of the table's file
  block_is : (b : ℕ) → b < blocks_of t.n t.m → part f (512 * b) 512 ≡ block_at t b
  unfolding block check_wrong block_wrong block_at
  block_is b h =
      let content = content_at t.n b in
      let l = part f (512 * b) 512 in
      let z = P.long in
      let len : length l ≡ 512 = length_part f (512 * b) 512 (omega arith) in
      let w = size_of content in
      let c = count_of t.n t.m content in
      let small : w * c ≤ 502 = records_fit t.n t.m content in
      let r = part l 8 (w * c) in
      let records : r ≡ cat c (record_of t content) =
      cat_split c w r (length_part l 8 (w * c) (omega arith))
      ∙ cat_ext c (λ i. part r (w * i) w) (record_of t content)
      (λ i g. let s : w * i + w ≤ w * c = record_end w i c g in
      part_part l 8 (w * c) (w * i) w s ∙ part_part f (512 * b) 512 (8 + w * i) w (omega arith) ∙ record_is content b (sym (start_at t.n b)) h i g) in
      block_back l len (bytes_part f (512 * b) 512 bytes) (kind_of content) b c (w * c) small
      (eqb-true (check_of_block l) (word l 510) (not-false _ (P.checks b h))) (not-false (content_right t.n t.m b content l) (P.shapes b h))
      ∙ ap (block_of (kind_of content) b c) records

  pub file_is : f ≡ file_of t
  unfolding file_of
  file_is = cat_split (blocks_of t.n t.m) 512 f P.long ∙ cat_ext (blocks_of t.n t.m) (λ b. part f (512 * b) 512) (block_at t) block_is
