-- The file of an allowed table passes the tests, and the table is what stands in it.
use Rattle.std.specs.Prelude.{◌≡◌, refl, false, not, ℕ, zero, suc, ◌+◌, ◌*◌, ◌/◌, ◌%◌, ◌^◌, ◌≤◌, ◌<◌, List, ◌++◌, length, get_or}
use Rattle.std.proofs.Common.{sym, ap, ◌∙◌, arith, add-zero, eqb-true, eq-eqb}
use Rattle.std.proofs.lemmas.Bool.{not-false, le-ltb}
use Rattle.std.proofs.Math.Pow.{pow_pos, pow_mono}
use Rattle.std.proofs.Math.Nat.{lt-div-mul-add, zero-mul, zero-add}
use Rattle.ground.specs.Lists.{part, get_or_tabulate, part_part}
use Rattle.ground.specs.Bytes.{le, num, word, num_le}
use Rattle.ground.specs.Runs.{cat_part}
use Rattle.table.specs.Lent.{Lent, labels_of, source_of, role_of, target_of}
use Rattle.table.specs.Check.{label_over}
use Rattle.table.specs.Allowed.{Allowed, contents_right}
use Rattle.file.specs.Layout.{Content, head, classes, edges, class_blocks, edge_blocks, blocks_of, content_at, kind_of, count_of, size_of, counts_bytes, edge_bytes, record_of, records_of, block_with, block_at, file_of}
use Rattle.file.specs.Reading.{block, label_in, number_in, table_in, table_with, check_wrong, block_wrong}
use Rattle.file.specs.Lengths.{length_record, length_records, length_block_at, length_file, records_fit}
use Rattle.file_theorems.specs.Blocks.{check_right, record_part, shape_of_block}
use Rattle.file_theorems.specs.Passing.{Passes}
use Rattle.file_theorems.specs.Places.{at_classes, at_edges, record_end}

-- the number r of three that stand one after the other
edge_number : (es : List ℕ) (i r : ℕ) → r < 3 → part (edge_bytes es i) (2 * r) 2 ≡ le 2 (get_or es (3 * i + r) 0)
unfolding part le
edge_number es i zero h = rw (add-zero (3 * i))
edge_number es i (suc zero) h = refl
edge_number es i (suc (suc zero)) h = refl
edge_number es i (suc (suc (suc r))) h = absurd (omega arith)

module _ (a b c d : ℕ) where
  abbrev four : List ℕ
  four = le 2 a ++ (le 2 b ++ (le 2 c ++ le 2 d))

  four0 : part four 0 2 ≡ le 2 a
  unfolding part le
  four0 = refl

  four2 : part four 2 2 ≡ le 2 b
  unfolding part le
  four2 = refl

  four4 : part four 4 2 ≡ le 2 c
  unfolding part le
  four4 = refl

  four6 : part four 6 2 ≡ le 2 d
  unfolding part le
  four6 = refl

-- a label set with no label p or above fits 64 bits
label_fits : (p x : ℕ) → p ≤ 64 → label_over p x ≡ false → x < 256 ^ 8
label_fits p x h e =
    let z : x / 2 ^ p ≡ 0 = eqb-true (x / 2 ^ p) 0 (not-false _ e) in
    let l : x < 2 ^ p = rw (z, zero-mul (2 ^ p), zero-add (2 ^ p)) at (lt-div-mul-add {a = x} (pow_pos p)) in
    omega (arith, pow_mono {i = p} {j = 64} h)

module _ (t : Lent) (A : Allowed t) where
  abbrev f : List ℕ
  f = file_of t

  abbrev blocks : ℕ
  blocks = blocks_of t.n t.m

  block_of_file : (b : ℕ) → b < blocks → part f (512 * b) 512 ≡ block_at t b
  unfolding file_of
  block_of_file b h = cat_part blocks 512 b (block_at t) (length_block_at t) h

  room : (content : Content) → length (records_of t content) ≤ 502
  room content = omega (arith, length_records t content, records_fit t.n t.m content)

  most_blocks : blocks ≤ 19
  most_blocks = omega (arith, A.most_n, A.most_m)

  checks : (b : ℕ) → b < blocks → check_wrong f b ≡ false
  unfolding check_wrong block block_at
  checks b h =
      let content = content_at t.n b in
      rw (block_of_file b h) (ap not (eq-eqb _ _ (check_right (kind_of content) b (count_of t.n t.m content) (records_of t content) (room content))))

  small : (content : Content) → (kind_of content < 65536) × (count_of t.n t.m content < 65536)
  small head = (omega arith, omega arith)
  small (classes k) = (omega arith, omega arith)
  small (edges k) = (omega arith, omega arith)

  shapes : (b : ℕ) → b < blocks → block_wrong f t.n t.m b ≡ false
  unfolding block_wrong block block_at
  shapes b h =
      let content = content_at t.n b in
      let k = small content in
      let c = count_of t.n t.m content in
      let s = shape_of_block (kind_of content) b c (records_of t content) (room content) k.0 (omega (arith, most_blocks)) k.1 in
      rw (block_of_file b h, ← length_records t content) (ap not s)

  -- record i of the block of a content
  record_in : (content : Content) (b i : ℕ) → content_at t.n b ≡ content → b < blocks → i < count_of t.n t.m content → part f (512 * b + (8 + size_of content * i)) (size_of content) ≡ record_of t content i
  unfolding block_at
  record_in content b i e h g =
      let w = size_of content in
      let c = count_of t.n t.m content in
      let s : w * i + w ≤ w * c = record_end w i c g in
      let k : w * c ≤ 502 = records_fit t.n t.m content in
      let l : length (records_of t content) ≡ w * c = length_records t content in
      sym (part_part f (512 * b) 512 (8 + w * i) w (omega arith))
      ∙ ap (λ (x : List ℕ). part x (8 + w * i) w) (block_of_file b h ∙ ap (block_with t b) e)
      ∙ record_part (kind_of content) b c (records_of t content) (room content) (w * i) w (omega arith)
      ∙ cat_part c w i (record_of t content) (length_record t content) g

  head_first : content_at t.n 0 ≡ head
  unfolding content_at
  head_first = refl

  head_word : (i v : ℕ) → v < 65536 → i + 2 ≤ 8 → part (counts_bytes t) i 2 ≡ le 2 v → word f (8 + i) ≡ v
  unfolding word
  head_word i v h k e = ap num (sym (part_part f 8 8 i 2 k) ∙ ap (λ (x : List ℕ). part x i 2) (record_in head 0 0 head_first (omega arith) (omega arith)) ∙ e) ∙ num_le 2 v h

  n_is : word f 8 ≡ t.n
  n_is = head_word 0 t.n (omega (arith, A.most_n)) (omega arith) (four0 t.n t.m t.p t.q)

  m_is : word f 10 ≡ t.m
  m_is = head_word 2 t.m (omega (arith, A.most_m)) (omega arith) (four2 t.n t.m t.p t.q)

  p_is : word f 12 ≡ t.p
  p_is = head_word 4 t.p (omega (arith, A.most_p)) (omega arith) (four4 t.n t.m t.p t.q)

  q_is : word f 14 ≡ t.q
  q_is = head_word 6 t.q (omega (arith, A.most_q)) (omega arith) (four6 t.n t.m t.p t.q)

  pub label_is : (i : ℕ) → i < t.n → label_in f i ≡ labels_of t.labels i
  unfolding label_in
  label_is i h =
      let k = i / 62 in
      let j = i % 62 in
      let s : 62 * k + j ≡ i = omega arith in
      let at : content_at t.n (1 + k) ≡ classes k = at_classes t.n (1 + k) (λ e. omega arith) (omega arith) ∙ ap classes (omega arith) in
      ap num (record_in (classes k) (1 + k) j at (omega arith) (omega arith) ∙ ap (λ (x : ℕ). le 8 (labels_of t.labels x)) s)
      ∙ num_le 8 (labels_of t.labels i) (label_fits t.p (labels_of t.labels i) A.most_p (A.labels i h))

  edge_fits : (j r : ℕ) → j < t.m → r < 3 → get_or t.edges (3 * j + r) 0 < 256 ^ 2
  edge_fits j zero h g = rw (add-zero (3 * j)) (omega (arith, A.sources j h, A.most_n))
  edge_fits j (suc zero) h g = omega (arith, A.roles j h, A.most_q)
  edge_fits j (suc (suc zero)) h g = omega (arith, A.targets j h, A.most_n)
  edge_fits j (suc (suc (suc r))) h g = absurd (omega arith)

  pub number_is : (i : ℕ) → i < 3 * t.m → number_in f t.n i ≡ get_or t.edges i 0
  unfolding number_in word
  number_is i h =
      let k = i / 249 in
      let e = i % 249 / 3 in
      let r = i % 3 in
      let j = 83 * k + e in
      let s : 3 * j + r ≡ i = omega arith in
      let b = 1 + class_blocks t.n + k in
      let u : j < t.m = omega arith in
      let w : k < edge_blocks t.m = omega arith in
      let at : 512 * b + (8 + 2 * (i % 249)) ≡ 512 * b + (8 + 6 * e) + 2 * r = omega arith in
      let here : content_at t.n b ≡ edges k = at_edges t.n b (omega arith) ∙ ap edges (omega arith) in
      ap num (ap (λ (x : ℕ). part f x 2) at
      ∙ sym (part_part f (512 * b + (8 + 6 * e)) 6 (2 * r) 2 (omega arith))
      ∙ ap (λ (x : List ℕ). part x (2 * r) 2) (record_in (edges k) b e here (omega arith) (omega arith))
      ∙ edge_number t.edges j r (omega arith))
      ∙ num_le 2 (get_or t.edges (3 * j + r) 0) (edge_fits j r u (omega arith))
      ∙ ap (λ (x : ℕ). get_or t.edges x 0) s

  -- ---- the table that stands in the file is the table, up to entries past the counts
  pub same_counts : table_in f ≡ table_with f t.n t.m t.p t.q
  same_counts = rw (n_is, m_is, p_is, q_is)

  pub number_back : (i : ℕ) → i < 3 * t.m → get_or (table_with f t.n t.m t.p t.q).edges i 0 ≡ get_or t.edges i 0
  number_back i h = get_or_tabulate (3 * t.m) (number_in f t.n) 0 i h ∙ number_is i h

  module _ (i : ℕ) (h : i < t.m) where
    abbrev back : List ℕ
    back = (table_with f t.n t.m t.p t.q).edges

    source_back : source_of back i ≡ source_of t.edges i
    source_back = number_back (3 * i) (omega arith)

    role_back : role_of back i ≡ role_of t.edges i
    role_back = number_back (3 * i + 1) (omega arith)

    target_back : target_of back i ≡ target_of t.edges i
    target_back = number_back (3 * i + 2) (omega arith)

  allowed_back : Allowed (table_with f t.n t.m t.p t.q)
  allowed_back = record {
    most_n = A.most_n;
    most_m = A.most_m;
    most_p = A.most_p;
    most_q = A.most_q;
    labels = λ i h. rw (get_or_tabulate t.n (label_in f) 0 i h, label_is i h) (A.labels i h);
    sources = λ i h. rw (source_back i h) (A.sources i h);
    roles = λ i h. rw (role_back i h) (A.roles i h);
    targets = λ i h. rw (target_back i h) (A.targets i h);
    ascending = λ i h. let l : i < t.m = omega arith in
        rw (source_back i l, role_back i l, target_back i l, source_back (i + 1) h, role_back (i + 1) h, target_back (i + 1) h) (A.ascending i h);
  }

  pub written_passes : Passes f (table_in f)
  written_passes = rw same_counts (record {
    long = length_file t;
    within = rw (le-ltb 256 t.n A.most_n, le-ltb 1024 t.m A.most_m, le-ltb 64 t.p A.most_p, le-ltb 64 t.q A.most_q) refl;
    checks = checks;
    shapes = shapes;
    contents = contents_right (table_with f t.n t.m t.p t.q) allowed_back;
  })
