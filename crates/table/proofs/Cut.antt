-- A search over the part of a buffer that the count says is a search over the buffer.
use Rattle.std.specs.Prelude.{[], ℕ, ◌+◌, ◌-◌, ◌*◌, ◌≤◌, ◌<◌, ◌≡◌, List, length, get_or, take, not}
use Rattle.std.specs.List.{concat}
use Rattle.std.proofs.Common.{arith, lt-ltb, get_or-take, length-take-le}
use Rattle.ground.specs.Lists.{piece_entry}
use Rattle.ground.specs.Tests.{first, first_ext}
use Rattle.table.specs.Lent.{lent, given, source_of, role_of, target_of}
use Rattle.table.specs.declared.Table.{Table}
use Rattle.table.specs.Edges.{first_edge}
use Rattle.table.specs.Check.{outside, before, label_wrong, edge_wrong, order_wrong, contents_of}

-- the numbers of edge i, where every edge has three
module _ (cs : List (List ℕ)) (each : (i : ℕ) → i < length cs → length (get_or cs i []) ≡ 3) where
  pub source_piece : (i : ℕ) → i < length cs → source_of (concat cs) i ≡ get_or (get_or cs i []) 0 0
  source_piece i h = let e : 3 * i + 0 ≡ 3 * i = omega arith in rw e at (piece_entry 3 cs each i 0 h (omega arith))

  role_piece : (i : ℕ) → i < length cs → role_of (concat cs) i ≡ get_or (get_or cs i []) 1 0
  role_piece i h = piece_entry 3 cs each i 1 h (omega arith)

  target_piece : (i : ℕ) → i < length cs → target_of (concat cs) i ≡ get_or (get_or cs i []) 2 0
  target_piece i h = piece_entry 3 cs each i 2 h (omega arith)

  pub edge_piece : (n q i : ℕ) → i < length cs → edge_wrong n q (concat cs) i ≡ outside n q (get_or (get_or cs i []) 0 0) (get_or (get_or cs i []) 1 0) (get_or (get_or cs i []) 2 0)
  unfolding edge_wrong
  edge_piece n q i h = rw (source_piece i h, role_piece i h, target_piece i h)

  pub order_piece : (i : ℕ) → 1 ≤ i → i < length cs → order_wrong (concat cs) i ≡ not (before
      (get_or (get_or cs (i - 1) []) 0 0) (get_or (get_or cs (i - 1) []) 1 0) (get_or (get_or cs (i - 1) []) 2 0)
      (get_or (get_or cs i []) 0 0) (get_or (get_or cs i []) 1 0) (get_or (get_or cs i []) 2 0))
  unfolding order_wrong
  order_piece i p h =
      let k : i - 1 < length cs = omega arith in
      let z : 0 < i = omega arith in
      rw (lt-ltb 0 i z, source_piece i h, role_piece i h, target_piece i h, source_piece (i - 1) k, role_piece (i - 1) k, target_piece (i - 1) k)

module _ (cs : List (List ℕ)) (m : ℕ) (es : List ℕ) (count : length cs ≡ m) (same : concat cs ≡ take (3 * m) es) where
  number : (i k : ℕ) → i < m → k < 3 → get_or (take (3 * m) es) (3 * i + k) 0 ≡ get_or es (3 * i + k) 0
  number i k h l = get_or-take (3 * m) es (3 * i + k) 0 (omega arith)

  first_number : (i : ℕ) → i < m → get_or (take (3 * m) es) (3 * i) 0 ≡ get_or es (3 * i) 0
  first_number i h = get_or-take (3 * m) es (3 * i) 0 (omega arith)

  edge_cut : (n q : ℕ) → first m (edge_wrong n q (take (3 * m) es)) ≡ first m (edge_wrong n q es)
  unfolding edge_wrong
  edge_cut n q = first_ext m _ _ (λ i l. rw (first_number i l, number i 1 l (omega arith), number i 2 l (omega arith)))

  order_cut : first m (order_wrong (take (3 * m) es)) ≡ first m (order_wrong es)
  unfolding order_wrong
  order_cut = first_ext m _ _ (λ i l.
      let k : i - 1 < m = omega arith in
      rw (first_number i l, number i 1 l (omega arith), number i 2 l (omega arith), first_number (i - 1) k, number (i - 1) 1 k (omega arith), number (i - 1) 2 k (omega arith)))

  -- and of the first edge whose source is class c or a later one
  pub start_cut : (c : ℕ) → first_edge (concat cs) (length cs) c ≡ first_edge es m c
  start_cut c = rw (count, same) (first_ext m _ _ (λ i l. rw (first_number i l)))

  -- what is wrong with the table's contents is what is wrong with those edges and the first n labels
  pub contents_cut : (t : Table) (ls : List ℕ) → m ≡ t.m → t.n ≤ length ls → contents_of (given (take t.n ls) cs t.p t.q) ≡ contents_of (lent t ls es)
  unfolding contents_of label_wrong
  contents_cut t ls e h =
      let labels : first t.n (label_wrong t.p (take t.n ls)) ≡ first t.n (label_wrong t.p ls) = first_ext t.n _ _ (λ i l. rw (get_or-take t.n ls i 0 l)) in
      rw (count, same, length-take-le t.n ls h, ← e, labels, edge_cut t.n t.q, order_cut)
