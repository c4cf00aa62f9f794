-- An allowed table: within the limits, labels below p, edges in range and strictly ascending. The check refuses nothing exactly if the buffers are long enough
-- and the table is allowed.
use Rattle.std.specs.Prelude.{ℕ, zero, suc, ◌+◌, ◌≤◌, ◌<◌, ◌≡◌, refl, true, ◌↔◌, length, Ok}
use Rattle.std.proofs.Common.{sym, arith, add-sub_cancel, add-one}
use Rattle.std.proofs.Math.Bool.{false}
use Rattle.std.proofs.lemmas.Bool.Decides.{nat_tests}
use Rattle.std.proofs.lemmas.Bool.{lt-leb, le-ltb, lt-ltb, not-false}
use Rattle.ground.specs.Tests.{first_passed}
use Rattle.theory.specs.Graph.{Closed}
use Rattle.table.specs.Limits.{class_limit, edge_limit, label_limit, role_limit, labels_length, edges_length}
use Rattle.table.specs.Answer.{refuse, refuse_first, then_done, refuse_done, refuse_first_done}
use Rattle.table.specs.Lent.{Lent, labels_of, source_of, role_of, target_of, graph_of}
use Rattle.table.specs.Check.{too_short, over_limit, label_over, edge_before, label_wrong, edge_wrong, order_wrong, contents_of, check_of}
use Rattle.table.specs.declared.Refusal.TheVariants.{OverLimit, LabelOutOfRange, EdgeOutOfRange, NotAscending, ShortBuffer}

pub record Allowed (t : Lent) : Type 0 where
  pub most_n : t.n ≤ class_limit
  pub most_m : t.m ≤ edge_limit
  pub most_p : t.p ≤ label_limit
  pub most_q : t.q ≤ role_limit
  pub labels : (i : ℕ) → i < t.n → label_over t.p (labels_of t.labels i) ≡ false
  pub sources : (i : ℕ) → i < t.m → source_of t.edges i < t.n
  pub roles : (i : ℕ) → i < t.m → role_of t.edges i < t.q
  pub targets : (i : ℕ) → i < t.m → target_of t.edges i < t.n
  pub ascending : (i : ℕ) → i + 1 < t.m → edge_before t.edges i (i + 1) ≡ true

-- the lent buffers are long enough
pub record Long (t : Lent) : Type 0 where
  pub labels : labels_length ≤ length t.labels
  pub edges : edges_length ≤ length t.edges

-- every edge of an allowed table leads to a class
pub closed : (t : Lent) → Allowed t → Closed (graph_of t)
closed t A = A.targets

-- ---- the tests, taken apart and put together

pub within_limits : (n m p q : ℕ) → over_limit n m p q ≡ false → (n ≤ class_limit) × (m ≤ edge_limit) × (p ≤ label_limit) × (q ≤ role_limit)
within_limits n m p q e = (grind (arith, nat_tests), grind (arith, nat_tests), grind (arith, nat_tests), grind (arith, nat_tests))

order_kept : (t : Lent) → Allowed t → (i : ℕ) → i < t.m → order_wrong t.edges i ≡ false
unfolding order_wrong
order_kept t A zero l = refl
order_kept t A (suc i) l = rw (lt-ltb 0 (suc i) (omega arith), sym (add-one i), add-sub_cancel i 1, A.ascending i (omega arith))

-- ---- nothing is refused exactly if the buffers are long enough and the table is allowed

pub contents_allowed : (t : Lent) → over_limit t.n t.m t.p t.q ≡ false → contents_of t ≡ Ok tt → Allowed t
unfolding contents_of label_wrong edge_wrong order_wrong
contents_allowed t o e =
    let f = then_done (refuse_first t.n (label_wrong t.p t.labels) LabelOutOfRange) _ e in
    let g = then_done (refuse_first t.m (edge_wrong t.n t.q t.edges) EdgeOutOfRange) _ f.1 in
    let w = within_limits t.n t.m t.p t.q o in
    let inside = refuse_first_done t.m (edge_wrong t.n t.q t.edges) EdgeOutOfRange g.0 in
    let order = refuse_first_done t.m (order_wrong t.edges) NotAscending g.1 in
    record {
      most_n = w.0;
      most_m = w.1;
      most_p = w.2;
      most_q = w.3;
      labels = refuse_first_done t.n (label_wrong t.p t.labels) LabelOutOfRange f.0;
      sources = λ i l. grind (arith, nat_tests, inside i l);
      roles = λ i l. grind (arith, nat_tests, inside i l);
      targets = λ i l. grind (arith, nat_tests, inside i l);
      ascending = λ i l. not-false _ (rw (lt-ltb 0 (i + 1) (omega arith), add-sub_cancel i 1) at (order (i + 1) l));
    }

pub checked : (t : Lent) → check_of t ≡ Ok tt → Long t × Allowed t
unfolding check_of
checked t e =
    let c = then_done (refuse (too_short t) ShortBuffer) _ e in
    let d = then_done (refuse (over_limit t.n t.m t.p t.q) OverLimit) _ c.1 in
    let s = refuse_done (too_short t) ShortBuffer c.0 in (
      record { labels = grind (arith, nat_tests); edges = grind (arith, nat_tests) },
      contents_allowed t (refuse_done _ OverLimit d.0) d.1,
    )

pub contents_right : (t : Lent) → Allowed t → contents_of t ≡ Ok tt
unfolding contents_of label_wrong edge_wrong
contents_right t A = rw (
  first_passed t.n (label_wrong t.p t.labels) A.labels,
  first_passed t.m (edge_wrong t.n t.q t.edges) (λ i l. rw (lt-leb _ _ (A.sources i l), lt-leb _ _ (A.roles i l), lt-leb _ _ (A.targets i l))),
  first_passed t.m (order_wrong t.edges) (order_kept t A),
)

pub check_right : (t : Lent) → Long t → Allowed t → check_of t ≡ Ok tt
unfolding check_of
check_right t L A = rw (
  le-ltb _ _ L.labels,
  le-ltb _ _ L.edges,
  le-ltb _ _ A.most_n,
  le-ltb _ _ A.most_m,
  le-ltb _ _ A.most_p,
  le-ltb _ _ A.most_q,
) (contents_right t A)

pub checked_exactly : (t : Lent) → (check_of t ≡ Ok tt) ↔ (Long t × Allowed t)
checked_exactly t = (checked t, λ x. check_right t x.0 x.1)
