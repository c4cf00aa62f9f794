-- No place is large: it is a block, a class, an edge, or 0 or 1. So a place always fits the 16 bits that an exported answer gives it.
use Rattle.std.specs.Prelude.{ℕ, ◌≤◌, ◌<◌, ◌≡◌, refl, Bool, true, false, leb, ltb, Ok, Err}
use Rattle.std.proofs.Common.{sym, ap, subst, ◌∙◌, inl, inr, arith, ltb-true}
use Rattle.std.proofs.lemmas.Bool.{cases_Bool}
use Rattle.ground.specs.Tests.{first}
use Rattle.table.specs.Limits.{class_limit, edge_limit}
use Rattle.table.specs.Answer.{Outcome, place_of, refuse, refuse_first, ◌then◌, refuse_done}
use Rattle.table.specs.Lent.{Lent}
use Rattle.table.specs.Check.{too_short, over_limit, label_wrong, edge_wrong, order_wrong, contents_of, check_of, known_of}
use Rattle.table.specs.Allowed.{within_limits}
use Rattle.table.specs.declared.Refusal.{Refusal}
use Rattle.table.specs.declared.Refusal.TheVariants.{OverLimit, LabelOutOfRange, EdgeOutOfRange, NotAscending, NoSuchClass, ShortBuffer}

-- where o refuses, its place is below k
abbrev pub Places : ℕ → Outcome → Type 0
Places k o = (r : Refusal) → o ≡ Err r → place_of r < k

pub done_places : (k : ℕ) → Places k (Ok tt)
done_places k r e = cc

pub refused_places : (k : ℕ) (x : Refusal) → place_of x < k → Places k (Err x)
refused_places k x h r e = let q : x ≡ r = cc in subst (λ (y : Refusal). place_of y < k) q h

pub then_places : (k : ℕ) (a b : Outcome) → Places k a → (a ≡ Ok tt → Places k b) → Places k (a then b)
then_places k (Ok done) b h l = l refl
then_places k (Err x) b h l = h

pub refuse_places : (k : ℕ) (t : Bool) (x : Refusal) → place_of x < k → Places k (refuse t x)
refuse_places k true x h = refused_places k x h
refuse_places k false x h = done_places k

pub first_places : (k n : ℕ) (bad : ℕ → Bool) (c : ℕ → Refusal) → n ≤ k → ((i : ℕ) → place_of (c i) ≡ i) → Places k (refuse_first n bad c)
first_places k n bad c h e r = elim (cases_Bool (ltb (first n bad) n)) [
  | inl t ↦ λ q. refuse_places k (ltb (first n bad) n) (c (first n bad)) (let l = ltb-true (first n bad) n t in omega (arith, e (first n bad))) r q
  | inr t ↦ λ q. done_places k r (sym (ap (λ (b : Bool). refuse b (c (first n bad))) t) ∙ q)
]

-- ---- the check's places are classes and edges

pub contents_places : (t : Lent) → t.n ≤ class_limit → t.m ≤ edge_limit → Places edge_limit (contents_of t)
unfolding contents_of
contents_places t n m =
    then_places edge_limit _ _ (first_places edge_limit t.n (label_wrong t.p t.labels) LabelOutOfRange (omega arith) (λ i. refl))
    (λ _. then_places edge_limit _ _ (first_places edge_limit t.m (edge_wrong t.n t.q t.edges) EdgeOutOfRange m (λ i. refl))
    (λ _. first_places edge_limit t.m (order_wrong t.edges) NotAscending m (λ i. refl)))

pub check_places : (t : Lent) → Places edge_limit (check_of t)
unfolding check_of
check_places t =
    then_places edge_limit (refuse (too_short t) ShortBuffer) _ (refuse_places edge_limit (too_short t) ShortBuffer (omega arith))
    (λ _. then_places edge_limit (refuse (over_limit t.n t.m t.p t.q) OverLimit) _ (refuse_places edge_limit (over_limit t.n t.m t.p t.q) OverLimit (omega arith))
    (λ e. let w = within_limits t.n t.m t.p t.q (refuse_done (over_limit t.n t.m t.p t.q) OverLimit e) in contents_places t w.0 w.1))

pub known_places : (n a b : ℕ) → Places edge_limit (known_of n a b)
known_places n a b = then_places edge_limit (refuse (leb n a) (NoSuchClass 0)) _ (refuse_places edge_limit (leb n a) (NoSuchClass 0) (omega arith))
    (λ _. refuse_places edge_limit (leb n b) (NoSuchClass 1) (omega arith))
