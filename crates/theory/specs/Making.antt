-- The common class as it is made: a new class for each reachable pair, numbered from n upward by row, then column, whose edges are the steps.
use Rattle.std.specs.Prelude.{◌≡◌, refl, true, ℕ, ◌+◌, ◌<◌}
use Rattle.std.proofs.Common.{sym, subst, ◌∙◌}
use Rattle.ground.specs.Relations.{Inside, Rel, pairs, rank}
use Rattle.theory.specs.Graph.{Graph, Under, Edge}
use Rattle.theory.specs.Common.{Common, common_left, common_right, common_least}
use Rattle.theory.specs.Appended.{Appended, edge_up, edge_down}
use Rattle.theory.specs.Reach.{here, next, Reached}

unfoldable pub number : Graph → Rel → ℕ → ℕ → ℕ
number G r u v = G.size + rank G.size r u v

pub record Stepped (G : Graph) (r : Rel) (u v ρ t : ℕ) : Type 0 where
  pub left : ℕ
  pub right : ℕ
  pub left_edge : Edge G u ρ left
  pub right_edge : Edge G v ρ right
  pub leads_to : t ≡ number G r left right

pub record CommonMade (G H : Graph) (r : Rel) : Type 0 where
  pub appended : Appended G H
  pub size : H.size ≡ G.size + pairs G.size G.size r
  pub steps_only : (u v : ℕ) → r u v ≡ true → (i : ℕ) → i < H.edges → H.src i ≡ number G r u v → Stepped G r u v (H.rol i) (H.tgt i)
  pub steps_each : (u v ρ u' v' : ℕ) → r u v ≡ true → Edge G u ρ u' → Edge G v ρ v' → Edge H (number G r u v) ρ (number G r u' v')

-- the start rule at the new classes: they have the labels that the two share
pub record SharedStart (G : Graph) (fits : Rel) (r : Rel) : Type 0 where
  pub left : (u v : ℕ) → r u v ≡ true → fits (number G r u v) u ≡ true
  pub right : (u v : ℕ) → r u v ≡ true → fits (number G r u v) v ≡ true
  pub both : (u v d : ℕ) → r u v ≡ true → fits d u ≡ true → fits d v ≡ true → fits d (number G r u v) ≡ true

pub record Meets (G : Graph) (r : Rel) (c u v : ℕ) : Type 0 where
  pub pair : r u v ≡ true
  pub is : c ≡ number G r u v

pub common_of : (G H : Graph) (p q : ℕ) (r : Rel) (fits : Rel) → Reached G p q r → CommonMade G H r → SharedStart G fits r → Common H fits (Meets G r)
common_of G H p q r fits R C S = record {
  under_left = λ c u v m. subst (λ (x : ℕ). fits x u ≡ true) (sym m.is) (S.left u v m.pair);
  under_right = λ c u v m. subst (λ (x : ℕ). fits x v ≡ true) (sym m.is) (S.right u v m.pair);
  shared = λ c u v d m e f. subst (λ (x : ℕ). fits d x ≡ true) (sym m.is) (S.both u v d m.pair e f);
  only = λ c u v m i l s. let t = C.steps_only u v m.pair i l (s ∙ m.is) in
      record {
        left = t.left;
        right = t.right;
        left_edge = edge_up G H C.appended t.left_edge;
        right_edge = edge_up G H C.appended t.right_edge;
        meets = record { pair = R.complete t.left t.right (next (R.sound u v m.pair) t.left_edge t.right_edge); is = t.leads_to };
      };
  each = λ c u v ρ u' v' m e f. let b = R.inside u v m.pair in
      let e' = edge_down G H C.appended b.0 e in
      let f' = edge_down G H C.appended b.1 f in (
        number G r u' v',
        record { pair = R.complete u' v' (next (R.sound u v m.pair) e' f'); is = refl },
        subst (λ (x : ℕ). Edge H x ρ (number G r u' v')) (sym m.is) (C.steps_each u v ρ u' v' m.pair e' f'),
      );
}

-- the answer lies above both, and under every class above both
pub record LeastAbove (H : Graph) (fits : Rel) (c p q : ℕ) : Type 0 where
  pub above_left : Under H H fits c p
  pub above_right : Under H H fits c q
  pub least : (d : ℕ) → Under H H fits d p → Under H H fits d q → Under H H fits d c

pub common_made : (G H : Graph) (p q : ℕ) (r : Rel) (fits : Rel) (n : ℕ) → Inside n n fits → Reached G p q r → CommonMade G H r → SharedStart G fits r
    → LeastAbove H fits (number G r p q) p q
common_made G H p q r fits n ins R C S =
    let K = common_of G H p q r fits R C S in
    let m : Meets G r (number G r p q) p q = record { pair = R.complete p q (here refl refl); is = refl } in
    record {
      above_left = common_left H fits n ins (Meets G r) K (number G r p q) p q m;
      above_right = common_right H fits n ins (Meets G r) K (number G r p q) p q m;
      least = λ d. common_least H fits n ins (Meets G r) K (number G r p q) p q d m;
    }
