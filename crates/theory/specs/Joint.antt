-- The joint class is the greatest class under both. The graph here is the one AFTER the class was made.
use Rattle.std.specs.Prelude.{◌≡◌, true, ◌⊎◌, ℕ, ◌<◌}
use Rattle.std.proofs.Common.{subst, ◌∙◌, inl, inr}
use Rattle.ground.specs.Relations.{Inside, Rel}
use Rattle.theory.specs.Graph.{Graph, Partner, Under, Edge, Closed}
use Rattle.theory.specs.Simulation.{under_sim, partner_of_edge}
use Rattle.theory.specs.Rounds.{under_intro}

pub record Joint (G : Graph) (fits : Rel) (j a b : ℕ) : Type 0 where
  pub over_left : fits a j ≡ true
  pub over_right : fits b j ≡ true
  pub joined : (d : ℕ) → fits a d ≡ true → fits b d ≡ true → fits j d ≡ true
  pub only : (i : ℕ) → i < G.edges → G.src i ≡ j → Edge G a (G.rol i) (G.tgt i) ⊎ Edge G b (G.rol i) (G.tgt i)
  pub each_left : (i : ℕ) → i < G.edges → G.src i ≡ a → Edge G j (G.rol i) (G.tgt i)
  pub each_right : (i : ℕ) → i < G.edges → G.src i ≡ b → Edge G j (G.rol i) (G.tgt i)

module _ (G : Graph) (fits : Rel) (n : ℕ) (inside : Inside n n fits) (reflexive : (c : ℕ) → c < G.size → Under G G fits c c) (cl : Closed G) where
  -- a class a whose edges j all has, and whose start fits j, has j under it
  wider : (a j : ℕ) → fits a j ≡ true → ((i : ℕ) → i < G.edges → G.src i ≡ a → Edge G j (G.rol i) (G.tgt i)) → Under G G fits a j
  wider a j f each = under_intro G G fits n n inside a j f (λ i l q. partner_of_edge G G (Under G G fits) (each i l q) (reflexive (G.tgt i) (cl i l)))

  pub joint_left : (j a b : ℕ) → Joint G fits j a b → Under G G fits a j
  joint_left j a b J = wider a j J.over_left J.each_left

  pub joint_right : (j a b : ℕ) → Joint G fits j a b → Under G G fits b j
  joint_right j a b J = wider b j J.over_right J.each_right

  -- an edge that a shares with j has a partner at d, if d lies under a
  shared_partner : (a d i : ℕ) → Under G G fits a d → Edge G a (G.rol i) (G.tgt i) → Partner G G (Under G G fits) i d
  shared_partner a d i u e =
      let p = (under_sim G G fits).edge a d u e.at e.below e.from in
      record { at = p.at; below = p.below; from = p.from; role = p.role ∙ e.role; leads = subst (λ (x : ℕ). Under G G fits x (G.tgt p.at)) e.to p.leads }

  pub joint_greatest : (j a b d : ℕ) → Joint G fits j a b → Under G G fits a d → Under G G fits b d → Under G G fits j d
  joint_greatest j a b d J x y = under_intro G G fits n n inside j d
      (J.joined d ((under_sim G G fits).start a d x) ((under_sim G G fits).start b d y))
      (λ i l q. elim (J.only i l q) [ inl e ↦ shared_partner a d i x e | inr e ↦ shared_partner b d i y e ])
