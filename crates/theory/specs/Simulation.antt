-- The rounds stop at the greatest simulation: every simulation lies within every round, and a round that changes nothing is a simulation.
use Rattle.std.specs.Prelude.{◌≡◌, refl, true, ◌&&◌, ◌↔◌}
use Rattle.std.proofs.Math.Path.{sym}
use Rattle.std.proofs.Common.{subst, ◌∙◌, arith, ℕ, zero, suc, ◌≤◌, ◌<◌}
use Rattle.std.proofs.Math.Bool.{Bool}
use Rattle.std.proofs.Math.Decide.{le_ind}
use Rattle.std.proofs.Math.Dec.{eqb}
use Rattle.std.proofs.lemmas.Bool.{eqb-true, eq-eqb}
use Rattle.ground.specs.Tests.{Lowest, all_in, all_out, and_in, and_l, and_r, any, any_in, any_out, implies_in, implies_out, same_test}
use Rattle.ground.specs.Relations.{Holds, Rel}
use Rattle.theory.specs.Graph.{Graph, Partner, Backed, Sim, Under, partner, served, backed, step, round, Stable, Rounds, Edge}

pub partner_of_edge {ℓ} : (G H : Graph) (Z : ℕ → ℕ → Type ℓ) {i a t : ℕ} → Edge H a (G.rol i) t → Z (G.tgt i) t → Partner G H Z i a
partner_of_edge G H Z {i} e z = record { at = e.at; below = e.below; from = e.from; role = e.role; leads = subst (λ (x : ℕ). Z (G.tgt i) x) (sym e.to) z }

pub edge_of_partner {ℓ} : (G H : Graph) (Z : ℕ → ℕ → Type ℓ) {i a : ℕ} (p : Partner G H Z i a) → Edge H a (G.rol i) (H.tgt p.at)
edge_of_partner G H Z p = record { at = p.at; below = p.below; from = p.from; role = p.role; to = refl }

module _ (G H : Graph) where
  -- ---- the tests say what they stand for
  pub partner_in : (r : Rel) (i a : ℕ) → Partner G H (Holds r) i a → any H.edges (partner G H r i a) ≡ true
  unfolding partner
  partner_in r i a p = any_in H.edges (partner G H r i a) p.at p.below (and_in (eq-eqb _ _ p.from) (and_in (eq-eqb _ _ p.role) p.leads))

  pub partner_out : (r : Rel) (i a : ℕ) → any H.edges (partner G H r i a) ≡ true → Partner G H (Holds r) i a
  unfolding partner
  partner_out r i a e =
      let l : Lowest H.edges (partner G H r i a) = any_out _ _ e in
      let t : Bool = eqb (H.src l.at) a in
      let u : Bool = eqb (H.rol l.at) (G.rol i) in
      let v : Bool = r (G.tgt i) (H.tgt l.at) in
      record {
        at = l.at;
        below = l.below;
        from = eqb-true _ _ (and_l t (u && v) l.passes);
        role = eqb-true _ _ (and_l u v (and_r t (u && v) l.passes));
        leads = and_r u v (and_r t (u && v) l.passes);
      }

  pub backed_in : (r : Rel) (b a : ℕ) → Backed G H (Holds r) b a → backed G H r b a ≡ true
  unfolding backed served
  backed_in r b a h = all_in _ _ (λ i l. implies_in _ _ (λ e. partner_in r i a (h i l (eqb-true _ _ e))))

  pub backed_out : (r : Rel) (b a : ℕ) → backed G H r b a ≡ true → Backed G H (Holds r) b a
  unfolding backed served
  backed_out r b a e i l s = partner_out r i a (implies_out _ _ (all_out _ _ e i l) (eq-eqb _ _ s))

  -- ---- a larger relation backs more
  pub partner_mono {ℓ κ} : {Y : ℕ → ℕ → Type ℓ} {Z : ℕ → ℕ → Type κ} → ((b a : ℕ) → Y b a → Z b a) → {i a : ℕ} → Partner G H Y i a → Partner G H Z i a
  partner_mono f p = record { at = p.at; below = p.below; from = p.from; role = p.role; leads = f _ _ p.leads }

  pub step_in : (r : Rel) (b a : ℕ) → r b a ≡ true → Backed G H (Holds r) b a → step G H r b a ≡ true
  unfolding step
  step_in r b a e h = and_in e (backed_in r b a h)

  pub step_old : (r : Rel) (b a : ℕ) → step G H r b a ≡ true → r b a ≡ true
  unfolding step
  step_old r b a e = and_l (r b a) (backed G H r b a) e

  pub step_backed : (r : Rel) (b a : ℕ) → step G H r b a ≡ true → Backed G H (Holds r) b a
  unfolding step
  step_backed r b a e = backed_out r b a (and_r (r b a) (backed G H r b a) e)

  pub step_mono : (r s : Rel) → ((b a : ℕ) → Holds r b a → Holds s b a) → (b a : ℕ) → Holds (step G H r) b a → Holds (step G H s) b a
  step_mono r s f b a e = step_in s b a (f b a (step_old r b a e)) (λ i l q. partner_mono f (step_backed r b a e i l q))

  module _ (fits : Rel) where
    -- ---- every simulation, of whatever kind, is in every round
    pub sim_in_round {ℓ} : (Z : ℕ → ℕ → Type ℓ) → Sim G H fits Z → (k b a : ℕ) → Z b a → round G H fits k b a ≡ true
    unfolding round
    sim_in_round Z s zero b a z = s.start b a z
    sim_in_round Z s (suc k) b a z = step_in (round G H fits k) b a (sim_in_round Z s k b a z) (λ i l q. partner_mono (sim_in_round Z s k) (s.edge b a z i l q))

    pub round_old : (k b a : ℕ) → round G H fits (suc k) b a ≡ true → round G H fits k b a ≡ true
    unfolding round
    round_old k b a e = step_old (round G H fits k) b a e

    pub round_start : (k b a : ℕ) → round G H fits k b a ≡ true → fits b a ≡ true
    unfolding round
    round_start zero b a e = e
    round_start (suc k) b a e = round_start k b a (step_old (round G H fits k) b a e)

    -- ---- where a round changes nothing, it is a simulation
    pub stable_sim : (k : ℕ) → Stable G H fits k → Sim G H fits (Holds (round G H fits k))
    unfolding round
    stable_sim k st = record { start = round_start k; edge = λ b a z. step_backed (round G H fits k) b a (sym (st b a) ∙ z) }

    pub stable_iff : (k : ℕ) → Stable G H fits k → (b a : ℕ) → (round G H fits k b a ≡ true) ↔ Under G H fits b a
    stable_iff k st b a = (
      λ e. record { rel = round G H fits k; sim = stable_sim k st; pair = e },
      λ u. sim_in_round (Holds u.rel) u.sim k b a u.pair,
    )

    -- `Under` is itself the greatest simulation
    pub under_sim : Sim G H fits (Under G H fits)
    under_sim = record { start = λ b a u. u.sim.start b a u.pair; edge = λ b a u i l q. partner_mono (λ b a e. record { rel = u.rel; sim = u.sim; pair = e }) (u.sim.edge b a u.pair i l q) }

    -- ---- from a stable round on, nothing changes; and there is one least stable round
    pub stable_after : (k : ℕ) → Stable G H fits k → (l : ℕ) → k ≤ l → (b a : ℕ) → round G H fits l b a ≡ round G H fits k b a
    unfolding round
    stable_after k st = le_ind (λ (l : ℕ). (b a : ℕ) → round G H fits l b a ≡ round G H fits k b a) (λ b a. refl)
        (λ l h ih b a. step_same (round G H fits l) (round G H fits k) ih b a ∙ sym (st b a))
      where
        step_same : (r s : Rel) → ((b a : ℕ) → r b a ≡ s b a) → (b a : ℕ) → step G H r b a ≡ step G H s b a
        step_same r s f b a = same_test _ _ (step_mono r s (λ b a e. sym (f b a) ∙ e) b a) (step_mono s r (λ b a e. f b a ∙ e) b a)

    pub rounds_unique : (k l : ℕ) → Rounds G H fits k → Rounds G H fits l → k ≡ l
    rounds_unique k l x y =
        let p : ¬ (k < l) = λ h. y.least k h x.stable in
        let q : ¬ (l < k) = λ h. x.least l h y.stable in
        omega arith

  -- ---- a larger start has larger rounds
  pub round_mono : (f g : Rel) → ((b a : ℕ) → Holds f b a → Holds g b a) → (k b a : ℕ) → Holds (round G H f k) b a → Holds (round G H g k) b a
  unfolding round
  round_mono f g h zero = h
  round_mono f g h (suc k) = step_mono (round G H f k) (round G H g k) (round_mono f g h k)

  pub under_mono : (f g : Rel) → ((b a : ℕ) → Holds f b a → Holds g b a) → {b a : ℕ} → Under G H f b a → Under G H g b a
  under_mono f g h u = record { rel = u.rel; sim = record { start = λ b a e. h b a (u.sim.start b a e); edge = u.sim.edge }; pair = u.pair }
