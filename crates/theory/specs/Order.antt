-- "Lies under" is reflexive and transitive, and on one graph the rounds are at most n * n - n.
use Rattle.std.specs.Prelude.{◌≡◌, refl, true, ℕ, ◌*◌, ◌-◌, ◌≤◌, ◌<◌}
use Rattle.std.proofs.Common.{subst, ◌∙◌}
use Rattle.ground.specs.Relations.{Holds, Inside, Rel, pairs_diagonal}
use Rattle.theory.specs.Graph.{Graph, Partner, Sim, Under, round, Rounds, Closed}
use Rattle.theory.specs.Simulation.{sim_in_round, under_sim}
use Rattle.theory.specs.Rounds.{rounds_within, under_of_sim}

-- the diagonal as a simulation
pub record Same (G : Graph) (b a : ℕ) : Type 0 where
  pub eq : b ≡ a
  pub node : b < G.size

pub same_sim : (G : Graph) (fits : Rel) → Closed G → ((b : ℕ) → b < G.size → fits b b ≡ true) → Sim G G fits (Same G)
same_sim G fits cl rf = record {
  start = λ b a s. subst (λ (x : ℕ). fits b x ≡ true) s.eq (rf b s.node);
  edge = λ b a s i l q. record { at = i; below = l; from = q ∙ s.eq; role = refl; leads = record { eq = refl; node = cl i l } };
}

module _ (G : Graph) (fits : Rel) (inside : Inside G.size G.size fits) (cl : Closed G) (rf : (b : ℕ) → b < G.size → fits b b ≡ true) where
  pub round_refl : (k b : ℕ) → b < G.size → round G G fits k b b ≡ true
  round_refl k b l = sim_in_round G G fits (Same G) (same_sim G fits cl rf) k b b (record { eq = refl; node = l })

  pub rounds_bound : (k : ℕ) × Rounds G G fits k × (k ≤ G.size * G.size - G.size)
  rounds_bound = rounds_within G G fits G.size G.size inside G.size (λ k. pairs_diagonal G.size (round G G fits k) (round_refl k))

  pub under_refl : (b : ℕ) → b < G.size → Under G G fits b b
  under_refl b l = under_of_sim G G fits G.size G.size inside (Same G) (same_sim G fits cl rf) b b (record { eq = refl; node = l })

-- ---- composition, over three graphs
pub record Through {ℓ} (Y Z : ℕ → ℕ → Type ℓ) (c a : ℕ) : Type ℓ where
  pub mid : ℕ
  pub upper : Y c mid
  pub lower : Z mid a

pub through_sim {ℓ} : (F G H : Graph) (f g h : Rel) → ((c b a : ℕ) → Holds f c b → Holds g b a → Holds h c a)
    → {Y Z : ℕ → ℕ → Type ℓ} → Sim F G f Y → Sim G H g Z → Sim F H h (Through Y Z)
through_sim F G H f g h tr {Y} {Z} y z = record {
  start = λ c a t. tr c t.mid a (y.start _ _ t.upper) (z.start _ _ t.lower);
  edge = λ c a t i l q.
      let p : Partner F G Y i t.mid = y.edge c t.mid t.upper i l q in
      let r : Partner G H Z p.at a = z.edge t.mid a t.lower p.at p.below p.from in
      record { at = r.at; below = r.below; from = r.from; role = r.role ∙ p.role; leads = record { mid = G.tgt p.at; upper = p.leads; lower = r.leads } };
}

pub under_trans : (F G H : Graph) (f g h : Rel) → ((c b a : ℕ) → Holds f c b → Holds g b a → Holds h c a)
    → (n m : ℕ) → Inside n m h → (c b a : ℕ) → Under F G f c b → Under G H g b a → Under F H h c a
under_trans F G H f g h tr n m ins c b a u v = under_of_sim F H h n m ins (Through (Under F G f) (Under G H g))
    (through_sim F G H f g h tr (under_sim F G f) (under_sim G H g)) c a (record { mid = b; upper = u; lower = v })
