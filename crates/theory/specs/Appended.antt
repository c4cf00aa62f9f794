-- Classes and edges appended to a graph: what was there keeps its edges, and no answer between older classes changes.
use Rattle.std.specs.Prelude.{◌≡◌, refl, ◌↔◌}
use Rattle.std.proofs.Math.Path.{sym}
use Rattle.std.proofs.Common.{◌∙◌, arith, le_refl, ℕ, zero, suc, ◌≤◌, ◌<◌}
use Rattle.std.proofs.Math.Decide.{dec_lt}
use Rattle.ground.specs.Tests.{same_test}
use Rattle.ground.specs.Relations.{Holds, Inside, Rel}
use Rattle.theory.specs.Graph.{Graph, Under, round, Edge, Closed}
use Rattle.theory.specs.Simulation.{step_in, step_old, step_backed, sim_in_round, stable_iff}
use Rattle.theory.specs.Rounds.{rounds_exist}

-- H is G with classes from G.size on and edges from G.edges on appended: none of the new edges starts at an old class
pub record Appended (G H : Graph) : Type 0 where
  pub more : G.edges ≤ H.edges
  pub src_old : (i : ℕ) → i < G.edges → H.src i ≡ G.src i
  pub rol_old : (i : ℕ) → i < G.edges → H.rol i ≡ G.rol i
  pub tgt_old : (i : ℕ) → i < G.edges → H.tgt i ≡ G.tgt i
  pub src_new : (i : ℕ) → G.edges ≤ i → i < H.edges → G.size ≤ H.src i

pub appended_refl : (G : Graph) → Appended G G
appended_refl G = record { more = le_refl G.edges; src_old = λ i l. refl; rol_old = λ i l. refl; tgt_old = λ i l. refl; src_new = λ i h l. absurd (omega arith) }

pub appended_trans : (G H K : Graph) → G.size ≤ H.size → Appended G H → Appended H K → Appended G K
appended_trans G H K s A B = record {
  more = omega (arith, A.more, B.more);
  src_old = λ i l. B.src_old i (omega (arith, A.more)) ∙ A.src_old i l;
  rol_old = λ i l. B.rol_old i (omega (arith, A.more)) ∙ A.rol_old i l;
  tgt_old = λ i l. B.tgt_old i (omega (arith, A.more)) ∙ A.tgt_old i l;
  src_new = λ i h l. elim (dec_lt i H.edges) [
    | yes k ↦ omega (arith, A.src_new i h k, B.src_old i k)
    | no k ↦ let p : H.edges ≤ i = omega arith in omega (arith, B.src_new i p l)
  ];
}

-- ---- an older class has the edges that it had
module _ (G H : Graph) (A : Appended G H) where
  pub old_index : (i c : ℕ) → i < H.edges → H.src i ≡ c → c < G.size → i < G.edges
  old_index i c l q h = elim (dec_lt i G.edges) [ yes k ↦ k | no k ↦ absurd (let p : G.edges ≤ i = omega arith in omega (arith, A.src_new i p l)) ]

  pub edge_up : {u ρ t : ℕ} → Edge G u ρ t → Edge H u ρ t
  edge_up e = record {
    at = e.at;
    below = omega (arith, e.below, A.more);
    from = A.src_old e.at e.below ∙ e.from;
    role = A.rol_old e.at e.below ∙ e.role;
    to = A.tgt_old e.at e.below ∙ e.to;
  }

  pub edge_down : {u ρ t : ℕ} → u < G.size → Edge H u ρ t → Edge G u ρ t
  edge_down {u} h e = let l = old_index e.at u e.below e.from h in
      record { at = e.at; below = l; from = sym (A.src_old e.at l) ∙ e.from; role = sym (A.rol_old e.at l) ∙ e.role; to = sym (A.tgt_old e.at l) ∙ e.to }

-- ---- no answer between older classes changes
module _ (G H : Graph) (A : Appended G H) (cl : Closed G) (f g : Rel) (agree : (b a : ℕ) → b < G.size → a < G.size → f b a ≡ g b a) where
  -- round by round, the old pairs are as they were
  pub old_rounds : (k b a : ℕ) → b < G.size → a < G.size → round G G f k b a ≡ round H H g k b a
  unfolding round
  old_rounds zero b a h l = agree b a h l
  old_rounds (suc k) b a h l = same_test _ _
      (λ e. step_in H H (round H H g k) b a (sym (old_rounds k b a h l) ∙ step_old G G (round G G f k) b a e)
      (λ i il q. let io = old_index G H A i b il q h in
      let p = step_backed G G (round G G f k) b a e i io (sym (A.src_old i io) ∙ q) in
      record {
        at = p.at;
        below = omega (arith, A.more, p.below);
        from = A.src_old p.at p.below ∙ p.from;
        role = A.rol_old p.at p.below ∙ p.role ∙ sym (A.rol_old i io);
        leads = rw (A.tgt_old p.at p.below, A.tgt_old i io) (sym (old_rounds k (G.tgt i) (G.tgt p.at) (cl i io) (cl p.at p.below)) ∙ p.leads);
      }))
      (λ e. step_in G G (round G G f k) b a (old_rounds k b a h l ∙ step_old H H (round H H g k) b a e)
      (λ i io q. let p = step_backed H H (round H H g k) b a e i (omega (arith, A.more)) (A.src_old i io ∙ q) in
      let po = old_index G H A p.at a p.below p.from l in
      record {
        at = p.at;
        below = po;
        from = sym (A.src_old p.at po) ∙ p.from;
        role = sym (A.rol_old p.at po) ∙ p.role ∙ A.rol_old i io;
        leads = old_rounds k (G.tgt i) (G.tgt p.at) (cl i io) (cl p.at po) ∙ rw (A.tgt_old p.at po, A.tgt_old i io) at p.leads;
      }))

  pub old_answers : (n m : ℕ) → Inside n n f → Inside m m g → (b a : ℕ) → b < G.size → a < G.size → Under G G f b a ↔ Under H H g b a
  old_answers n m inf ing b a h l = (
    λ u. let x = rounds_exist H H g m m ing in
        (stable_iff H H g x.0 x.1.stable b a).0 (sym (old_rounds x.0 b a h l) ∙ sim_in_round G G f (Holds u.rel) u.sim x.0 b a u.pair),
    λ u. let x = rounds_exist G G f n n inf in
        (stable_iff G G f x.0 x.1.stable b a).0 (old_rounds x.0 b a h l ∙ sim_in_round H H g (Holds u.rel) u.sim x.0 b a u.pair),
  )
