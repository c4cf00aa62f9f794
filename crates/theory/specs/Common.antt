-- The common class is the least class above both. The graph here is the one AFTER the classes were made; `Meets c u v` says that the class c stands for the pair (u, v).
-- Which pairs have a class, and how it is numbered, is in Making.antt.
use Rattle.std.specs.Prelude.{◌≡◌, true, ℕ, ◌<◌}
use Rattle.ground.specs.Relations.{Inside, Rel}
use Rattle.theory.specs.Graph.{Graph, Sim, Under, Edge}
use Rattle.theory.specs.Simulation.{under_sim, partner_of_edge, edge_of_partner}
use Rattle.theory.specs.Rounds.{under_of_sim}

-- an edge of the class of (u, v) is a step of the two, and leads to the class of the pair stepped to
pub record Step2 (G : Graph) (Meets : ℕ → ℕ → ℕ → Type 0) (u v r c : ℕ) : Type 0 where
  pub left : ℕ
  pub right : ℕ
  pub left_edge : Edge G u r left
  pub right_edge : Edge G v r right
  pub meets : Meets c left right

pub record Common (G : Graph) (fits : Rel) (Meets : ℕ → ℕ → ℕ → Type 0) : Type 0 where
  -- labels: those that u and v share, read through the start rule
  pub under_left : (c u v : ℕ) → Meets c u v → fits c u ≡ true
  pub under_right : (c u v : ℕ) → Meets c u v → fits c v ≡ true
  pub shared : (c u v d : ℕ) → Meets c u v → fits d u ≡ true → fits d v ≡ true → fits d c ≡ true
  -- edges: the steps
  pub only : (c u v : ℕ) → Meets c u v → (i : ℕ) → i < G.edges → G.src i ≡ c → Step2 G Meets u v (G.rol i) (G.tgt i)
  pub each : (c u v r u' v' : ℕ) → Meets c u v → Edge G u r u' → Edge G v r v' → (c' : ℕ) × Meets c' u' v' × Edge G c r c'

pub record LeftOf (Meets : ℕ → ℕ → ℕ → Type 0) (c u : ℕ) : Type 0 where
  pub other : ℕ
  pub meets : Meets c u other

pub record RightOf (Meets : ℕ → ℕ → ℕ → Type 0) (c v : ℕ) : Type 0 where
  pub other : ℕ
  pub meets : Meets c other v

pub record Above (Meets : ℕ → ℕ → ℕ → Type 0) (Z : ℕ → ℕ → Type 0) (d c : ℕ) : Type 0 where
  pub left : ℕ
  pub right : ℕ
  pub meets : Meets c left right
  pub above_left : Z d left
  pub above_right : Z d right

module _ (G : Graph) (fits : Rel) (n : ℕ) (inside : Inside n n fits) (Meets : ℕ → ℕ → ℕ → Type 0) (C : Common G fits Meets) where
  left_sim : Sim G G fits (LeftOf Meets)
  left_sim = record {
    start = λ c u m. C.under_left c u m.other m.meets;
    edge = λ c u m i l q. let s = C.only c u m.other m.meets i l q in
        partner_of_edge G G (LeftOf Meets) s.left_edge (record { other = s.right; meets = s.meets });
  }

  right_sim : Sim G G fits (RightOf Meets)
  right_sim = record {
    start = λ c v m. C.under_right c m.other v m.meets;
    edge = λ c v m i l q. let s = C.only c m.other v m.meets i l q in
        partner_of_edge G G (RightOf Meets) s.right_edge (record { other = s.left; meets = s.meets });
  }

  above_sim : Sim G G fits (Above Meets (Under G G fits))
  above_sim = record {
    start = λ d c a. C.shared c a.left a.right d a.meets ((under_sim G G fits).start _ _ a.above_left) ((under_sim G G fits).start _ _ a.above_right);
    edge = λ d c a i l q.
        let p = (under_sim G G fits).edge d a.left a.above_left i l q in
        let r = (under_sim G G fits).edge d a.right a.above_right i l q in
        let e = C.each c a.left a.right (G.rol i) (G.tgt p.at) (G.tgt r.at) a.meets (edge_of_partner G G (Under G G fits) p) (edge_of_partner G G (Under G G fits) r) in
        partner_of_edge G G (Above Meets (Under G G fits)) e.2
        (record { left = G.tgt p.at; right = G.tgt r.at; meets = e.1; above_left = p.leads; above_right = r.leads });
  }

  -- both lie under the common class, and it lies under every class that both lie under
  pub common_left : (c u v : ℕ) → Meets c u v → Under G G fits c u
  common_left c u v m = under_of_sim G G fits n n inside (LeftOf Meets) left_sim c u (record { other = v; meets = m })

  pub common_right : (c u v : ℕ) → Meets c u v → Under G G fits c v
  common_right c u v m = under_of_sim G G fits n n inside (RightOf Meets) right_sim c v (record { other = u; meets = m })

  pub common_least : (c u v d : ℕ) → Meets c u v → Under G G fits d u → Under G G fits d v → Under G G fits d c
  common_least c u v d m x y = under_of_sim G G fits n n inside (Above Meets (Under G G fits)) above_sim d c
      (record { left = u; right = v; meets = m; above_left = x; above_right = y })
