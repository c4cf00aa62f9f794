-- The pairs reachable from (p, q): the definition, and a relation of tests that is exactly it.
use Rattle.std.specs.Prelude.{◌≡◌, refl, Bool, true, ◌&&◌, ◌||◌, ◌⊎◌, ℕ, zero, suc, ◌<◌, eqb}
use Rattle.std.proofs.Common.{sym, subst, ◌∙◌, inl, inr, arith, eqb-true, eq-eqb}
use Rattle.std.proofs.lemmas.Bool.{or_cases, or_left, or_right}
use Rattle.ground.specs.Tests.{and_in, and_l, and_r, any, any_in, any_out}
use Rattle.ground.specs.Relations.{Holds, Inside, Rel}
use Rattle.theory.specs.Graph.{Graph, Edge, Closed}
use Rattle.theory.specs.Growth.{grown, Settled, growth_exists, grown_least, grown_inside}

-- ---- reachable pairs: the definition, and a relation that computes it
pub data Reach (G : Graph) (p q : ℕ) : ℕ → ℕ → Type 0 where
  here : {u v : ℕ} → u ≡ p → v ≡ q → Reach G p q u v
  next : {u v u' v' r : ℕ} → Reach G p q u v → Edge G u r u' → Edge G v r v' → Reach G p q u' v'

-- edges i and j lead together from a pair of r to (u, v)
unfoldable pub leads : Graph → Rel → ℕ → ℕ → ℕ → ℕ → Bool
leads G r u v i j = r (G.src i) (G.src j) && (eqb (G.rol i) (G.rol j) && (eqb (G.tgt i) u && eqb (G.tgt j) v))

unfoldable pub further : Graph → Rel → Rel
further G r u v = r u v || any G.edges (λ i. any G.edges (leads G r u v i))

unfoldable pub only : ℕ → ℕ → Rel
only p q u v = eqb u p && eqb v q

pub record Led (G : Graph) (r : Rel) (u v : ℕ) : Type 0 where
  pub left : ℕ
  pub right : ℕ
  pub role : ℕ
  pub pair : r left right ≡ true
  pub left_edge : Edge G left role u
  pub right_edge : Edge G right role v

further_out : (G : Graph) (r : Rel) (u v : ℕ) → further G r u v ≡ true → (r u v ≡ true) ⊎ Led G r u v
unfolding further leads
further_out G r u v e = elim (or_cases (r u v) (any G.edges (λ i. any G.edges (leads G r u v i))) e) [
  | inl f ↦ inl f
  | inr f ↦ let x = any_out G.edges (λ i. any G.edges (leads G r u v i)) f in
      let y = any_out G.edges (leads G r u v x.at) x.passes in
      let a : Bool = r (G.src x.at) (G.src y.at) in
      let b : Bool = eqb (G.rol x.at) (G.rol y.at) in
      let c : Bool = eqb (G.tgt x.at) u in
      let d : Bool = eqb (G.tgt y.at) v in
      let bcd = and_r a (b && (c && d)) y.passes in
      let cd = and_r b (c && d) bcd in
      inr (record {
        left = G.src x.at;
        right = G.src y.at;
        role = G.rol x.at;
        pair = and_l a (b && (c && d)) y.passes;
        left_edge = record { at = x.at; below = x.below; from = refl; role = refl; to = eqb-true (G.tgt x.at) u (and_l c d cd) };
        right_edge = record { at = y.at; below = y.below; from = refl; role = sym (eqb-true (G.rol x.at) (G.rol y.at) (and_l b (c && d) bcd)); to = eqb-true (G.tgt y.at) v (and_r c d cd) };
      })
]

further_in : (G : Graph) (r : Rel) (u v : ℕ) → Led G r u v → further G r u v ≡ true
unfolding further leads
further_in G r u v l =
    let at_pair : r (G.src l.left_edge.at) (G.src l.right_edge.at) ≡ true = rw (l.left_edge.from, l.right_edge.from) l.pair in
    or_right (r u v) (any G.edges (λ i. any G.edges (leads G r u v i))) (any_in G.edges (λ i. any G.edges (leads G r u v i)) l.left_edge.at l.left_edge.below (any_in _ (leads G r u v l.left_edge.at) l.right_edge.at l.right_edge.below
    (and_in at_pair (and_in (eq-eqb _ _ (l.left_edge.role ∙ sym l.right_edge.role)) (and_in (eq-eqb _ _ l.left_edge.to) (eq-eqb _ _ l.right_edge.to))))))

-- the reachable pairs as a relation of tests: it exists, and is unique pair by pair
pub record Reached (G : Graph) (p q : ℕ) (r : Rel) : Type 0 where
  pub inside : Inside G.size G.size r
  pub sound : (u v : ℕ) → r u v ≡ true → Reach G p q u v
  pub complete : (u v : ℕ) → Reach G p q u v → r u v ≡ true

further_adds : (G : Graph) (r : Rel) (b a : ℕ) → Holds r b a → Holds (further G r) b a
unfolding further
further_adds G r b a e = or_left _ _ e

further_keeps : (G : Graph) → Closed G → (r : Rel) → Inside G.size G.size r → Inside G.size G.size (further G r)
further_keeps G cl r h u v e = elim (further_out G r u v e) [
  | inl f ↦ h u v f
  | inr l ↦ (
    subst (λ (x : ℕ). x < G.size) l.left_edge.to (cl l.left_edge.at l.left_edge.below),
    subst (λ (x : ℕ). x < G.size) l.right_edge.to (cl l.right_edge.at l.right_edge.below),
  )
]

only_out : (p q u v : ℕ) → only p q u v ≡ true → (u ≡ p) × (v ≡ q)
unfolding only
only_out p q u v e = (eqb-true u p (and_l (eqb u p) (eqb v q) e), eqb-true v q (and_r (eqb u p) (eqb v q) e))

only_in : (p q u v : ℕ) → u ≡ p → v ≡ q → only p q u v ≡ true
unfolding only
only_in p q u v e f = and_in (eq-eqb u p e) (eq-eqb v q f)

only_inside : (p q n : ℕ) → p < n → q < n → Inside n n (only p q)
only_inside p q n pl ql u v e = let o = only_out p q u v e in (omega (arith, o.0), omega (arith, o.1))

start_grown : (G : Graph) (s : Rel) (k b a : ℕ) → Holds s b a → Holds (grown (further G) s k) b a
unfolding grown
start_grown G s zero b a e = e
start_grown G s (suc k) b a e = further_adds G (grown (further G) s k) b a (start_grown G s k b a e)

settled_step : (G : Graph) (s : Rel) (k : ℕ) → Settled (further G) s k → (u v : ℕ) → Led G (grown (further G) s k) u v → grown (further G) s k u v ≡ true
unfolding grown
settled_step G s k st u v l = st u v ∙ further_in G (grown (further G) s k) u v l

reach_complete : (G : Graph) (p q k : ℕ) → Settled (further G) (only p q) k → {u v : ℕ} → Reach G p q u v → grown (further G) (only p q) k u v ≡ true
reach_complete G p q k st {u = u} {v = v} (here e f) = start_grown G (only p q) k u v (only_in p q u v e f)
reach_complete G p q k st {u = u'} {v = v'} (next {u = u} {v = v} {r = r} t a b) = settled_step G (only p q) k st u' v' (record { left = u; right = v; role = r; pair = reach_complete G p q k st t; left_edge = a; right_edge = b })

reach_sound : (G : Graph) (p q : ℕ) (r : Rel) → ((u v : ℕ) → Holds r u v → Reach G p q u v) → (u v : ℕ) → Holds (further G r) u v → Reach G p q u v
reach_sound G p q r h u v e = elim (further_out G r u v e) [ inl f ↦ h u v f | inr l ↦ next (h l.left l.right l.pair) l.left_edge l.right_edge ]

pub reached : (G : Graph) (p q : ℕ) → Closed G → p < G.size → q < G.size → (r : Rel) × Reached G p q r
reached G p q cl pl ql =
    let x = growth_exists (further G) (only p q) G.size G.size (further_adds G) (only_inside p q G.size pl ql) (further_keeps G cl) in (
      grown (further G) (only p q) x.0,
      record {
        inside = grown_inside (further G) (only p q) G.size G.size (further_adds G) (only_inside p q G.size pl ql) (further_keeps G cl) x.0;
        sound = grown_least (further G) (only p q) (Reach G p q) (λ u v e. let o = only_out p q u v e in here o.0 o.1) (reach_sound G p q) x.0;
        complete = λ u v t. reach_complete G p q x.0 x.1.settled t;
      },
    )
