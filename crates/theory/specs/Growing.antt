-- One growing table: what a common or a joint step made stays a bound in every later table, so order and grouping make no difference.
-- A bound in the table that a step left would not do: a later step could make a class between (see docs/DECISIONS.md). The start rule is a parameter of `Family`.
use Rattle.std.specs.Prelude.{◌≡◌, refl, true, ◌↔◌, ℕ, ◌≤◌, ◌<◌}
use Rattle.std.proofs.Common.{sym, subst, ◌∙◌, inl, inr}
use Rattle.ground.specs.Relations.{Holds, Inside, Rel}
use Rattle.theory.specs.Graph.{Graph, Under, Edge, Closed}
use Rattle.theory.specs.Order.{under_refl, under_trans}
use Rattle.theory.specs.Common.{Common, common_left, common_right, common_least}
use Rattle.theory.specs.Joint.{Joint, joint_left, joint_right, joint_greatest}
use Rattle.theory.specs.Appended.{Appended, old_answers, edge_up, edge_down, old_index}
use Rattle.theory.specs.Bounds.{Bound, Tree, leaf, node, Leaf, regroup, turn, Value, more_leaves, Kind, common, joint, Script, Made, made_bound}

-- what the start rule has to say of classes made: the part of `Common` and `Joint` that is not about edges
pub record CommonStart (f : Rel) (M : ℕ → ℕ → ℕ → Type 0) : Type 0 where
  pub left : (c u v : ℕ) → M c u v → f c u ≡ true
  pub right : (c u v : ℕ) → M c u v → f c v ≡ true
  pub shared : (c u v d : ℕ) → M c u v → f d u ≡ true → f d v ≡ true → f d c ≡ true

pub record JointStart (f : Rel) (j a b : ℕ) : Type 0 where
  pub left : f a j ≡ true
  pub right : f b j ≡ true
  pub joined : (d : ℕ) → f a d ≡ true → f b d ≡ true → f j d ≡ true

module _ (H K : Graph) (A : Appended H K) where
  -- the edge rule of a common class, in a later graph; the start rule is asked for there
  pub common_later : (f g : Rel) (M : ℕ → ℕ → ℕ → Type 0) → Common H f M → ((c u v : ℕ) → M c u v → (c < H.size) × (u < H.size) × (v < H.size)) → CommonStart g M → Common K g M
  common_later f g M C ins S = record {
    under_left = S.left;
    under_right = S.right;
    shared = S.shared;
    only = λ c u v m i il q. let io = old_index H K A i c il q (ins c u v m).0 in
        let t = C.only c u v m i io (sym (A.src_old i io) ∙ q) in
        record {
          left = t.left;
          right = t.right;
          left_edge = subst (λ (z : ℕ). Edge K u z t.left) (sym (A.rol_old i io)) (edge_up H K A t.left_edge);
          right_edge = subst (λ (z : ℕ). Edge K v z t.right) (sym (A.rol_old i io)) (edge_up H K A t.right_edge);
          meets = subst (λ (z : ℕ). M z t.left t.right) (sym (A.tgt_old i io)) t.meets;
        };
    each = λ c u v ρ u' v' m e e'. let i = ins c u v m in
        let x = C.each c u v ρ u' v' m (edge_down H K A i.1 e) (edge_down H K A i.2 e') in (x.0, x.1, edge_up H K A x.2);
  }

  edge_of_old : (i a c : ℕ) → a < H.size → i < K.edges → K.src i ≡ a → ((i : ℕ) → i < H.edges → H.src i ≡ a → Edge H c (H.rol i) (H.tgt i)) → Edge K c (K.rol i) (K.tgt i)
  edge_of_old i a c h l q f = let io = old_index H K A i a l q h in
      subst (λ (z : ℕ). Edge K c z (K.tgt i)) (sym (A.rol_old i io)) (subst (λ (z : ℕ). Edge K c (H.rol i) z) (sym (A.tgt_old i io)) (edge_up H K A (f i io (sym (A.src_old i io) ∙ q))))

  pub joint_later : (f g : Rel) (j a b : ℕ) → Joint H f j a b → j < H.size → a < H.size → b < H.size → JointStart g j a b → Joint K g j a b
  joint_later f g j a b J jl al bl S = record {
    over_left = S.left;
    over_right = S.right;
    joined = S.joined;
    only = λ i il q. let io = old_index H K A i j il q jl in
        let up : (c : ℕ) → Edge H c (H.rol i) (H.tgt i) → Edge K c (K.rol i) (K.tgt i) = λ c e. rw (A.rol_old i io, A.tgt_old i io) (edge_up H K A e) in
        elim (J.only i io (sym (A.src_old i io) ∙ q)) [ inl e ↦ inl (up a e) | inr e ↦ inr (up b e) ];
    each_left = λ i il q. edge_of_old i a j al il q J.each_left;
    each_right = λ i il q. edge_of_old i b j bl il q J.each_right;
  }

-- ---- a family of tables: which are there, their start rules, and which may come later than which
pub record Family (T : Type 0) : Type 1 where
  pub graph : T → Graph
  pub fits : T → Rel
  pub inside : (t : T) → Inside (graph t).size (graph t).size (fits t)
  pub closed : (t : T) → Closed (graph t)
  pub reflexive : (t : T) (b : ℕ) → b < (graph t).size → fits t b b ≡ true
  pub transitive : (t : T) (c b a : ℕ) → Holds (fits t) c b → Holds (fits t) b a → Holds (fits t) c a
  pub Later : T → T → Type 0
  pub later_refl : (t : T) → Later t t
  pub later_trans : (t u v : T) → Later t u → Later u v → Later t v
  pub appended : (t u : T) → Later t u → Appended (graph t) (graph u)
  pub sizes : (t u : T) → Later t u → (graph t).size ≤ (graph u).size
  pub agree : (t u : T) → Later t u → (b a : ℕ) → b < (graph t).size → a < (graph t).size → fits t b a ≡ fits u b a

module _ {T : Type 0} (F : Family T) where
  -- a lies under b in the table t
  abbrev pub Lies : T → ℕ → ℕ → Type 0
  Lies t b a = Under (F.graph t) (F.graph t) (F.fits t) b a

  pub lies_refl : (t : T) (a : ℕ) → a < (F.graph t).size → Lies t a a
  lies_refl t = under_refl (F.graph t) (F.fits t) (F.inside t) (F.closed t) (F.reflexive t)

  pub lies_trans : (t : T) (c b a : ℕ) → Lies t c b → Lies t b a → Lies t c a
  lies_trans t = under_trans (F.graph t) (F.graph t) (F.graph t) (F.fits t) (F.fits t) (F.fits t) (F.transitive t) (F.graph t).size (F.graph t).size (F.inside t)

  -- no answer between older classes changes
  pub older_stay : (t u : T) → F.Later t u → (b a : ℕ) → b < (F.graph t).size → a < (F.graph t).size → Lies t b a ↔ Lies u b a
  older_stay t u x = old_answers (F.graph t) (F.graph u) (F.appended t u x) (F.closed t) (F.fits t) (F.fits u) (F.agree t u x)
      (F.graph t).size (F.graph u).size (F.inside t) (F.inside u)

  -- a step over a and b that makes c and leaves u. The start rule's part is asked for in every later table, since a bound in its own table would not do.
  pub record CommonStep (t : T) (a b c : ℕ) (u : T) : Type 1 where
    pub later : F.Later t u
    pub Meets : ℕ → ℕ → ℕ → Type 0
    pub answer : Meets c a b
    pub made : Common (F.graph u) (F.fits u) Meets
    pub nodes : (c x y : ℕ) → Meets c x y → (c < (F.graph u).size) × (x < (F.graph u).size) × (y < (F.graph u).size)
    pub start : (w : T) → F.Later u w → CommonStart (F.fits w) Meets

  pub record JointStep (t : T) (a b c : ℕ) (u : T) : Type 1 where
    pub later : F.Later t u
    pub made : Joint (F.graph u) (F.fits u) c a b
    pub nodes : (c < (F.graph u).size) × (a < (F.graph u).size) × (b < (F.graph u).size)
    pub start : (w : T) → F.Later u w → JointStart (F.fits w) c a b

  -- in every table later than the one that it left, a common step's class is the least above both
  pub common_stays : (t : T) (a b c : ℕ) (u w : T) → CommonStep t a b c u → F.Later u w → Bound (Lies w) c a b
  common_stays t a b c u w s x = record {
    left = common_left (F.graph w) (F.fits w) (F.graph w).size (F.inside w) s.Meets C c a b s.answer;
    right = common_right (F.graph w) (F.fits w) (F.graph w).size (F.inside w) s.Meets C c a b s.answer;
    best = λ d p q. common_least (F.graph w) (F.fits w) (F.graph w).size (F.inside w) s.Meets C c a b d s.answer p q;
  }
    where
      C : Common (F.graph w) (F.fits w) s.Meets
      C = common_later (F.graph u) (F.graph w) (F.appended u w x) (F.fits u) (F.fits w) s.Meets s.made s.nodes (s.start w x)

  -- and a joint step's class the greatest under both
  pub joint_stays : (t : T) (a b c : ℕ) (u w : T) → JointStep t a b c u → F.Later u w → Bound (λ (y x : ℕ). Lies w x y) c a b
  joint_stays t a b c u w s x = record {
    left = joint_left (F.graph w) (F.fits w) (F.graph w).size (F.inside w) (lies_refl w) (F.closed w) c a b J;
    right = joint_right (F.graph w) (F.fits w) (F.graph w).size (F.inside w) (lies_refl w) (F.closed w) c a b J;
    best = λ d p q. joint_greatest (F.graph w) (F.fits w) (F.graph w).size (F.inside w) (lies_refl w) (F.closed w) c a b d J p q;
  }
    where
      J : Joint (F.graph w) (F.fits w) c a b
      J = joint_later (F.graph u) (F.graph w) (F.appended u w x) (F.fits u) (F.fits w) c a b s.made s.nodes.0 s.nodes.1 s.nodes.2 (s.start w x)

  -- ---- order and grouping make no difference
  abbrev pub Step : Kind → T → ℕ → ℕ → ℕ → T → Type 1
  Step common t a b c u = CommonStep t a b c u
  Step joint t a b c u = JointStep t a b c u

  step_later : (k : Kind) (t : T) (a b c : ℕ) (u : T) → Step k t a b c u → F.Later t u
  step_later common t a b c u s = s.later
  step_later joint t a b c u s = s.later

  -- classes that lie under each other
  abbrev pub Equal : T → ℕ → ℕ → Type 0
  Equal w c d = Lies w c d × Lies w d c

  -- In one growing table, by steps of both kinds in any order: two groupings, by steps of one kind alone, of the same classes have values that lie under each other.
  pub grouping : (t w : T) (s : Script T Step t w) (k : Kind) (p q : Tree) (c d : ℕ)
      → Value (Made T Step s k) p c → Value (Made T Step s k) q d
      → ((a : ℕ) → Leaf p a ↔ Leaf q a) → ((a : ℕ) → Leaf p a → a < (F.graph w).size) → Equal w c d
  grouping t w s common p q c d v v' same within =
      let bound = made_bound T Step F.Later F.later_refl F.later_trans step_later common Lies common_stays s in (
        more_leaves (Lies w) (lies_trans w) (Made T Step s common) bound p q c d v v' (λ a h. lies_refl w a (within a ((same a).1 h))) (λ a. (same a).1),
        more_leaves (Lies w) (lies_trans w) (Made T Step s common) bound q p d c v' v (λ a h. lies_refl w a (within a h)) (λ a. (same a).0),
      )
  grouping t w s joint p q c d v v' same within =
      let bound = made_bound T Step F.Later F.later_refl F.later_trans step_later joint (λ w y x. Lies w x y) joint_stays s in (
        more_leaves (λ y x. Lies w x y) (λ z y x g h. lies_trans w x y z h g) (Made T Step s joint) bound q p d c v' v (λ a h. lies_refl w a (within a h)) (λ a. (same a).0),
        more_leaves (λ y x. Lies w x y) (λ z y x g h. lies_trans w x y z h g) (Made T Step s joint) bound p q c d v v' (λ a h. lies_refl w a (within a ((same a).1 h))) (λ a. (same a).1),
      )

  -- in plain steps: (a b) c and a (b c), and a b and b a
  pub regrouped : (t w : T) (s : Script T Step t w) (k : Kind) (a b c x y z v : ℕ) → a < (F.graph w).size → b < (F.graph w).size → c < (F.graph w).size
      → Made T Step s k a b x → Made T Step s k x c y → Made T Step s k b c z → Made T Step s k a z v → Equal w y v
  regrouped t w s k a b c x y z v al bl cl m₁ m₂ m₃ m₄ = grouping t w s k (node (node (leaf a) (leaf b)) (leaf c)) (node (leaf a) (node (leaf b) (leaf c))) y v
      (x, c, (a, b, refl, refl, m₁), refl, m₂) (a, z, refl, (b, c, refl, refl, m₃), m₄) (regroup (leaf a) (leaf b) (leaf c))
      (λ d l. elim l [ inl m ↦ elim m [ inl e ↦ subst (λ (i : ℕ). i < (F.graph w).size) e al | inr e ↦ subst (λ (i : ℕ). i < (F.graph w).size) e bl ] | inr e ↦ subst (λ (i : ℕ). i < (F.graph w).size) e cl ])

  pub turned : (t w : T) (s : Script T Step t w) (k : Kind) (a b x y : ℕ) → a < (F.graph w).size → b < (F.graph w).size → Made T Step s k a b x → Made T Step s k b a y → Equal w x y
  turned t w s k a b x y al bl m₁ m₂ = grouping t w s k (node (leaf a) (leaf b)) (node (leaf b) (leaf a)) x y (a, b, refl, refl, m₁) (b, a, refl, refl, m₂) (turn (leaf a) (leaf b))
      (λ d l. elim l [ inl e ↦ subst (λ (i : ℕ). i < (F.graph w).size) e al | inr e ↦ subst (λ (i : ℕ). i < (F.graph w).size) e bl ])
