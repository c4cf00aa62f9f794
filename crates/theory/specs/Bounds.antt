-- Steps that make bounds, in any order and grouping, over any transitive relation R. "R d a" is read "d is above a" for common classes
-- and "d is under a" for joint classes, so one theorem serves both. Scripts of steps in one growing table are here too.
use Rattle.std.specs.Prelude.{◌≡◌, ◌⊎◌, ◌↔◌, ℕ}
use Rattle.std.proofs.Common.{sym, subst, ◌∙◌, inl, inr}

-- c bounds a and b, and nothing that bounds both is nearer
pub record Bound (R : ℕ → ℕ → Type 0) (c a b : ℕ) : Type 0 where
  pub left : R c a
  pub right : R c b
  pub best : (d : ℕ) → R d a → R d b → R d c

-- how steps are grouped: a leaf is a class that is there, a node is one step over the values of its two parts
pub data Tree : Type 0 where
  leaf : ℕ → Tree
  node : Tree → Tree → Tree

abbrev pub Leaf : Tree → ℕ → Type 0
Leaf (leaf b) a = b ≡ a
Leaf (node l r) a = Leaf l a ⊎ Leaf r a

-- regrouping and turning round keep the leaves, and so does doubling; in all, any order and grouping of the same classes
pub regroup : (x y z : Tree) (a : ℕ) → Leaf (node (node x y) z) a ↔ Leaf (node x (node y z)) a
regroup x y z a = (
  λ l. elim l [ inl m ↦ elim m [ inl p ↦ inl p | inr p ↦ inr (inl p) ] | inr p ↦ inr (inr p) ],
  λ l. elim l [ inl p ↦ inl (inl p) | inr m ↦ elim m [ inl p ↦ inl (inr p) | inr p ↦ inr p ] ],
)

pub turn : (x y : Tree) (a : ℕ) → Leaf (node x y) a ↔ Leaf (node y x) a
turn x y a = (λ l. elim l [ inl p ↦ inr p | inr p ↦ inl p ], λ l. elim l [ inl p ↦ inr p | inr p ↦ inl p ])

-- c is a value of the tree, where `Made a b c` says that a step made c from a and b. Steps may have been made in any order, and one step may serve several nodes.
abbrev pub Value : (ℕ → ℕ → ℕ → Type 0) → Tree → ℕ → Type 0
Value Made (leaf a) c = a ≡ c
Value Made (node l r) c = (x : ℕ) × (y : ℕ) × Value Made l x × Value Made r y × Made x y c

module _ (R : ℕ → ℕ → Type 0) (trans : (c b a : ℕ) → R c b → R b a → R c a) (Made : ℕ → ℕ → ℕ → Type 0) (bound : (a b c : ℕ) → Made a b c → Bound R c a b) where
  -- a value bounds every leaf, and is the best that does
  pub value_bounds : (t : Tree) (c : ℕ) → Value Made t c → (a : ℕ) → Leaf t a → R a a → R c a
  value_bounds (leaf b) c v a h r = subst (λ (x : ℕ). R x a) (sym h ∙ v) r
  value_bounds (node l r) c v a (inl h) s = trans c v.0 a (bound v.0 v.1 c v.4).left (value_bounds l v.0 v.2 a h s)
  value_bounds (node l r) c v a (inr h) s = trans c v.1 a (bound v.0 v.1 c v.4).right (value_bounds r v.1 v.3 a h s)

  pub value_best : (t : Tree) (c : ℕ) → Value Made t c → (d : ℕ) → ((a : ℕ) → Leaf t a → R d a) → R d c
  value_best (leaf b) c v d f = f c v
  value_best (node l r) c v d f = (bound v.0 v.1 c v.4).best d
      (value_best l v.0 v.2 d (λ a h. f a (inl h))) (value_best r v.1 v.3 d (λ a h. f a (inr h)))

  -- a tree with all the leaves of another has the higher value
  pub more_leaves : (s t : Tree) (c d : ℕ) → Value Made s c → Value Made t d → ((a : ℕ) → Leaf t a → R a a) → ((a : ℕ) → Leaf t a → Leaf s a) → R c d
  more_leaves s t c d v w r sub = value_best t d w c (λ a h. value_bounds s c v a (sub a h) (r a h))

-- ---- scripts of steps in one growing table, of two kinds that may alternate
pub data Kind : Type 0 where
  common : Kind
  joint : Kind

-- `Step k t a b c u`: a step of kind k over the classes a and b of t makes the class c and leaves the table u
pub data Script {ℓ} (T : Type 0) (Step : Kind → T → ℕ → ℕ → ℕ → T → Type ℓ) : T → T → Type ℓ where
  done : {t : T} → Script T Step t t
  next : {t u v : T} {a b c : ℕ} (k : Kind) → Step k t a b c u → Script T Step u v → Script T Step t v

pub record Is (k : Kind) (a b c : ℕ) (l : Kind) (x y z : ℕ) : Type 0 where
  pub kind : k ≡ l
  pub one : a ≡ x
  pub two : b ≡ y
  pub made : c ≡ z

module _ {ℓ} (T : Type 0) (Step : Kind → T → ℕ → ℕ → ℕ → T → Type ℓ) where
  -- some step of the script, of kind l, made z from x and y
  abbrev pub Made : {t v : T} → Script T Step t v → Kind → ℕ → ℕ → ℕ → Type 0
  Made done l x y z = ⊥
  Made (next {a = a} {b = b} {c = c} k s rest) l x y z = Is k a b c l x y z ⊎ Made rest l x y z

  module _ (Later : T → T → Type 0) (later_refl : (t : T) → Later t t) (later_trans : (t u v : T) → Later t u → Later u v → Later t v)
      (step_later : (k : Kind) (t : T) (a b c : ℕ) (u : T) → Step k t a b c u → Later t u) where
    pub script_later : {t v : T} → Script T Step t v → Later t v
    script_later {t = t} done = later_refl t
    script_later (next {t = t} {u = u} {v = v} {a = a} {b = b} {c = c} k s rest) = later_trans t u v (step_later k t a b c u s) (script_later rest)

    -- where a step's class is a bound in every later table, it is one in the script's last
    pub made_bound : (l : Kind) (R : T → ℕ → ℕ → Type 0)
        → ((t : T) (a b c : ℕ) (u v : T) → Step l t a b c u → Later u v → Bound (R v) c a b)
        → {t v : T} (s : Script T Step t v) (x y z : ℕ) → Made s l x y z → Bound (R v) z x y
    made_bound l R stays done x y z m = absurd m
    made_bound l R stays (next {t = t} {u = u} {v = v} {a = a} {b = b} {c = c} k s rest) x y z (inl e) =
        subst (λ (w : ℕ). Bound (R v) z x w) e.two (subst (λ (w : ℕ). Bound (R v) z w b) e.one (subst (λ (w : ℕ). Bound (R v) w a b) e.made
        (stays t a b c u v (subst (λ (j : Kind). Step j t a b c u) e.kind s) (script_later rest))))
    made_bound l R stays (next k s rest) x y z (inr m) = made_bound l R stays rest x y z m
