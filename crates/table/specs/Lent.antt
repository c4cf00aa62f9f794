-- A table as it is lent: four counts, the classes' label words, and the edges as source, role, target, three numbers each. Entries past the counts are ignored.
-- The same lists as a description graph with the start rule of labels: this is the one place where labels are read.
use Rattle.std.specs.Prelude.{ℕ, ◌+◌, ◌*◌, ◌<◌, ◌≡◌, true, ◌&&◌, List, length, get_or, ltb}
use Rattle.std.specs.List.{concat}
use Rattle.std.proofs.Common.{sym, ◌∙◌, true≢false, arith}
use Rattle.std.proofs.lemmas.Bool.{lt-ltb}
use Rattle.std.proofs.lemmas.Bool.Decides.{nat_tests}
use Rattle.ground.specs.Tests.{and_in}
use Rattle.ground.specs.Relations.{Rel, Inside}
use Rattle.ground.specs.Bits.{among, among_in, among_refl, among_trans, has_zero}
use Rattle.theory.specs.Graph.{Graph, Under}
use Rattle.theory.specs.Rounds.{under_intro}
use Rattle.table.specs.declared.Table.{Table}

pub record Lent : Type 0 where
  pub n : ℕ
  pub m : ℕ
  pub p : ℕ
  pub q : ℕ
  pub labels : List ℕ
  pub edges : List ℕ

abbrev pub lent : Table → List ℕ → List ℕ → Lent
lent t ls es = record { n = t.n; m = t.m; p = t.p; q = t.q; labels = ls; edges = es }

-- the same of buffers that hold what the counts say and nothing more: each class's labels, and each edge's three numbers
abbrev pub given : List ℕ → List (List ℕ) → ℕ → ℕ → Lent
given ls es p q = record { n = length ls; m = length es; p = p; q = q; labels = ls; edges = concat es }

-- the labels of class i, and the source, role and target of edge i
abbrev pub labels_of : List ℕ → ℕ → ℕ
labels_of ls i = get_or ls i 0

abbrev pub source_of : List ℕ → ℕ → ℕ
source_of es i = get_or es (3 * i) 0

abbrev pub role_of : List ℕ → ℕ → ℕ
role_of es i = get_or es (3 * i + 1) 0

abbrev pub target_of : List ℕ → ℕ → ℕ
target_of es i = get_or es (3 * i + 2) 0

-- ---- the description graph

abbrev pub graph_of : Lent → Graph
graph_of t = record { size = t.n; edges = t.m; src = source_of t.edges; rol = role_of t.edges; tgt = target_of t.edges }

-- the start rule: both are classes, and the labels of B are all among the labels of A
unfoldable pub fits : Lent → Rel
fits t b a = ltb b t.n && (ltb a t.n && among (labels_of t.labels b) (labels_of t.labels a))

-- A lies under B: some simulation of the graph in itself holds (B, A)
abbrev pub Lies : Lent → ℕ → ℕ → Type 0
Lies t b a = Under (graph_of t) (graph_of t) (fits t) b a

-- ---- the start rule is reflexive and transitive, and holds classes only

module _ (t : Lent) where
  pub fits_in : (b a : ℕ) → b < t.n → a < t.n → among (labels_of t.labels b) (labels_of t.labels a) ≡ true → fits t b a ≡ true
  unfolding fits
  fits_in b a h l e = and_in (lt-ltb b t.n h) (and_in (lt-ltb a t.n l) e)

  pub fits_inside : Inside t.n t.n (fits t)
  unfolding fits
  fits_inside b a e = (grind (arith, nat_tests), grind (arith, nat_tests))

  pub fits_out : (b a : ℕ) → fits t b a ≡ true → among (labels_of t.labels b) (labels_of t.labels a) ≡ true
  unfolding fits
  fits_out b a e = grind arith

  pub fits_refl : (b : ℕ) → b < t.n → fits t b b ≡ true
  fits_refl b h = fits_in b b h h (among_refl (labels_of t.labels b))

  pub fits_trans : (c b a : ℕ) → fits t c b ≡ true → fits t b a ≡ true → fits t c a ≡ true
  fits_trans c b a x y = fits_in c a (fits_inside c b x).0 (fits_inside b a y).1 (among_trans _ (labels_of t.labels b) _ (fits_out c b x) (fits_out b a y))

-- a class with no labels and no edges stands for everything: every class lies under it
pub nothing_above : (t : Lent) (b a : ℕ) → b < t.n → a < t.n → labels_of t.labels b ≡ 0 → ((i : ℕ) → i < t.m → source_of t.edges i ≡ b → ⊥) → Lies t b a
nothing_above t b a h l none free = under_intro (graph_of t) (graph_of t) (fits t) t.n t.n (fits_inside t) b a
    (fits_in t b a h l (rw none (among_in 0 (labels_of t.labels a) (λ i e. absurd (true≢false (sym e ∙ has_zero i))))))
    (λ i il from. absurd (free i il from))
