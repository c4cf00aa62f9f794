-- The edges of one class stand together, and an index of first edges says where. The relation layer and the class-making layer walk them by it.
use Rattle.std.specs.Prelude.{ℕ, ◌+◌, ◌*◌, ◌≤◌, ◌<◌, ◌≡◌, Bool, List, ◌++◌, length, get_or, drop, leb}
use Rattle.std.proofs.Common.{◌∙◌, arith, le_refl, add-one, length-append, leb-true, leb-false}
use Rattle.std.proofs.Math.ListN.{get_or-append}
use Rattle.std.proofs.Math.Decide.{le_ind}
use Rattle.std.proofs.lemmas.Bool.Decides.{nat_tests}
use Rattle.ground.specs.Tests.{first, first_le, first_below, first_passes}
use Rattle.ground.specs.Lists.{tabulate, length_tabulate, get_or_tabulate}
use Rattle.table.specs.Lent.{Lent, source_of, target_of}
use Rattle.table.specs.Allowed.{Allowed, Long}

-- the first of m edges whose source is class c or a later one
abbrev pub first_edge : List ℕ → ℕ → ℕ → ℕ
first_edge es m c = first m (λ e. leb c (source_of es e))

-- that of each class below n, and of n
abbrev pub index_of : List ℕ → ℕ → ℕ → List ℕ
index_of es m n = tabulate (n + 1) (first_edge es m)

-- in fs, class c's edges are those from entry c up to, not including, entry c + 1
pub record Indexed (t : Lent) (fs : List ℕ) : Type 0 where
  pub room : t.n < length fs
  pub few_classes : t.n ≤ 256
  pub few_edges : t.m ≤ 1024
  pub held : 3 * t.m ≤ length t.edges
  pub within : (c : ℕ) → c ≤ t.n → get_or fs c 0 ≤ t.m
  pub low : (c e : ℕ) → c ≤ t.n → e < get_or fs c 0 → source_of t.edges e < c
  pub high : (c e : ℕ) → c ≤ t.n → get_or fs c 0 ≤ e → e < t.m → c ≤ source_of t.edges e
  pub targets : (e : ℕ) → e < t.m → target_of t.edges e < t.n

-- ---- the index of an allowed table

rises : (t : Lent) → Allowed t → (i j : ℕ) → i ≤ j → j < t.m → source_of t.edges i ≤ source_of t.edges j
rises t A i j l h = le_ind (λ (k : ℕ). k < t.m → source_of t.edges i ≤ source_of t.edges k) (λ _. le_refl _)
    (λ k _ ih m. let e = rw (add-one k) at (A.ascending k (omega arith)) in let r = ih (omega arith) in grind (arith, nat_tests)) j l h

pub indexed : (t : Lent) → Long t → Allowed t → (old : List ℕ) → t.n < length old → Indexed t (index_of t.edges t.m t.n ++ drop (t.n + 1) old)
indexed t L A old h = record {
  room = omega (arith, length-append index (drop (t.n + 1) old), length_tabulate (t.n + 1) (first_edge t.edges t.m));
  few_classes = A.most_n;
  few_edges = A.most_m;
  held = omega (arith, L.edges, A.most_m);
  within = λ c l. rw (at c l) (first_le t.m (starts c));
  low = λ c e l k. leb-false _ _ (first_below t.m (starts c) e (rw (at c l) at k));
  high = λ c e l k m. let k' : first_edge t.edges t.m c ≤ e = rw (at c l) at k in
      let passes = leb-true c (source_of t.edges (first_edge t.edges t.m c)) (first_passes t.m (starts c) (omega arith)) in
      omega (arith, passes, rises t A (first_edge t.edges t.m c) e k' m);
  targets = A.targets;
}
  where
    index : List ℕ
    index = index_of t.edges t.m t.n

    starts : ℕ → ℕ → Bool
    starts c e = leb c (source_of t.edges e)

    at : (c : ℕ) → c ≤ t.n → get_or (index ++ drop (t.n + 1) old) c 0 ≡ first_edge t.edges t.m c
    at c l = get_or-append index (drop (t.n + 1) old) 0 c (omega (arith, length_tabulate (t.n + 1) (first_edge t.edges t.m)))
        ∙ get_or_tabulate (t.n + 1) (first_edge t.edges t.m) 0 c (omega arith)
