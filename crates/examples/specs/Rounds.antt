-- Eight small tables: the rounds, how many pairs each relation has, and some answers. One list, one test that computes, and one proof that a passed test is what is
-- claimed of a table.
use Rattle.std.specs.Prelude.{◌≡◌, refl, Bool, true, not, ◌&&◌, List, [], ◌∷◌, ℕ, suc, ◌*◌, ◌^◌, ◌<◌, get_or, eqb, ltb}
use Rattle.std.specs.List.{list_all, AllByRecursion}
use Rattle.std.proofs.Common.{sym, ◌∙◌, true≢false, eqb-true, ltb-true}
use Rattle.std.proofs.lemmas.Bool.{and_parts, not-true}
use Rattle.ground.specs.Tests.{all, all_out, any, first_none, first_found}
use Rattle.ground.specs.Counts.{count, sum}
use Rattle.ground.specs.Relations.{pairs, falls}
use Rattle.ground.specs.Bits.{among}
use Rattle.theory.specs.Graph.{Rounds, Stable, partner, served, backed, step, round}
use Rattle.theory.specs.Simulation.{stable_iff}
use Rattle.theory.specs.Rounds.{changes, stable_of, unstable_of}
use Rattle.table.specs.Lent.{Lent, Lies, graph_of, fits, fits_inside}
use Rattle.relation.specs.Relation.{relation_at, settled, rounds_of}

-- A table with what is claimed of it: its rounds, the counts of the pairs from relation 0 to the last, pairs (B, A) with A under B, and pairs without.
pub record Example : Type 0 where
  pub table : Lent
  pub rounds : ℕ
  pub counts : List ℕ
  pub under : List (ℕ × ℕ)
  pub apart : List (ℕ × ℕ)

pub record Claim (e : Example) : Type 0 where
  pub rounds : Rounds (graph_of e.table) (graph_of e.table) (fits e.table) e.rounds
  pub reported : rounds_of e.table ≡ e.rounds
  pub counts : (k : ℕ) → k < suc e.rounds → pairs e.table.n e.table.n (relation_at e.table k) ≡ get_or e.counts k 0
  pub under : AllByRecursion (λ p. Lies e.table p.0 p.1) e.under
  pub apart : AllByRecursion (λ p. Lies e.table p.0 p.1 → ⊥) e.apart

-- the tests of a table: its rounds are within the search, its relation stays after the last round and fell before, its counts are right, and so are the answers
abbrev falls_at : Example → ℕ → Bool
falls_at e k = falls e.table.n e.table.n (relation_at e.table k) (relation_at e.table (suc k))

abbrev counted : Example → ℕ → Bool
counted e k = eqb (pairs e.table.n e.table.n (relation_at e.table k)) (get_or e.counts k 0)

abbrev found_under : Example → ℕ × ℕ → Bool
found_under e p = relation_at e.table e.rounds p.0 p.1

abbrev test : Example → Bool
test e = ltb e.rounds (suc (e.table.n * e.table.n)) && (settled e.table e.rounds && (all e.rounds (falls_at e) && (all (suc e.rounds) (counted e) && (list_all (found_under e) e.under && list_all (λ p. not (found_under e p)) e.apart))))

unfoldable pub examples : List Example
examples =
    -- two classes that lead to one another, and others that lead there: everything lies under everything
    record {
      table = record { n = 5; m = 5; p = 0; q = 1; labels = 0 ∷ 0 ∷ 0 ∷ 0 ∷ 0 ∷ []; edges = 0 ∷ 0 ∷ 1 ∷ 1 ∷ 0 ∷ 2 ∷ 2 ∷ 0 ∷ 1 ∷ 3 ∷ 0 ∷ 4 ∷ 4 ∷ 0 ∷ 2 ∷ [] };
      rounds = 0;
      counts = 25 ∷ [];
      under = [];
      apart = [];
    }
    -- two classes with one label, each with an edge to itself
    ∷ record {
      table = record { n = 2; m = 2; p = 1; q = 1; labels = 1 ∷ 1 ∷ []; edges = 0 ∷ 0 ∷ 0 ∷ 1 ∷ 0 ∷ 1 ∷ [] };
      rounds = 0;
      counts = 4 ∷ [];
      under = (0, 1) ∷ (1, 0) ∷ [];
      apart = [];
    }
    -- two chains of three, one with a label at its end: the label shows at the heads two rounds later
    ∷ record {
      table = record { n = 6; m = 4; p = 1; q = 1; labels = 0 ∷ 0 ∷ 1 ∷ 0 ∷ 0 ∷ 0 ∷ []; edges = 0 ∷ 0 ∷ 1 ∷ 1 ∷ 0 ∷ 2 ∷ 3 ∷ 0 ∷ 4 ∷ 4 ∷ 0 ∷ 5 ∷ [] };
      rounds = 2;
      counts = 31 ∷ 20 ∷ 15 ∷ [];
      under = (3, 0) ∷ (4, 1) ∷ (5, 2) ∷ (4, 3) ∷ [];
      apart = (0, 3) ∷ (3, 1) ∷ [];
    }
    -- no class
    ∷ record { table = record { n = 0; m = 0; p = 0; q = 0; labels = []; edges = [] }; rounds = 0; counts = 0 ∷ []; under = []; apart = [] }
    -- one class, no edge
    ∷ record { table = record { n = 1; m = 0; p = 0; q = 0; labels = 0 ∷ []; edges = [] }; rounds = 0; counts = 1 ∷ []; under = (0, 0) ∷ []; apart = [] }
    -- the highest label
    ∷ record {
      table = record { n = 2; m = 0; p = 64; q = 0; labels = 2 ^ 63 ∷ 0 ∷ []; edges = [] };
      rounds = 0;
      counts = 3 ∷ [];
      under = (1, 0) ∷ [];
      apart = (0, 1) ∷ [];
    }
    -- edges to themselves, of two roles
    ∷ record {
      table = record { n = 2; m = 2; p = 0; q = 2; labels = 0 ∷ 0 ∷ []; edges = 0 ∷ 0 ∷ 0 ∷ 1 ∷ 1 ∷ 1 ∷ [] };
      rounds = 1;
      counts = 4 ∷ 2 ∷ [];
      under = (0, 0) ∷ (1, 1) ∷ [];
      apart = (0, 1) ∷ (1, 0) ∷ [];
    }
    -- an edge to itself, and nothing
    ∷ record {
      table = record { n = 2; m = 1; p = 0; q = 1; labels = 0 ∷ 0 ∷ []; edges = 0 ∷ 0 ∷ 0 ∷ [] };
      rounds = 1;
      counts = 4 ∷ 3 ∷ [];
      under = (1, 0) ∷ [];
      apart = (0, 1) ∷ [];
    }
    ∷ []

passed : list_all test examples ≡ true
unfolding examples falls pairs sum count round step backed served partner all any fits among
passed = refl

-- what a test says of each entry
each : {A : Type 0} (p : A → Bool) (P : A → Type 0) → ((x : A) → p x ≡ true → P x) → (xs : List A) → list_all p xs ≡ true → AllByRecursion P xs
each p P f [] e = tt
each p P f (x ∷ xs) e = let b = and_parts (p x) (list_all p xs) e in (f x b.0, each p P f xs b.1)

claim : (e : Example) → test e ≡ true → Claim e
unfolding changes
claim e t =
    let G = graph_of e.table in
    let bound = and_parts (ltb e.rounds (suc (e.table.n * e.table.n))) _ t in
    let first = and_parts (settled e.table e.rounds) _ bound.1 in
    let second = and_parts (all e.rounds (falls_at e)) _ first.1 in
    let third = and_parts (all (suc e.rounds) (counted e)) _ second.1 in
    let fourth = and_parts (list_all (found_under e) e.under) _ third.1 in
    let stays : Stable G G (fits e.table) e.rounds = stable_of G G (fits e.table) e.table.n e.table.n (fits_inside e.table) e.rounds (not-true _ first.0) in
    let answer = stable_iff G G (fits e.table) e.rounds stays in
    record {
      rounds = record {
        stable = stays;
        least = λ k h. unstable_of G G (fits e.table) e.table.n e.table.n (fits_inside e.table) k (all_out e.rounds (falls_at e) second.0 k h);
      };
      reported = first_found (suc (e.table.n * e.table.n)) e.rounds (settled e.table) (ltb-true _ _ bound.0)
          (first_none e.rounds (settled e.table) (λ k h. rw (all_out e.rounds (falls_at e) second.0 k h))) first.0;
      counts = λ k h. eqb-true _ _ (all_out (suc e.rounds) (counted e) third.0 k h);
      under = each _ _ (λ p x. (answer p.0 p.1).0 x) e.under fourth.0;
      apart = each _ _ (λ p x u. true≢false (sym ((answer p.0 p.1).1 u) ∙ not-true _ x)) e.apart fourth.1;
    }

-- what is claimed of each of the eight holds
pub proved : AllByRecursion Claim examples
proved = each test Claim claim examples passed
