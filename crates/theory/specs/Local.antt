-- A step reads its relation at the pair and at targets only; so an iteration may be computed over tables of rows, each computed once.
-- That is how the examples are computed: the definitions themselves are closures, and slow.
use Rattle.std.specs.Prelude.{◌≡◌, refl, Bool, true, false, List, [], ℕ, zero, suc, ◌<◌, get_or}
use Rattle.std.proofs.Common.{sym, ap, ◌∙◌}
use Rattle.ground.specs.Tests.{same_test}
use Rattle.ground.specs.Relations.{Holds, Rel}
use Rattle.ground.specs.Lists.{get_or_tabulate, tabulate}
use Rattle.theory.specs.Graph.{Graph, Partner, step, round, Closed}
use Rattle.theory.specs.Simulation.{step_in, step_old, step_backed}
use Rattle.theory.specs.Growth.{grown}

-- a step reads its relation only at the pair and at targets
half_local : (G : Graph) (n : ℕ) → ((i : ℕ) → i < G.edges → G.tgt i < n) → (r s : Rel) → ((y x : ℕ) → y < n → x < n → r y x ≡ s y x)
    → (b a : ℕ) → b < n → a < n → step G G r b a ≡ true → step G G s b a ≡ true
half_local G n t r s f b a bl al e = step_in G G s b a (sym (f b a bl al) ∙ step_old G G r b a e) (λ i l q.
    let p : Partner G G (Holds r) i a = step_backed G G r b a e i l q in
    record { at = p.at; below = p.below; from = p.from; role = p.role; leads = sym (f (G.tgt i) (G.tgt p.at) (t i l) (t p.at p.below)) ∙ p.leads })

pub step_local : (G : Graph) (n : ℕ) → ((i : ℕ) → i < G.edges → G.tgt i < n) → (r s : Rel) → ((y x : ℕ) → y < n → x < n → r y x ≡ s y x)
    → (b a : ℕ) → b < n → a < n → step G G r b a ≡ step G G s b a
step_local G n t r s f b a bl al = same_test _ _ (half_local G n t r s f b a bl al) (half_local G n t s r (λ y x h l. sym (f y x h l)) b a bl al)

unfoldable pub table : ℕ → Rel → List (List Bool)
table n r = tabulate n (λ b. tabulate n (r b))

unfoldable pub look : List (List Bool) → Rel
look t b a = get_or (get_or t b []) a false

pub look_table : (n : ℕ) (r : Rel) (b a : ℕ) → b < n → a < n → look (table n r) b a ≡ r b a
unfolding look table
look_table n r b a h l = ap (λ (row : List Bool). get_or row a false) (get_or_tabulate n (λ b. tabulate n (r b)) [] b h) ∙ get_or_tabulate n (r b) false a l

-- the iteration over tables
unfoldable pub tables : (Rel → Rel) → ℕ → Rel → ℕ → List (List Bool)
tables F n s zero = table n s
tables F n s (suc k) = table n (F (look (tables F n s k)))

-- F reads its relation inside n by n only
abbrev pub Local : (Rel → Rel) → ℕ → Type 0
Local F n = (r s : Rel) → ((y x : ℕ) → y < n → x < n → r y x ≡ s y x) → (b a : ℕ) → b < n → a < n → F r b a ≡ F s b a

pub tables_same : (F : Rel → Rel) (n : ℕ) → Local F n → (s : Rel) (k b a : ℕ) → b < n → a < n → look (tables F n s k) b a ≡ grown F s k b a
unfolding tables grown
tables_same F n loc s zero b a h l = look_table n s b a h l
tables_same F n loc s (suc k) b a h l = look_table n (F (look (tables F n s k))) b a h l ∙ loc (look (tables F n s k)) (grown F s k) (tables_same F n loc s k) b a h l

-- the rounds are such an iteration
pub round_grown : (G : Graph) (fits : Rel) (k : ℕ) → round G G fits k ≡ grown (step G G) fits k
unfolding round grown
round_grown G fits zero = refl
round_grown G fits (suc k) = ap (step G G) (round_grown G fits k)

pub round_table : (G : Graph) → Closed G → (fits : Rel) (k b a : ℕ) → b < G.size → a < G.size → look (tables (step G G) G.size fits k) b a ≡ round G G fits k b a
round_table G cl fits k b a h l = tables_same (step G G) G.size (λ r s f. step_local G G.size cl r s f) fits k b a h l ∙ ap (λ (r : Rel). r b a) (sym (round_grown G fits k))
