-- Relations as tests of two numbers, row first: their pairs within n by m, how many there are, which of two relations has more, and the pairs' numbers in ascending order.
use Rattle.std.specs.Prelude.{◌≡◌, refl, Bool, true, false, not, ◌&&◌, ℕ, ◌+◌, ◌*◌, ◌-◌, ◌≤◌, ◌<◌}
use Rattle.std.proofs.Common.{arith, add-one}
use Rattle.std.proofs.lemmas.Bool.{not-true, not-false, and_parts}
use Rattle.ground.specs.Tests.{any, any_out, none_out}
use Rattle.ground.specs.Counts.{count, sum, count_le, count_mono, count_strict, count_ge, count_ext, count_past, count_find, sum_mono, sum_strict, sum_le, sum_ge, sum_ext, sum_past, sum_find}

-- the pair (b, a) is in r where r b a is true
abbrev pub Rel : Type 0
Rel = ℕ → ℕ → Bool

abbrev pub Holds : Rel → ℕ → ℕ → Type 0
Holds r b a = r b a ≡ true

-- every pair is within n by m
abbrev pub Inside : ℕ → ℕ → Rel → Type 0
Inside n m r = (b a : ℕ) → r b a ≡ true → (b < n) × (a < m)

-- ---- how many pairs a relation has within n by m

unfoldable pub pairs : ℕ → ℕ → Rel → ℕ
pairs n m r = sum n (λ b. count m (r b))

pub pairs_zero : (n : ℕ) (r : Rel) → pairs 0 n r ≡ 0
unfolding pairs sum
pairs_zero n r = refl

pub pairs_more : (i n : ℕ) (r : Rel) → pairs (i + 1) n r ≡ pairs i n r + count n (r i)
unfolding pairs sum
pairs_more i n r = rw (add-one i)

pub pairs_ext : (n m : ℕ) (r s : Rel) → ((y x : ℕ) → y < n → x < m → r y x ≡ s y x) → pairs n m r ≡ pairs n m s
unfolding pairs
pairs_ext n m r s h = sum_ext n _ _ (λ y l. count_ext m (r y) (s y) (λ x k. h y x l k))

pub pairs_mono : (n m : ℕ) (r s : Rel) → ((y x : ℕ) → y < n → x < m → r y x ≡ true → s y x ≡ true) → pairs n m r ≤ pairs n m s
unfolding pairs
pairs_mono n m r s h = sum_mono n _ _ (λ y l. count_mono m (r y) (s y) (λ x k. h y x l k))

pub pairs_le : (n m : ℕ) (r : Rel) → pairs n m r ≤ n * m
unfolding pairs
pairs_le n m r = sum_le n m _ (λ b _. count_le m (r b))

pub pairs_diagonal : (n : ℕ) (r : Rel) → ((b : ℕ) → b < n → r b b ≡ true) → n ≤ pairs n n r
unfolding pairs
pairs_diagonal n r h = omega (arith, sum_ge n 1 (λ b. count n (r b)) (λ b l. count_ge n (r b) b l (h b l)))

-- ---- a relation that loses a pair has fewer

-- some pair of r, in n by m, is not in s
unfoldable pub falls : ℕ → ℕ → Rel → Rel → Bool
falls n m r s = any n (λ b. any m (λ a. r b a && not (s b a)))

pub falls_none : (n m : ℕ) (r s : Rel) → falls n m r s ≡ false → (b a : ℕ) → b < n → a < m → r b a ≡ true → s b a ≡ true
unfolding falls
falls_none n m r s e b a h l x = not-false (s b a) (rw x at (none_out _ _ (none_out _ _ e b h) a l))

pub record Fallen (n m : ℕ) (r s : Rel) : Type 0 where
  pub row : ℕ
  pub col : ℕ
  pub row_lt : row < n
  pub col_lt : col < m
  pub before : r row col ≡ true
  pub after : s row col ≡ false

pub falls_some : (n m : ℕ) (r s : Rel) → falls n m r s ≡ true → Fallen n m r s
unfolding falls
falls_some n m r s e =
    let x = any_out n (λ b. any m (λ a. r b a && not (s b a))) e in
    let y = any_out m (λ a. r x.at a && not (s x.at a)) x.passes in
    let w = and_parts _ _ y.passes in
    record { row = x.at; col = y.at; row_lt = x.below; col_lt = y.below; before = w.0; after = not-true _ w.1 }

pub pairs_strict : (n m : ℕ) (r s : Rel) → ((b a : ℕ) → Holds s b a → Holds r b a) → Fallen n m r s → pairs n m s < pairs n m r
unfolding pairs
pairs_strict n m r s h f = sum_strict n (λ b. count m (s b)) (λ b. count m (r b)) (λ b l. count_mono m (s b) (r b) (λ a _. h b a)) f.row f.row_lt
    (count_strict m (s f.row) (r f.row) (λ a _. h f.row a) f.col f.col_lt f.after f.before)

-- ---- the number of a pair: how many stand before it, by row, then column

unfoldable pub rank : ℕ → Rel → ℕ → ℕ → ℕ
rank m r u v = sum u (λ x. count m (r x)) + count v (r u)

module _ (n m : ℕ) (r : Rel) where
  pub rank_row : (u v u' v' : ℕ) → v < m → r u v ≡ true → u < u' → rank m r u v < rank m r u' v'
  unfolding rank
  rank_row u v u' v' vl e h = omega (arith, sum_past (λ x. count m (r x)) u u' h, count_past (r u) v m vl e)

  pub rank_col : (u v v' : ℕ) → r u v ≡ true → v < v' → rank m r u v < rank m r u v'
  unfolding rank
  rank_col u v v' e h = omega (arith, count_past (r u) v v' h e)

  -- it is below the number of pairs
  pub rank_lt : (u v : ℕ) → u < n → v < m → r u v ≡ true → rank m r u v < pairs n m r
  unfolding rank pairs
  rank_lt u v ul vl e = omega (arith, sum_past (λ x. count m (r x)) u n ul, count_past (r u) v m vl e)

  -- and two pairs have two numbers
  pub rank_inj : (u v u' v' : ℕ) → v < m → v' < m → r u v ≡ true → r u' v' ≡ true → rank m r u v ≡ rank m r u' v' → (u ≡ u') × (v ≡ v')
  rank_inj u v u' v' vl vl' e e' q =
      let same : u ≡ u' = grind (arith, rank_row u v u' v' vl e, rank_row u' v' u v vl' e') in
      let q' = rw (← same) at q in
      (same, grind (arith, rank_col u v v' e, rank_col u v' v (rw (← same) at e')))

-- every number below the count is some pair's
pub record Ranked (n m : ℕ) (r : Rel) (c : ℕ) : Type 0 where
  pub row : ℕ
  pub col : ℕ
  pub row_lt : row < n
  pub col_lt : col < m
  pub pair : r row col ≡ true
  pub number : rank m r row col ≡ c

pub rank_onto : (n m : ℕ) (r : Rel) (c : ℕ) → c < pairs n m r → Ranked n m r c
unfolding rank pairs
rank_onto n m r c h =
    let x = sum_find (λ b. count m (r b)) n c h in
    let l : c - sum x.0 (λ b. count m (r b)) < count m (r x.0) = omega (arith, x.2, x.3) in
    let y = count_find (r x.0) m (c - sum x.0 (λ b. count m (r b))) l in
    record { row = x.0; col = y.0; row_lt = x.1; col_lt = y.1; pair = y.2; number = omega (arith, x.2, y.3) }
