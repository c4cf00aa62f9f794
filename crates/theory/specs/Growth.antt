-- Growing iteration: from a start, by a step that only adds. It ends, and what it ends at lies within every closed set that holds the start.
-- The pairs reachable in a common class are found so.
use Rattle.std.specs.Prelude.{◌≡◌, Bool, true, false, not}
use Rattle.std.proofs.Math.Path.{sym}
use Rattle.std.proofs.Common.{◌∙◌, inl, inr, ℕ, zero, suc, ◌+◌, ◌*◌, ◌-◌, ◌≤◌, ◌<◌, arith}
use Rattle.std.proofs.Math.Bool.{true≢false}
use Rattle.std.proofs.lemmas.Bool.{not-true, not-false, cases_Bool}
use Rattle.ground.specs.Tests.{any, any_out, none_out, same_test}
use Rattle.ground.specs.Relations.{Holds, Inside, Rel, falls, falls_none, falls_some, pairs, pairs_le, pairs_strict}

unfoldable pub grown : (Rel → Rel) → Rel → ℕ → Rel
grown F s zero = s
grown F s (suc k) = F (grown F s k)

abbrev pub Settled : (Rel → Rel) → Rel → ℕ → Type 0
Settled F s k = (b a : ℕ) → grown F s k b a ≡ grown F s (suc k) b a

pub record Growth (F : Rel → Rel) (s : Rel) (k : ℕ) : Type 0 where
  pub settled : Settled F s k
  pub least : (j : ℕ) → j < k → Settled F s j → ⊥

module _ (F : Rel → Rel) (s : Rel) (n m : ℕ) (adds : (r : Rel) (b a : ℕ) → Holds r b a → Holds (F r) b a)
    (inside : Inside n m s) (keeps : (r : Rel) → Inside n m r → Inside n m (F r)) where
  pub grown_inside : (k : ℕ) → Inside n m (grown F s k)
  unfolding grown
  grown_inside zero = inside
  grown_inside (suc k) = keeps (grown F s k) (grown_inside k)

  grows : ℕ → Bool
  grows k = falls n m (grown F s (suc k)) (grown F s k)

  grown_old : (k b a : ℕ) → Holds (grown F s k) b a → Holds (grown F s (suc k)) b a
  unfolding grown
  grown_old k b a e = adds (grown F s k) b a e

  settled_of : (k : ℕ) → grows k ≡ false → Settled F s k
  unfolding grows
  settled_of k e b a = same_test _ _ (grown_old k b a)
      (λ x. let i = grown_inside (suc k) b a x in falls_none n m (grown F s (suc k)) (grown F s k) e b a i.0 i.1 x)

  unsettled_of : (k : ℕ) → grows k ≡ true → Settled F s k → ⊥
  unfolding grows
  unsettled_of k e st = let f = falls_some n m (grown F s (suc k)) (grown F s k) e in
      true≢false (sym f.before ∙ sym (st f.row f.col) ∙ f.after)

  gained : (k : ℕ) → ((j : ℕ) → j < k → grows j ≡ true) → k + pairs n m s ≤ pairs n m (grown F s k)
  unfolding grown grows
  gained zero h = omega arith
  gained (suc k) h = omega (
    arith,
    gained k (λ j l. h j (omega arith)),
    pairs_strict n m (grown F s (suc k)) (grown F s k) (grown_old k) (falls_some n m (grown F s (suc k)) (grown F s k) (h k (omega arith))),
  )

  pub growth_exists : (k : ℕ) × Growth F s k × (k ≤ n * m - pairs n m s)
  growth_exists = elim (cases_Bool (any (suc (n * m - pairs n m s)) (λ k. not (grows k)))) [
    | inl e ↦ let l = any_out (suc (n * m - pairs n m s)) (λ k. not (grows k)) e in
        let h : l.at < suc (n * m - pairs n m s) = l.below in
        (l.at, record { settled = settled_of l.at (not-true _ l.passes); least = λ j h. unsettled_of j (not-false _ (l.earlier j h)) }, omega arith)
    | inr e ↦ absurd (omega (arith, gained (suc (n * m - pairs n m s)) (λ j h. not-false _ (none_out _ _ e j h)), pairs_le n m (grown F s (suc (n * m - pairs n m s)))))
  ]

-- what is closed under F and holds the start holds all that is grown; Z may be of any kind
pub grown_least {ℓ} : (F : Rel → Rel) (s : Rel) (Z : ℕ → ℕ → Type ℓ) → ((b a : ℕ) → Holds s b a → Z b a)
    → ((r : Rel) → ((b a : ℕ) → Holds r b a → Z b a) → (b a : ℕ) → Holds (F r) b a → Z b a) → (k b a : ℕ) → Holds (grown F s k) b a → Z b a
unfolding grown
grown_least F s Z f g zero b a e = f b a e
grown_least F s Z f g (suc k) b a e = g (grown F s k) (grown_least F s Z f g k) b a e
