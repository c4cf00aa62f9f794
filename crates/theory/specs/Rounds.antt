-- Each round that changes something takes a pair away, so some round is the least that changes nothing, and it is the greatest simulation.
use Rattle.std.specs.Prelude.{◌≡◌, refl, Bool, true, false, not, ◌⊎◌}
use Rattle.std.proofs.Common.{sym, subst, ◌∙◌, true≢false, inl, inr, ℕ, zero, suc, ◌+◌, ◌*◌, ◌-◌, ◌≤◌, ◌<◌, arith}
use Rattle.std.proofs.lemmas.Bool.{not-true, not-false, cases_Bool}
use Rattle.ground.specs.Tests.{any, any_out, none_out, same_test}
use Rattle.ground.specs.Relations.{Inside, Rel, falls, falls_none, falls_some, pairs, pairs_le, pairs_strict}
use Rattle.theory.specs.Graph.{Graph, Partner, Backed, Sim, Under, round, Stable, Rounds}
use Rattle.theory.specs.Simulation.{partner_mono, sim_in_round, round_old, round_start, stable_iff, under_sim}

module _ (G H : Graph) (fits : Rel) (n m : ℕ) (inside : Inside n m fits) where
  -- round k + 1 takes some pair of round k away
  unfoldable pub changes : ℕ → Bool
  changes k = falls n m (round G H fits k) (round G H fits (suc k))

  pub stable_of : (k : ℕ) → changes k ≡ false → Stable G H fits k
  unfolding changes
  stable_of k e b a = same_test _ _
      (λ x. let i = inside b a (round_start G H fits k b a x) in falls_none n m (round G H fits k) (round G H fits (suc k)) e b a i.0 i.1 x)
      (round_old G H fits k b a)

  pub unstable_of : (k : ℕ) → changes k ≡ true → Stable G H fits k → ⊥
  unfolding changes
  unstable_of k e st = let f = falls_some n m (round G H fits k) (round G H fits (suc k)) e in
      absurd (true≢false (sym f.before ∙ st f.row f.col ∙ f.after))

  -- the measure of the run
  pub changes_shrink : (k : ℕ) → changes k ≡ true → pairs n m (round G H fits (suc k)) < pairs n m (round G H fits k)
  unfolding changes
  changes_shrink k e = pairs_strict n m _ _ (round_old G H fits k) (falls_some n m (round G H fits k) (round G H fits (suc k)) e)

  pub spent : (k : ℕ) → ((j : ℕ) → j < k → changes j ≡ true) → k + pairs n m (round G H fits k) ≤ pairs n m fits
  unfolding round
  spent zero h = omega arith
  spent (suc k) h = omega (arith, spent k (λ j l. h j (omega arith)), changes_shrink k (h k (omega arith)))

  -- a bound below which some round is stable: low is any number of pairs that every round keeps
  pub rounds_within : (low : ℕ) → ((k : ℕ) → low ≤ pairs n m (round G H fits k)) → (k : ℕ) × Rounds G H fits k × (k ≤ n * m - low)
  rounds_within low keep = elim (cases_Bool (any (suc (n * m - low)) (λ k. not (changes k)))) [
    | inl e ↦ let l = any_out (suc (n * m - low)) (λ k. not (changes k)) e in
        let h : l.at < suc (n * m - low) = l.below in
        (l.at, record { stable = stable_of l.at (not-true _ l.passes); least = λ j h. unstable_of j (not-false _ (l.earlier j h)) }, omega arith)
    | inr e ↦ absurd (omega (arith, spent (suc (n * m - low)) (λ j h. not-false _ (none_out _ _ e j h)), keep (suc (n * m - low)), pairs_le n m fits))
  ]

  -- the run ends, whatever the graphs
  pub rounds_exist : (k : ℕ) × Rounds G H fits k × (k ≤ n * m)
  rounds_exist = let x = rounds_within 0 (λ k. omega arith) in
      let h : x.0 ≤ n * m - 0 = x.2 in (x.0, x.1, omega arith)

  -- a simulation of any kind makes `Under`
  pub under_of_sim {ℓ} : (Z : ℕ → ℕ → Type ℓ) → Sim G H fits Z → (b a : ℕ) → Z b a → Under G H fits b a
  under_of_sim Z s b a z = let x = rounds_exist in (stable_iff G H fits x.0 x.1.stable b a).0 (sim_in_round G H fits Z s x.0 b a z)

  -- `Under` is a fixpoint: the edge rule by `Under` itself is enough
  pub under_intro : (b a : ℕ) → fits b a ≡ true → Backed G H (Under G H fits) b a → Under G H fits b a
  under_intro b a f h = under_of_sim Z sim b a (inr (refl, refl))
    where
      Z : ℕ → ℕ → Type 0
      Z y x = Under G H fits y x ⊎ ((y ≡ b) × (x ≡ a))

      start : (y x : ℕ) → Z y x → fits y x ≡ true
      start y x (inl u) = u.sim.start y x u.pair
      start y x (inr e) = rw (e.0, e.1) f

      edge : (y x : ℕ) → Z y x → Backed G H Z y x
      edge y x (inl u) i l q = partner_mono G H (λ y x v. inl v) ((under_sim G H fits).edge y x u i l q)
      edge y x (inr e) i l q = partner_mono G H (λ y x v. inl v) (subst (λ (x : ℕ). Partner G H (Under G H fits) i x) (sym e.1) (h i l (q ∙ e.0)))

      sim : Sim G H fits Z
      sim = record { start = start; edge = edge }
