-- A byte string is accepted exactly if it passes each test.
use Rattle.std.specs.Prelude.{◌≡◌, refl, false, not, ◌↔◌, ℕ, ◌*◌, ◌%◌, ◌<◌, List, length, eqb, Ok}
use Rattle.std.proofs.Common.{arith, eqb-true, eq-eqb}
use Rattle.std.proofs.lemmas.Bool.{not-false, le-ltb, ne_eqb}
use Rattle.std.proofs.lemmas.Bool.Decides.{nat_tests}
use Rattle.ground.specs.Tests.{first_passed}
use Rattle.table.specs.Answer.{refuse, refuse_first, then_done, refuse_done, refuse_first_done}
use Rattle.table.specs.Lent.{Lent}
use Rattle.table.specs.Check.{over_limit, contents_of}
use Rattle.table.specs.Allowed.{within_limits}
use Rattle.table.specs.declared.Refusal.TheVariants.{BadLength, BadCheck, BadBlock, OverLimit}
use Rattle.file.specs.Layout.{blocks_of, content_at}
use Rattle.file.specs.Reading.{blocks_in, table_in, length_wrong, check_wrong, head_wrong, block_wrong, table_wrong, wrong_with}

-- every test, by the counts of the table t
pub record Passes (f : List ℕ) (t : Lent) : Type 0 where
  pub long : length f ≡ 512 * blocks_of t.n t.m
  pub within : over_limit t.n t.m t.p t.q ≡ false
  pub checks : (b : ℕ) → b < blocks_of t.n t.m → check_wrong f b ≡ false
  pub shapes : (b : ℕ) → b < blocks_of t.n t.m → block_wrong f t.n t.m b ≡ false
  pub contents : contents_of t ≡ Ok tt

whole : (f : List ℕ) → length_wrong f ≡ false → length f % 512 ≡ 0
whole f e = grind (arith, nat_tests)

pub accepted_passes : (f : List ℕ) → wrong_with f ≡ Ok tt → Passes f (table_in f)
unfolding wrong_with
accepted_passes f e =
    let t = table_in f in
    let a = then_done (refuse (length_wrong f) BadLength) _ e in
    let b = then_done (refuse_first (blocks_in f) (check_wrong f) BadCheck) _ a.1 in
    let c = then_done (refuse (head_wrong f) (BadBlock 0)) (table_wrong f t) b.1 in
    let d = then_done (refuse (over_limit t.n t.m t.p t.q) OverLimit) _ c.1 in
    let g = then_done (refuse (not (eqb (blocks_in f) (blocks_of t.n t.m))) (BadBlock 0)) _ d.1 in
    let h = then_done (refuse_first (blocks_in f) (block_wrong f t.n t.m) BadBlock) (contents_of t) g.1 in
    let k : blocks_in f ≡ blocks_of t.n t.m = eqb-true _ _ (not-false _ (refuse_done _ (BadBlock 0) g.0)) in
    let z = whole f (refuse_done _ BadLength a.0) in
    record {
      long = omega arith;
      within = refuse_done _ OverLimit d.0;
      checks = λ i l. refuse_first_done (blocks_in f) (check_wrong f) BadCheck b.0 i (omega arith);
      shapes = λ i l. refuse_first_done (blocks_in f) (block_wrong f t.n t.m) BadBlock h.0 i (omega arith);
      contents = h.1;
    }

pub passes_accepted : (f : List ℕ) → Passes f (table_in f) → wrong_with f ≡ Ok tt
unfolding wrong_with head_wrong block_wrong content_at
passes_accepted f P =
    let t = table_in f in
    let z = P.long in
    let k : blocks_in f ≡ blocks_of t.n t.m = omega (arith, z) in
    let few = within_limits t.n t.m t.p t.q P.within in
    let n_few = few.0 in
    let m_few = few.1 in
    let l : length_wrong f ≡ false = rw (ne_eqb (length f) 0 (λ e. omega arith), eq-eqb (length f % 512) 0 (omega arith), le-ltb 9728 (length f) (omega arith)) refl in
    rw (
      l,
      k,
      first_passed (blocks_of t.n t.m) (check_wrong f) P.checks,
      P.shapes 0 (omega arith),
      P.within,
      eq-eqb (blocks_of t.n t.m) (blocks_of t.n t.m) refl,
      first_passed (blocks_of t.n t.m) (block_wrong f t.n t.m) P.shapes,
    ) P.contents

pub accepted_iff : (f : List ℕ) → (wrong_with f ≡ Ok tt) ↔ Passes f (table_in f)
accepted_iff f = (accepted_passes f, passes_accepted f)
