-- Three counts and a newline are taken one after another.
use Rattle.std.proofs.Common.{arith, refl}
use Rattle.std.proofs.lemmas.Grind.{common_steps}
use Rattle.report.specs.Pages.{took_more}
use Rattle.report.proofs.Header.write_to.Goals as goal

pub returns-clause-ok : goal.returns-clause-ok
returns-clause-ok c =
    let last = c.put_byte.new.self in
    let whole = took_more _ c.put_count.new.self last _ _ (c.in_ok-put_count.ensures.ok refl)
    (took_more _ c.put_count-2.new.self last _ _ (c.in_ok-put_count-2.ensures.ok refl)
    (took_more _ c.put_count-3.new.self last _ _ (c.in_ok-put_count-3.ensures.ok refl) (c.in_ok-put_byte.ensures.ok refl))) in
    (grind (arith, common_steps, whole.same, whole.wrote), grind (arith, common_steps, whole.wrote, last.inside))
