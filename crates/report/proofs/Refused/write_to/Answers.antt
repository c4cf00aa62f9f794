-- Two counts and a newline are taken one after another.
use Rattle.std.proofs.Common.{◌≡◌, ◌++◌, arith, codes, decimal, refl}
use Rattle.std.proofs.lemmas.Grind.{common_steps}
use Rattle.report.specs.Listing.{refused_line, refused_parts}
use Rattle.report.specs.Pages.{took_as, took_more}
use Rattle.report.proofs.Refused.write_to.Goals as goal

pub returns-clause-ok : goal.returns-clause-ok
returns-clause-ok c =
    let last = c.put_byte.new.self in
    let line : (codes "refused " ++ decimal c.number.result) ++ ((codes " at " ++ decimal c.place.result) ++ codes "\n") ≡ refused_line c.args.self.0 =
    rw (c.number.ensures, c.place.ensures) (refused_parts c.args.self.0) in
    let whole = took_as _ last _ _ line (took_more _ c.put_count.new.self last _ _ (c.in_ok-put_count.ensures.ok refl)
    (took_more _ c.put_count-2.new.self last _ _ (c.in_ok-put_count-2.ensures.ok refl) (c.in_ok-put_byte.ensures.ok refl))) in
    (grind (arith, common_steps, whole.same, whole.wrote), grind (arith, common_steps, whole.wrote, last.inside))
