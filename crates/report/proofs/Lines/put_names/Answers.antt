-- A class in the row adds a space and its number, another adds nothing.
use Rattle.std.proofs.Common.{◌+◌, arith, length-append, refl, sym, ◌∙◌}
use Rattle.std.proofs.lemmas.Grind.{common_steps}
use Rattle.relation.specs.Words.{bit_of}
use Rattle.report.specs.Listing.{names_of, names_yes, names_no, names_within}
use Rattle.report.specs.Pages.{took_more}
use Rattle.report.proofs.Lines.put_names.Goals as goal
use Rattle.report.proofs.Lines.put_names.Goals.{then-is_under+in_ok-put_name, else-is_under}

pub returns-in_err-put_name-clause-fits : goal.returns-in_err-put_name-clause-fits
returns-in_err-put_name-clause-fits c room =
    let row = bit_of c.args.self.now.relation.now c.args.b in
    grind (arith, common_steps, names_yes c.loop-a.a row, names_within (c.loop-a.a + 1) c.args.self.now.n row, length-append)

pub loop-a-preserved : goal.loop-a-preserved
loop-a-preserved c =
    let row = bit_of c.args.self.now.relation.now c.args.b in
    elim c.if-is_under.branch [
      | then-is_under+in_ok-put_name w ↦ rw (w.page-is, ← names_yes c.loop-a.a row (sym c.holds-is_under.ensures ∙ w.if-is_under.true))
          (took_more c.args.page.now c.loop-a.page w.put_name.new.self (names_of c.loop-a.a row) _ c.loop-a.invariant (w.in_ok-put_name.ensures.ok refl))
      | else-is_under w ↦ rw (w.page-is, ← names_no c.loop-a.a row (sym c.holds-is_under.ensures ∙ w.if-is_under.false)) c.loop-a.invariant
    ]
