-- A line more.
use Rattle.std.proofs.Common.{◌+◌, arith, length-append, refl}
use Rattle.std.proofs.lemmas.Grind.{common_steps}
use Rattle.relation.specs.Words.{bit_of}
use Rattle.report.specs.Listing.{lines_of, lines_more, lines_within}
use Rattle.report.specs.Pages.{took_more}
use Rattle.report.proofs.Lines.put_lines.Goals as goal

pub returns-in_err-put_line-clause-fits : goal.returns-in_err-put_line-clause-fits
returns-in_err-put_line-clause-fits c room =
    let rows = bit_of c.args.self.now.relation.now in
    grind (arith, common_steps, lines_more c.args.self.now.n rows c.loop-b.b, lines_within c.args.self.now.n rows (c.loop-b.b + 1) c.args.self.now.n, length-append)

pub loop-b-preserved : goal.loop-b-preserved
loop-b-preserved c =
    let rows = bit_of c.args.self.now.relation.now in
    rw (← lines_more c.args.self.now.n rows c.loop-b.b)
    (took_more c.args.page.now c.loop-b.page c.put_line.new.page (lines_of c.args.self.now.n rows c.loop-b.b) _ c.loop-b.invariant (c.in_ok-put_line.ensures.ok refl))
