use Rattle.std.proofs.Common.{arith}
use Rattle.std.proofs.lemmas.Grind.{common_steps}
use Rattle.relation.specs.Words.{bit_of}
use Rattle.report.specs.Listing.{lines_more}
use Rattle.report.proofs.LinesDisplay.fmt.Goals as goal

pub loop-b-preserved : goal.loop-b-preserved
loop-b-preserved g c = rw (← lines_more c.args.self.now.n (bit_of c.args.self.now.relation.now) c.loop-b.b) (grind (arith, common_steps))
