-- The page took the lines of the classes below b.
use Rattle.relation.specs.Words.{bit_of}
use Rattle.report.specs.Listing.{lines_of}
use Rattle.report.specs.Pages.{Took}
use Rattle.report.proofs.Lines.put_lines.Given as goal

abbrev pub invariant-loop-b : goal.invariant-loop-b
invariant-loop-b l = Took l.fn.page (lines_of l.self.n (bit_of l.self.relation.now) l.b) l.page
