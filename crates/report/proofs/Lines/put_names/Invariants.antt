-- The page took the numbers of the classes below a.
use Rattle.relation.specs.Words.{bit_of}
use Rattle.report.specs.Listing.{names_of}
use Rattle.report.specs.Pages.{Took}
use Rattle.report.proofs.Lines.put_names.Given as goal

abbrev pub invariant-loop-a : goal.invariant-loop-a
invariant-loop-a l = Took l.fn.page (names_of l.a (bit_of l.self.relation.now l.b)) l.page
