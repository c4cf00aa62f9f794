-- The lines of the classes below b were written.
use Rattle.std.specs.Fmt.{HasWritten, IsPlainFormatter}
use Rattle.relation.specs.Words.{bit_of}
use Rattle.report.specs.Listing.{lines_of}
use Rattle.report.proofs.LinesDisplay.fmt.Given as goal

abbrev pub invariant-loop-b : goal.invariant-loop-b
invariant-loop-b g l = IsPlainFormatter l.fn.f → HasWritten g.W.Write.write_str_gives l.fn.f (lines_of l.self.n (bit_of l.self.relation.now) l.b) l.f
