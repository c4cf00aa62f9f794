-- The numbers of the classes below a were written.
use Rattle.std.specs.Fmt.{HasWritten, IsPlainFormatter}
use Rattle.relation.specs.Words.{bit_of}
use Rattle.report.specs.Listing.{names_of}
use Rattle.report.proofs.Lines.write_names.Given as goal

abbrev pub invariant-loop-a : goal.invariant-loop-a
invariant-loop-a g l = IsPlainFormatter l.fn.f → HasWritten g.W.Write.write_str_gives l.fn.f (names_of l.a-counter (bit_of l.self.relation.now l.b)) l.f
