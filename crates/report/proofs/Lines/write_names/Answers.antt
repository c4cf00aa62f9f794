-- A class in the row adds its name, another adds nothing.
use Rattle.std.proofs.Common.{arith, sym, ◌∙◌}
use Rattle.std.proofs.lemmas.Grind.{common_steps}
use Rattle.relation.specs.Words.{bit_of}
use Rattle.report.specs.Listing.{names_yes, names_no}
use Rattle.report.proofs.Lines.write_names.Goals as goal
use Rattle.report.proofs.Lines.write_names.Goals.{then-holds+in_ok-write, else-holds}

pub loop-a-preserved : goal.loop-a-preserved
loop-a-preserved g c =
    let row = bit_of c.args.self.now.relation.now c.args.b in
    elim c.if-holds.branch [
      | then-holds+in_ok-write w ↦ rw (← names_yes c.loop-a.a-counter row (sym c.holds.ensures ∙ w.if-holds.true)) (grind (arith, common_steps))
      | else-holds w ↦ rw (← names_no c.loop-a.a-counter row (sym c.holds.ensures ∙ w.if-holds.false)) (grind (arith, common_steps))
    ]
