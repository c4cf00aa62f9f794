-- The page took the text in texts of its own, one after another, and lies in the buffer that it was lent.
use Rattle.std.proofs.Common.{arith}
use Rattle.std.proofs.lemmas.Grind.{common_steps}
use Rattle.std.proofs.lemmas.Option.{IfSome_then}
use Rattle.report.specs.Text.{wrote_calls}
use Rattle.report.proofs.write_into.Goals as goal

pub returns-clause-ok : goal.returns-clause-ok
returns-clause-ok g c = IfSome_then (g.D.Display.output c.args.value) (c.in_ok-write.ensures).writes (λ text w.
    let k = wrote_calls (λ p. p.out.now) (λ p. p.out.ghost_name) (λ p. p.at) (λ p. p.inside) _ text c.write.new.self w in
    (grind (arith, common_steps, k.0, k.1), grind (arith, common_steps, k.0, k.1, c.write.new.self.inside)))
