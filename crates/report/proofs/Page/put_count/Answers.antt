-- The texts are taken one after another.
use Rattle.std.proofs.Common.{arith}
use Rattle.std.proofs.lemmas.Grind.{common_steps}
use Rattle.report.specs.Pages.{took_more}
use Rattle.report.proofs.Page.put_count.Goals as goal

pub returns-clause-ok : goal.returns-clause-ok
returns-clause-ok c ok = grind (arith, common_steps, took_more)
