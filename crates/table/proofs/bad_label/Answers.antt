use Rattle.std.proofs.Common.{rules, refl}
use Rattle.std.proofs.lemmas.Iterator.{YieldsList-from_slice}
use Rattle.ground.specs.Search.{found_at}
use Rattle.table.specs.Check.{label_over, label_wrong}
use Rattle.table.proofs.bad_label.Goals as goal

pub returns : goal.returns
unfolding label_wrong
returns c = found_at (label_over c.args.p) 0 (label_wrong c.args.p c.args.labels.now) _ _ _ c.position.ensures.ran (YieldsList-from_slice c.args.labels.now c.iter.ensures.rest) (λ x b q k. search rules) (λ i l. refl)
