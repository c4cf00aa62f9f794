-- Edge 0 has none before it.
use Rattle.std.proofs.Common.{rules, arith, ◌≡◌, ◌∙◌}
use Rattle.std.specs.List.{concat}
use Rattle.ground.specs.Search.{found_in}
use Rattle.table.specs.Check.{order_wrong}
use Rattle.table.proofs.Cut.{order_piece}
use Rattle.table.proofs.bad_order.Goals as goal

pub returns : goal.returns
unfolding order_wrong
returns c = found_in 1 _ (order_wrong (concat c.args.edges.now)) (λ k l. let e : k ≡ 0 = omega arith in rw e) _ _ _ c.find.ensures.ran (λ x b q k. (search rules, λ h l. order_piece c.args.edges.now c.told-edges x h l ∙ search rules))
