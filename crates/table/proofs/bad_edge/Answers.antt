use Rattle.std.proofs.Common.{rules, List, ℕ, [], get_or}
use Rattle.std.specs.List.{concat}
use Rattle.std.proofs.lemmas.Iterator.{YieldsList-from_slice}
use Rattle.ground.specs.Search.{found_at}
use Rattle.table.specs.Check.{outside, edge_wrong}
use Rattle.table.proofs.Cut.{edge_piece}
use Rattle.table.proofs.bad_edge.Goals as goal

pub returns : goal.returns
returns c = found_at (λ (e : List ℕ). outside c.args.n c.args.q (get_or e 0 0) (get_or e 1 0) (get_or e 2 0)) [] (edge_wrong c.args.n c.args.q (concat c.args.edges.now)) _ _ _
    c.position.ensures.ran (YieldsList-from_slice c.args.edges.now c.iter.ensures.rest) (λ x b q k. search rules) (edge_piece c.args.edges.now c.told-edges c.args.n c.args.q)
