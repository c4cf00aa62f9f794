-- Pieces of three, one after another, are the numbers again.
use Rattle.std.proofs.Common.{ℕ, ◌*◌, ◌/◌, arith, ◌∙◌, List, length, take, take_all, length-take-le}
use Rattle.ground.specs.Lists.{concat_pieces}
use Rattle.table.proofs.edges_of.Goals as goal

pub returns-clause-same : goal.returns-clause-same
returns-clause-same c =
    let few : List ℕ = take (3 * c.args.m) c.args.numbers.now in
    let e = length-take-le (3 * c.args.m) c.args.numbers.now c.requires in
    rw (c.as_chunks.ensures.front) (concat_pieces 3 (length few / 3) few ∙ take_all (3 * (length few / 3)) few (omega arith))
