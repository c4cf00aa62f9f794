-- With every test passed, what is left is what is wrong with the contents.
use Rattle.std.proofs.Common.{refl, sym, ◌∙◌, arith, le-ltb}
use Rattle.table.specs.Check.{check_of}
use Rattle.table.specs.Allowed.{within_limits}
use Rattle.table.proofs.Cut.{contents_cut}
use Rattle.table.proofs.check.Goals as goal

pub returns : goal.returns
unfolding check_of
returns c =
    let t = c.args.t in
    let within = sym c.over_limit.ensures ∙ c.if-over_limit.false in
    let room = (within_limits t.n t.m t.p t.q within).0 in
    simp (le-ltb _ _ c.if-labels-lt-CLASSES.false, le-ltb _ _ c.if-edges-lt-NUMBERS.false, within)
    (c.contents.ensures ∙ contents_cut _ _ _ c.edges_of.ensures.count c.edges_of.ensures.same t c.args.labels.now refl (omega arith))
