-- One entry more; no edge before it has so high a source.
use Rattle.std.proofs.Common.{ℕ, ◌+◌, take, arith, ◌∙◌}
use Rattle.std.specs.Prelude.{leb}
use Rattle.std.proofs.lemmas.Bool.{leb-false}
use Rattle.ground.specs.Tests.{first_le, first_below}
use Rattle.ground.specs.Lists.{tabulate_start, tabulate_more}
use Rattle.table.specs.Lent.{source_of}
use Rattle.table.specs.Edges.{first_edge}
use Rattle.table.proofs.Cut.{start_cut}
use Rattle.table.proofs.index.Goals as goal

pub loop-c-init : goal.loop-c-init
loop-c-init c = record { inside = omega arith; below = λ e l. absurd (omega arith); filled = tabulate_start _ _ }

pub overflow_cast-entry : goal.overflow_cast-entry
overflow_cast-entry c = omega (
  arith,
  start_cut _ c.args.m c.args.edges.now c.edges_of-edges.ensures.count c.edges_of-edges.ensures.same c.loop-c.c,
  first_le c.args.m (λ e. leb c.loop-c.c (source_of c.args.edges.now e)),
)

pub loop-c-preserved : goal.loop-c-preserved
loop-c-preserved c =
    let starts = λ (e : ℕ). leb c.loop-c.c (source_of c.args.edges.now e) in
    let found = c.edge_from-from.ensures ∙ start_cut _ c.args.m c.args.edges.now c.edges_of-edges.ensures.count c.edges_of-edges.ensures.same c.loop-c.c in
    record {
      inside = omega (arith, found, first_le c.args.m starts);
      below = λ e l. omega (arith, leb-false c.loop-c.c (source_of c.args.edges.now e) (first_below c.args.m starts e (omega (arith, found))));
      filled = tabulate_more (take (c.args.n + 1) c.args.first.now) c.loop-c.entry-items c.loop-c.c _ (first_edge c.args.edges.now c.args.m) (omega arith) c.loop-c.invariant.filled found;
    }
