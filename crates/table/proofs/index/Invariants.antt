-- Class c's entry comes next; the edges before the last entry have sources below c.
use Rattle.std.proofs.Common.{ℕ, ◌≡◌, ◌≤◌, ◌<◌, ◌++◌, drop}
use Rattle.ground.specs.Lists.{tabulate}
use Rattle.table.specs.Lent.{source_of}
use Rattle.table.specs.Edges.{first_edge}
use Rattle.table.proofs.index.Given as goal

abbrev pub invariant-loop-c : goal.invariant-loop-c
invariant-loop-c l = record {
  inside : l.from ≤ l.m;
  below : (e : ℕ) → e < l.from → source_of l.fn.edges e < l.c;
  filled : l.entry-items ≡ tabulate l.c (first_edge l.fn.edges l.m) ++ drop l.c l.initial.entry-items;
}
