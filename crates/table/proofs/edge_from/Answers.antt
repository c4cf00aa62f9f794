-- What the search from `from` on finds is what a search from the start would.
use Rattle.std.proofs.Common.{ℕ, Bool, rules, length, ap, ◌∙◌}
use Rattle.std.specs.Prelude.{Option, leb, unwrap_or}
use Rattle.std.specs.List.{concat}
use Rattle.std.proofs.lemmas.Bool.{lt-leb}
use Rattle.ground.specs.Tests.{found_or}
use Rattle.ground.specs.Search.{found_in}
use Rattle.table.specs.Lent.{source_of}
use Rattle.table.proofs.Cut.{source_piece}
use Rattle.table.proofs.edge_from.Goals as goal

pub returns : goal.returns
returns c =
    let m : ℕ = length c.args.edges.now in
    let reaches : ℕ → Bool = λ e. leb c.args.c (source_of (concat c.args.edges.now) e) in
    c.unwrap_or.ensures
    ∙ ap (λ (o : Option ℕ). unwrap_or o m) (found_in c.args.from m reaches (λ e l. lt-leb _ _ (c.requires e l)) _ _ _ c.find.ensures.ran
    (λ x b q k. (search rules, λ h l. rw (source_piece c.args.edges.now c.told-edges x l) (search rules))))
    ∙ found_or m reaches
