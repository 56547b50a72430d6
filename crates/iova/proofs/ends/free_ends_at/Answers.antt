use Rattle.iova.proofs.Names.{◌∙◌}
use Rattle.iova.proofs.searches.Neighbours.{end_at, end_starting}
use Rattle.iova.proofs.ends.free_ends_at.Goals as goal

pub returns-clause-last : goal.returns-clause-last
returns-clause-last c =
    c.end.ensures ∙ end_starting c.args.tree.now c.args.pages.last _ c.starting_at-behind.ensures
    ∙ end_at 1 c.args.tree.now c.args.pages.last c.requires.ordered
