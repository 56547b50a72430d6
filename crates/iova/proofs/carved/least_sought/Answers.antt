use Rattle.iova.proofs.carvings.Taken.{none_before_lowest}
use Rattle.iova.proofs.carved.least_sought.Goals as goal

pub returns-then-is_lowest-clause-none : goal.returns-then-is_lowest-clause-none
returns-then-is_lowest-clause-none c =
    none_before_lowest c.args.tree.now.pieces c.args.first 1 c.requires.space.ordered (c.is_lowest.ensures c.if-is_lowest.true)
