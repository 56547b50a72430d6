use Rattle.tables.proofs.walks.Related.{stated_of_walks, walks_of_stated}
use Rattle.tables.proofs.laws.walks_are_stated.Goals as goal

pub returns : goal.returns
returns c words level table page frame rights =
    (stated_of_walks words level table page frame rights, walks_of_stated words level table page frame rights)
