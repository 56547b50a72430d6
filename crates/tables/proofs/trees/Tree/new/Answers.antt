use Rattle.dmatypes.specs.Page.{levels}
use Rattle.tables.specs.Pool.{memory}
use Rattle.tables.proofs.pools.Fresh.{fresh_root, uses-root}
use Rattle.tables.proofs.walks.Onward.{leaf_zeroed, table_zeroed}
use Rattle.tables.proofs.walks.Words.{zeroed_bare}
use Rattle.tables.proofs.spelled.Stays.{zeroed_spelled}
use Rattle.tables.proofs.trees.Tree.new.Goals as goal

pub returns-clause-tree : goal.returns-clause-tree
returns-clause-tree c =
    fresh_root c.args.pool.now c.take.new.self c.args.width c.take.result c.take.ensures.old_pool c.take.ensures.frames
    c.take.ensures.zeroed
    c.take.ensures.free

pub returns-clause-empty : goal.returns-clause-empty
returns-clause-empty c p =
    leaf_zeroed (memory c.take.new.self.words) (levels c.args.width) c.take.result p
    (zeroed_bare c.take.new.self.words c.take.result c.take.ensures.zeroed)

pub returns-clause-tables : goal.returns-clause-tables
returns-clause-tables c p w lower =
    table_zeroed (memory c.take.new.self.words) (levels c.args.width) c.take.result p w
    (zeroed_bare c.take.new.self.words c.take.result c.take.ensures.zeroed) lower

pub returns-clause-frames : goal.returns-clause-frames
returns-clause-frames c f =
    uses-root (memory c.take.new.self.words) c.args.width c.take.result f
    (zeroed_bare c.take.new.self.words c.take.result c.take.ensures.zeroed)

pub returns-clause-spelled : goal.returns-clause-spelled
returns-clause-spelled c = zeroed_spelled c.take.new.self.words (levels c.args.width) c.take.result c.take.ensures.zeroed
