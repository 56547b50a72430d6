use Rattle.std.proofs.Common.{◌+◌, ap, subst, ◌∙◌}
use Rattle.dmatypes.specs.Page.{levels}
use Rattle.tables.specs.Pool.{memory, occurs}
use Rattle.tables.specs.Tree.{uses}
use Rattle.tables.specs.Trail.{EndsInOrder}
use Rattle.tables.proofs.pools.Kept.{given_stays}
use Rattle.tables.proofs.trees.Tree.destroy.Goals as goal

pub returns-clause-others : goal.returns-clause-others
returns-clause-others c level table tree apart =
    let m = memory c.args.pool.now.words in
    given_stays c.args.pool.now c.take_down.new.pool (levels c.args.self.width) c.args.self.root level table c.requires
    (λ f. c.take_down.ensures.free f ∙ ap (λ l. occurs f c.args.pool.now.free + uses m l c.args.self.root f) c.levels.ensures.exact)
    (λ f k less none. c.take_down.ensures.others f k less (ap (λ l. uses m l c.args.self.root f) c.levels.ensures.exact ∙ none))
    c.take_down.ensures.frames tree apart

pub returns-clause-order : goal.returns-clause-order
returns-clause-order c =
    subst (λ l. EndsInOrder c.args.pool.now c.take_down.new.pool l c.args.self.root) c.levels.ensures.exact c.take_down.ensures.order
