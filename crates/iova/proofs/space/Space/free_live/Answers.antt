use Rattle.iova.proofs.Names.{sym, subst, IsCarved}
use Rattle.iova.proofs.carvings.Ends.{EndFreed, end_freed_in}
use Rattle.iova.proofs.space.Space.free_live.Goals as goal
use Rattle.iova.proofs.space.Space.free_live.Goals.{Then-give_back}

-- an end of the chain came free
ended : (c : Then-give_back)
    → EndFreed c.self.inside.tree c.args.self.now c.give_back.new.self.chain c.self.inside.carved.stock c.args.range
ended c =
    let k = c.self.inside.carved in
    end_freed_in c.self.inside.tree c.args.self.now k.chain c.give_back.new.self.chain k.stock c.ends_of-pages.result c.args.range
    c.self.invariant.0 c.self.invariant.1 c.self.view_is (c.give_back.ensures.given c.if-give_back.true) c.ends_of-pages.ensures.first
    c.ends_of-pages.ensures.last c.ends_of-pages.ensures.range.some

pub invariant_of-self : goal.invariant_of-self
invariant_of-self c = (
  c.self.invariant.0,
  subst (λ b. IsCarved c.self.inside.tree.pieces c.give_back.new.self.chain b) (sym c.give_back.ensures.stock) (ended c).carved,
)

pub returns-then-give_back-clause-freed : goal.returns-then-give_back-clause-freed
returns-then-give_back-clause-freed c = (ended c).freed_live c.requires

pub returns-then-give_back-clause-space : goal.returns-then-give_back-clause-space
returns-then-give_back-clause-space c = (ended c).spaces
