use Rattle.iova.proofs.Names.{subst, IsIn, Live, pages_as, Space}
use Rattle.iova.proofs.Known.{live_none}
use Rattle.iova.proofs.parts.Shows.{shows}
use Rattle.iova.proofs.searches.CutAt.{at_in}
use Rattle.iova.proofs.page_tree.PageTree.hold_live.Goals as goal

pub invariant_of-self : goal.invariant_of-self
invariant_of-self c = (c.put_freed.ensures.space c.self.inside.last c.self.invariant.0, c.put_freed.ensures.low, live_none c.put_freed.ensures.none _, tt)

pub invariant_of-self-2 : goal.invariant_of-self-2
invariant_of-self-2 c = (
  c.put_freed.ensures.space c.self.inside.last c.self.invariant.0,
  c.put_freed.ensures.low,
  live_none c.put_freed.ensures.none _,
  (at_in c.put_freed.new.tree c.args.pages.first (pages_as c.args.pages Live) (c.is_live.ensures.0 c.if-not-is_live.false)).0,
)

pub returns-clause-live : goal.returns-clause-live
returns-clause-live c _ =
    let t = shows c.put_freed.ensures.pieces c.self.view_is (c.put_freed.ensures.space c.self.inside.last c.self.invariant.0) in
    let there = at_in c.put_freed.new.tree c.args.pages.first (pages_as c.args.pages Live) (c.is_live.ensures.0 c.if-not-is_live.false) in
    subst (λ (v : Space). IsIn (pages_as c.args.pages Live) v.pieces) t.is there.0
