use Rattle.iova.proofs.Names.{AreLive, subst, sym, NoneFreeBelow, IsSpace, stored}
use Rattle.iova.proofs.Known.{live_none}
use Rattle.iova.proofs.parts.Shows.{shows}
use Rattle.iova.proofs.page_tree.PageTree.find.Goals as goal

pub find-requires-clause-ordered : goal.find-requires-clause-ordered
find-requires-clause-ordered c = (c.put_freed.ensures.space c.self.inside.last c.self.invariant.0).ordered

pub invariant_of-self : goal.invariant_of-self
invariant_of-self c =
    subst (λ l. IsSpace (stored c.self.inside.last l) × NoneFreeBelow c.put_freed.new.low l × AreLive c.put_freed.new.freed l × Unit {0})
    (sym c.find.ensures.unchanged) (c.put_freed.ensures.space c.self.inside.last c.self.invariant.0, c.put_freed.ensures.low, live_none c.put_freed.ensures.none _, tt)

pub invariant_of-self-2 : goal.invariant_of-self-2
invariant_of-self-2 c =
    let sp = c.put_freed.ensures.space c.self.inside.last c.self.invariant.0 in
    let low = c.low_found-self-inside.ensures c.put_freed.new.tree sp.ordered c.put_freed.ensures.low c.in_ok-found.ensures.lowest in
    subst (λ l. IsSpace (stored c.self.inside.last l) × NoneFreeBelow c.low_found-self-inside.result l × AreLive c.put_freed.new.freed l × Unit {0})
    (sym c.find.ensures.unchanged) (sp, low, live_none c.put_freed.ensures.none _, tt)

pub returns-in_err-found-clause-space : goal.returns-in_err-found-clause-space
returns-in_err-found-clause-space c =
    (shows c.put_freed.ensures.pieces c.self.view_is (c.put_freed.ensures.space c.self.inside.last c.self.invariant.0)).now_space

pub returns-clause-space : goal.returns-clause-space
returns-clause-space c =
    (shows c.put_freed.ensures.pieces c.self.view_is (c.put_freed.ensures.space c.self.inside.last c.self.invariant.0)).now_space
