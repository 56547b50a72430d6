use Rattle.iova.proofs.Names.{leb-true, ◌≡◌, ◌∙◌, ap, sym, subst, arith, IsIn, Space, shown}
use Rattle.iova.proofs.Known.{none_of}
use Rattle.iova.proofs.page_tree.PageTree.is_lowest.Goals as goal

pub returns-then-is_none : goal.returns-then-is_none
returns-then-is_none c t p m free =
    let a = c.self.inside in
    let h = leb-true c.args.page a.low t in
    let none = none_of a.freed c.is_none.ensures c.if-is_none.true in
    let is : c.args.self.now.pieces ≡ a.tree = ap (λ (v : Space). v.pieces) (sym c.self.view_is) ∙ ap (λ f. shown f a.tree) none in
    let n = c.self.invariant.1 p (subst (λ l. IsIn p l) is m) free in
    omega (arith, h, n)
