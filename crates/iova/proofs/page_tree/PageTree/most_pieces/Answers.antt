use Rattle.iova.proofs.Names.{length, ap, arith, Space}
use Rattle.iova.proofs.Shown.{few_shown}
use Rattle.iova.proofs.page_tree.PageTree.most_pieces.Goals as goal

pub returns-clause-most : goal.returns-clause-most
returns-clause-most c =
    let a = c.self.inside in
    let fewer = few_shown a.last a.tree c.self.invariant.0 a.freed c.self.invariant.2 in
    let is = ap (λ (v : Space). length v.pieces) c.self.view_is in
    omega (arith, fewer, is, c.len.ensures.len)
