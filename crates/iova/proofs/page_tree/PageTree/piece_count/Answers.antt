use Rattle.iova.proofs.Names.{arith}
use Rattle.iova.proofs.Shown.{space_shown}
use Rattle.iova.proofs.page_tree.PageTree.piece_count.Goals as goal

pub returns-clause-few : goal.returns-clause-few
returns-clause-few c =
    let a = c.self.inside in
    let sp = space_shown a.last a.tree c.self.invariant.0 a.freed c.self.invariant.2 in
    omega (arith, c.count.ensures, sp.few)
