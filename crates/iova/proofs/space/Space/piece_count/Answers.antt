use Rattle.iova.proofs.Names.{length, ap, arith, Space}
use Rattle.iova.proofs.space.Space.piece_count.Goals as goal

pub returns-clause-count : goal.returns-clause-count
returns-clause-count c =
    let is = ap (λ (v : Space). length v.pieces) c.self.view_is in
    let more = c.more.ensures c.self.inside.tree c.self.invariant.0 c.self.invariant.1 in
    omega (arith, is, more, c.piece_count.ensures.count)
