use Rattle.iova.proofs.Names.{length, ap, refl, arith, Space}
use Rattle.iova.proofs.carvings.Counts.{few_carved}
use Rattle.iova.proofs.space.Space.has_few_pieces.Goals as goal

pub overflow_add-most : goal.overflow_add-most
overflow_add-most c =
    let k = c.self.inside.carved in
    let few = few_carved c.self.inside.tree k.chain k.stock c.self.invariant.0 c.self.invariant.1 in
    omega (arith, few.1, c.most_pieces.ensures.few, c.len.ensures)

pub returns-then-most-lt-MOST_PIECES_TO_CUT : goal.returns-then-most-lt-MOST_PIECES_TO_CUT
returns-then-most-lt-MOST_PIECES_TO_CUT c =
    let k = c.self.inside.carved in
    let few = few_carved c.self.inside.tree k.chain k.stock c.self.invariant.0 c.self.invariant.1 in
    let is = ap (λ (v : Space). length v.pieces) c.self.view_is in (
      (λ t. omega (arith, few.0, is, c.most_pieces.ensures.most, c.len.ensures, c.if-most-lt-MOST_PIECES_TO_CUT.true)),
      (λ h. refl),
    )
