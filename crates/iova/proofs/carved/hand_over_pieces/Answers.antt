use Rattle.iova.proofs.Names.{◌+◌, arith, subst, sym, FollowOn}
use Rattle.iova.proofs.carvings.InPlace.{follow_some}
use Rattle.iova.proofs.carved.hand_over_pieces.Goals as goal

pub put_row-requires-clause-pages : goal.put_row-requires-clause-pages
put_row-requires-clause-pages c =
    let pages = c.in-Some.pages in
    let f = c.in-Some.ensures.some in
    let some = follow_some pages.first c.args.carved.now.chain (pages.last + 1) f c.requires.some in
    (subst (λ l. FollowOn pages.first l (pages.last + 1)) (sym c.as_slice.ensures) f, omega arith)
