use Rattle.iova.proofs.Names.{sym, subst, NoneFreeBelow, with_piece}
use Rattle.iova.proofs.LowestFree.{none_below_put, none_below_used}
use Rattle.iova.proofs.fits.low_behind.Goals as goal

pub returns-then-piece-low-clause-low : goal.returns-then-piece-low-clause-low
returns-then-piece-low-clause-low c pieces o none =
    let p = c.args.piece in
    subst (λ n. NoneFreeBelow n (with_piece p pieces)) (sym c.max.ensures)
    (none_below_used c.args.low p.first p.last p.state pieces o c.requires.some none c.requires.in_use c.if-piece-low.true)

pub returns-clause-low : goal.returns-clause-low
returns-clause-low c pieces o none =
    let p = c.args.piece in
    none_below_put c.args.low p.first p.last p.state pieces o c.requires.some none (λ e. absurd (c.requires.in_use e))
