use Rattle.iova.proofs.Keep.{space_bounded}
use Rattle.engine.proofs.domain.Domain.totals.Goals as goal

pub live_pages-requires-clause-narrow : goal.live_pages-requires-clause-narrow
live_pages-requires-clause-narrow c = rw c.pieces.ensures.pieces (space_bounded _ c.pieces.ensures.space)
