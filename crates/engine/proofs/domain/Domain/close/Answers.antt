use Rattle.engine.proofs.caches.WorkedOff.{done_then}
use Rattle.engine.proofs.domain.Domain.close.Goals as goal

pub destroy-requires-clause-invalidated : goal.destroy-requires-clause-invalidated
destroy-requires-clause-invalidated c = done_then _ _ _ c.flush.ensures.flushes.invalidates
