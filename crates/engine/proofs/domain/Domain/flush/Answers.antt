use Rattle.engine.proofs.caches.WorkedOff.{all_invalidated}
use Rattle.engine.proofs.domain.Domain.flush.Goals as goal

pub release_all-requires-clause-invalidated : goal.release_all-requires-clause-invalidated
release_all-requires-clause-invalidated c =
    all_invalidated c.args.iommu.now c.invalidate_domain.new.self c.args.id c.self.inside.records.items
    (rw (← c.self.view_is) at c.requires.made) c.invalidate_domain.ensures
