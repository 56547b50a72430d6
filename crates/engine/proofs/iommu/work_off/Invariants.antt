use Rattle.std.proofs.Common.{◌++◌, ◌∷◌, [], length}
use Rattle.vtdbits.specs.declared.descriptor.Descriptor.TheVariants.{Wait}
use Rattle.engine.proofs.caches.WorkedOff.{IsStage, taken_before}
use Rattle.engine.proofs.iommu.work_off.Given as goal

-- some of what waits was done, and the rest waits
abbrev pub invariant-loop-unit : goal.invariant-loop-unit
invariant-loop-unit l =
    IsStage ((l.fn.ring.waiting ++ l.fn.descriptor ∷ []) ++ Wait l.fn.status ∷ []) l.fn.ring.status
    (taken_before l.fn.ring.waiting l.fn.descriptor l.fn.status l.fn.ring.taken) l.fn.unit l.ring l.unit

abbrev pub decreases-loop-unit : goal.decreases-loop-unit
decreases-loop-unit l = length l.ring.waiting
