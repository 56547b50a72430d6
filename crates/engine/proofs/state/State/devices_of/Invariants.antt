use Rattle.std.proofs.Common.{◌≡◌, ◌<◌, ◌≤◌, ◌↔◌, ℕ, Some, slice_get}
use Rattle.std.specs.Int.{bit_at}
use Rattle.vtdbits.specs.Context.{attached}
use Rattle.engine.proofs.state.State.devices_of.Given as goal

-- the bits of the devices before are told, and no other is set
abbrev pub invariant-loop-device : goal.invariant-loop-device
invariant-loop-device l =
    ((v : ℕ) → v < l.device → (bit_at l.devices v ≡ 1) ↔ (attached (slice_get l.self.iommu.contexts v) ≡ Some l.id))
    × ((v : ℕ) → l.device ≤ v → bit_at l.devices v ≡ 0)
