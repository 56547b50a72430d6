use Rattle.std.proofs.Common.{◌≡◌, ℕ, ◌<◌, Some, slice_get}
use Rattle.vtdbits.specs.Context.{attached}
use Rattle.engine.proofs.state.is_attached.Given as goal

-- none of the devices before
abbrev pub invariant-loop-device : goal.invariant-loop-device
invariant-loop-device l = (v : ℕ) → v < l.device → attached (slice_get l.fn.contexts v) ≡ Some l.fn.id → ⊥
