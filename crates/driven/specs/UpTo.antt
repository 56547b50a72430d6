-- What it is that the unit has done all up to a wait.
use Rattle.std.specs.Prelude.{◌≡◌, ℕ, zero, suc, ◌-◌, ◌*◌, ◌≤◌, length, min}
use Rattle.dmatypes.specs.declared.call.Call.TheVariants as calls
use Rattle.dmatypes.specs.declared.reply.Progress.TheVariants.{Did}
use Rattle.dmatypes.specs.declared.reply.Reply.TheVariants.{Stepped}
use Rattle.engine.specs.Ready.{last_done}
use Rattle.engine.specs.State.{State}
use Rattle.engine.specs.Steps.{Does}

-- so many descriptors that waited are done, the oldest first, each by a step of the unit
abbrev pub DoesOldest : State → ℕ → State → Type 0
DoesOldest m zero t = t ≡ m
DoesOldest m (suc steps) t = (s : State) × (DoesOldest m steps s × Does s calls.Unit (Stepped Did) t)

-- The wait of this number was sent, and is done by so many steps. Of what waited only what was sent after it is left, a descriptor and a
-- wait each
pub record DoesUpTo (m : State) (wait steps : ℕ) (t : State) : Type 0 where
  pub sent : wait ≤ m.iommu.sent
  pub does : DoesOldest m steps t
  pub done : wait ≤ last_done t.iommu
  pub left : length t.iommu.ring.waiting ≡ min (length m.iommu.ring.waiting) (2 * (m.iommu.sent - wait))
