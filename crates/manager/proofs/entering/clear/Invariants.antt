use Rattle.std.proofs.Common.{◌≡◌, ◌<◌, ℕ, slice_index}
use Rattle.std.specs.Int.{bit_at}
use Rattle.ports.specs.Steps.{place_of}
use Rattle.manager.proofs.entering.clear.Given as goal

-- the rows of the devices before are empty where they are to be; all others stay
abbrev pub invariant-loop-device : goal.invariant-loop-device
invariant-loop-device l =
    ((device slot : ℕ) → device < 16 → slot < 16
    → (bit_at l.devices device ≡ 1 → device < l.device → slice_index l.desk.last (place_of device slot) ≡ 0)
    × ((bit_at l.devices device ≡ 1 → ⊥)
    → slice_index l.desk.last (place_of device slot) ≡ slice_index l.initial.desk.last (place_of device slot)))
    × (l.desk.rows ≡ l.initial.desk.rows)
    × (l.desk.history ≡ l.initial.desk.history)
