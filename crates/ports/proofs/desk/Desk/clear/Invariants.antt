use Rattle.std.proofs.Common.{◌≡◌, ℕ, ◌+◌, ◌*◌, ◌<◌, ◌≤◌, ◌⊎◌, ◌++◌}
use Rattle.std.specs.Prelude.{slice_index}
use Rattle.ports.specs.Seen.{emptied_slots}
use Rattle.ports.specs.Steps.{place_of}
use Rattle.ports.specs.declared.rule.TheConstants.{SLOTS}
use Rattle.ports.proofs.desk.Desk.clear.Given as goal

abbrev pub invariant-loop-slot : goal.invariant-loop-slot
invariant-loop-slot l =
    ((slot : ℕ) → slot < l.slot → slice_index l.self.last (place_of l.device slot) ≡ 0)
    × ((k : ℕ) → (k < SLOTS * l.device) ⊎ (SLOTS * l.device + l.slot ≤ k) → slice_index l.self.last k ≡ slice_index l.initial.self.last k)
    × (l.self.did ≡ l.initial.self.did ++ emptied_slots l.device l.slot)
    × (l.self.rows ≡ l.initial.self.rows)
    × (l.self.history ≡ l.initial.self.history)
