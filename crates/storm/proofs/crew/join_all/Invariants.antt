use Rattle.std.proofs.Common.{◌≡◌, ◌+◌, ◌≤◌, ℕ, All, vec_capacity, vec_len}
use Rattle.std.specs.Vec.Iter.{into_iter_items, into_iter_len}
use Rattle.storm.specs.Storms.{HasChecked, HasMade}
use Rattle.storm.proofs.crew.join_all.Given as goal

-- what came back so far, and the threads that are left
abbrev pub invariant-loop-handle : goal.invariant-loop-handle
invariant-loop-handle g l =
    (vec_len l.returned.shares + into_iter_len l.handle-iterator ≡ vec_len l.fn.running)
    × (vec_len l.returned.ports ≤ vec_len l.returned.shares)
    × (vec_capacity l.returned.shares ≡ vec_capacity l.fn.returned.shares)
    × (vec_capacity l.returned.ports ≡ vec_capacity l.fn.returned.ports)
    × ((calls : ℕ) → All (λ h. h.promise.0 ≡ calls) l.fn.running.items
    → All (λ h. h.promise.0 ≡ calls) (into_iter_items l.handle-iterator)
    × All (HasMade g.B.Owner.room calls) l.returned.shares.items
    × All (HasChecked calls) l.returned.ports.items)
