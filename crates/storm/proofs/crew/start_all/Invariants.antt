use Rattle.std.proofs.Common.{◌≡◌, ◌+◌, ◌≤◌, All, vec_capacity, vec_len}
use Rattle.std.specs.Vec.Iter.{into_iter_items, into_iter_len}
use Rattle.storm.specs.Storms.{IsFresh}
use Rattle.storm.proofs.crew.start_all.Given as goal

-- the threads so far, and the workers that are left
abbrev pub invariant-loop-worker : goal.invariant-loop-worker
invariant-loop-worker g l =
    (vec_len l.running + into_iter_len l.worker-iterator ≡ vec_len l.fn.workers)
    × (vec_len l.fn.workers ≤ vec_capacity l.running)
    × All IsFresh (into_iter_items l.worker-iterator)
    × All (λ h. h.promise.0 ≡ l.site.calls) l.running.items
