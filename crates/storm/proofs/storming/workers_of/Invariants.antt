use Rattle.std.proofs.Common.{◌≡◌, ◌+◌, ◌-◌, ◌≤◌, All, vec_len}
use Rattle.std.specs.Vec.Iter.{into_iter_items, into_iter_len}
use Rattle.manager.specs.Kept.{new_share}
use Rattle.storm.specs.Storms.{AreNewFrom, IsFresh}
use Rattle.storm.proofs.storming.workers_of.Given as goal

-- the workers so far, and the shares and ports that are left
abbrev pub invariant-loop-share : goal.invariant-loop-share
invariant-loop-share g l =
    (vec_len l.workers + into_iter_len l.share-iterator ≡ vec_len l.fn.shares)
    × All (λ s. s ≡ new_share) (into_iter_items l.share-iterator)
    × All IsFresh l.workers.items
    × (vec_len l.workers ≤ l.plan.drivers + l.plan.devices
    → AreNewFrom (vec_len l.workers - l.plan.drivers) (into_iter_items l.ports))
