use Rattle.std.proofs.Common.{◌≡◌, length}
use Rattle.std.specs.Prelude.{vec_capacity}
use Rattle.engine.proofs.flushes.MayRelease.{IsReleasing}
use Rattle.engine.proofs.domain.release_all.Given as goal

abbrev pub invariant-loop-id : goal.invariant-loop-id
invariant-loop-id l =
    IsReleasing l.initial.pool l.initial.space l.initial.records.items l.pool l.space l.records.items
    × (vec_capacity l.records ≡ vec_capacity l.initial.records)

abbrev pub decreases-loop-id : goal.decreases-loop-id
decreases-loop-id l = length l.records.items
