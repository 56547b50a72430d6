use Rattle.std.proofs.Common.{ℕ, ◌<◌, ◌≤◌, IsSome}
use Rattle.checker.specs.World.{world_of}
use Rattle.checker.proofs.checker.Checker.unused.Given as goal

abbrev pub invariant-loop-id : goal.invariant-loop-id
invariant-loop-id l = (d : ℕ) → 1 ≤ d → d < l.id → IsSome ((world_of l.self).domains d)
