use Rattle.std.proofs.Common.{◌≤◌, length}
use Rattle.queue.specs.Ring.{submitted_in}
use Rattle.queue.proofs.ring.Ring.submitted.Given as goal

-- the pairs that were read spell a descriptor each
abbrev pub invariant-loop-newer : goal.invariant-loop-newer
invariant-loop-newer l = l.newer ≤ length (submitted_in l.self)
