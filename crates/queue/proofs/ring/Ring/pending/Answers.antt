use Rattle.std.proofs.Common.{◌∙◌, ap, sym, length, arith}
use Rattle.queue.specs.Ring.{Ring}
use Rattle.queue.proofs.Waiting.{length-waiting_in}
use Rattle.queue.proofs.ring.Ring.pending.Goals as goal

pub returns : goal.returns
returns c =
    let count = length-waiting_in _ _ _ c.self.invariant in
    let seen = ap (λ (q : Ring). length q.waiting) c.self.view_is in
    record { count = sym count ∙ seen; few = omega (arith, count, seen) }
