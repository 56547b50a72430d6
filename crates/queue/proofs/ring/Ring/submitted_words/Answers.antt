-- The pair there spells what was submitted then.
use Rattle.std.proofs.Common.{sym, arith}
use Rattle.queue.proofs.Submitted.{submitted_at, submitted_few}
use Rattle.queue.proofs.ring.Ring.submitted_words.Goals as goal

pub overflow_sub-result-2 : goal.overflow_sub-result-2
overflow_sub-result-2 c =
    let few = submitted_few _ _ _ c.self.invariant _ _ c.self.view_is in
    omega (arith, few, c.requires)

pub returns : goal.returns
returns c =
    let few = submitted_few _ _ _ c.self.invariant _ _ c.self.view_is in
    sym (submitted_at _ _ _ c.self.invariant _ _ c.self.view_is c.args.back _ (omega (arith, few, c.requires)) (omega (arith, c.requires)))
