-- Each pair on the way spells what was submitted then.
use Rattle.std.proofs.Common.{◌∙◌, sym, arith}
use Rattle.std.proofs.lemmas.Option.{slice_get_past, slice_get_within}
use Rattle.queue.proofs.Submitted.{none_behind, submitted_at, submitted_few}
use Rattle.queue.proofs.ring.Ring.submitted.Goals as goal

pub returns-then-back : goal.returns-then-back
returns-then-back c =
    let few = submitted_few _ _ _ c.self.invariant _ _ c.self.view_is in
    sym (slice_get_past _ c.args.back (omega (arith, few)))

pub returns-in_err-decode : goal.returns-in_err-decode
returns-in_err-decode c =
    let here = submitted_at _ _ _ c.self.invariant _ _ c.self.view_is c.loop-newer.newer _ (omega arith) c.loop-newer.invariant in
    c.from_residual.ensures
    ∙ sym (none_behind _ c.loop-newer.newer c.args.back (here ∙ sym c.decode.ensures.read ∙ c.in_err-decode.was) (omega arith))

pub loop-newer-preserved : goal.loop-newer-preserved
loop-newer-preserved c =
    let here = submitted_at _ _ _ c.self.invariant _ _ c.self.view_is c.loop-newer.newer _ (omega arith) c.loop-newer.invariant in
    let within = slice_get_within _ c.loop-newer.newer _ (here ∙ sym c.decode.ensures.read ∙ c.in_ok-decode.was) in
    omega (arith, within)

pub returns : goal.returns
returns c =
    let here = submitted_at _ _ _ c.self.invariant _ _ c.self.view_is c.args.back _ (omega arith) (omega arith) in
    c.decode-2.ensures.read ∙ sym here
