use Rattle.std.proofs.Common.{arith}
use Rattle.driven.proofs.Stepped.{left_after, one_more}
use Rattle.driven.proofs.stepping.do_oldest.Goals as goal

pub unit_step-requires : goal.unit_step-requires
unit_step-requires c =
    let so_far = left_after c.args.state.now c.loop-done.state c.loop-done._done c.loop-done.invariant in
    omega (arith, so_far.calls, c.requires.calls, c.loop-done-test.true)

pub loop-done-preserved : goal.loop-done-preserved
loop-done-preserved c =
    let so_far = left_after c.args.state.now c.loop-done.state c.loop-done._done c.loop-done.invariant in
    one_more c.args.state.now c.loop-done.state c.unit_step.new.self c.loop-done._done c.unit_step.result c.loop-done.invariant
    (omega (arith, so_far.waiting, c.requires.few, c.loop-done-test.true)) c.unit_step.ensures
