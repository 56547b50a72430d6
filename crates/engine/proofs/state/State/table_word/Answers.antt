use Rattle.std.proofs.Common.{◌<◌, arith}
use Rattle.dmatypes.specs.declared.page.TheConstants.{FRAMES_END}
use Rattle.engine.proofs.state.State.table_word.Goals as goal

pub returns-in_err-new-clause-some : goal.returns-in_err-new-clause-some
returns-in_err-new-clause-some c =
    let few = c.free_count.ensures.pool.few in
    let is_frame : c.args.frame < FRAMES_END = omega (arith, few, c.if-frame-frames.false, c.frames.ensures) in
    let some = c.in_err-new.ensures.some.1 is_frame in absurd cc
