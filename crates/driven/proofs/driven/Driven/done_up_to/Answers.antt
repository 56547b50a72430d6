use Rattle.std.proofs.Common.{ap, arith}
use Rattle.engine.specs.declared.state.totals.Totals.{Totals}
use Rattle.driven.proofs.Stepped.{done_up_to}
use Rattle.driven.proofs.driven.Driven.done_up_to.Goals as goal

pub returns-clause-does : goal.returns-clause-does
returns-clause-does c =
    let pending = ap (λ (t : Totals). t.pending) c.totals.ensures in
    rw (← c.self.view_is, ← c.deref_mut-state.ensures.value)
    (done_up_to c.deref_mut-state.result.now c.do_oldest.new.state c.args.wait c.saturating_sub-steps.result c.keeps-2.ensures.tickets
    (omega (arith, c.waits.ensures, c.in_ok-later.ensures))
    (omega (arith, c.waits.ensures, c.in_ok-later.ensures, pending, c.saturating_sub-steps.ensures)) c.do_oldest.ensures)
