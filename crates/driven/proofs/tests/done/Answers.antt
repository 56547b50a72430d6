use Rattle.std.proofs.Common.{◌≡◌, ℕ, ◌+◌, ◌≤◌, Option, None, Some, ap, arith, refl, subst}
use Rattle.std.specs.Prelude.{IfSome, IsNone}
use Rattle.engine.specs.Tickets.{KeepsTickets}
use Rattle.engine.proofs.caches.ReadyToSend.{waiting_few}
use Rattle.driven.specs.Driven.{Driven}
use Rattle.driven.specs.UpTo.{DoesUpTo}
use Rattle.driven.proofs.Stepped.{left_after}
use Rattle.driven.proofs.tests.done.Goals as goal

few_calls : (d e : Driven) (wait : ℕ) (r : Option ℕ) → KeepsTickets d.state → (IsNone r → e ≡ d)
    → IfSome r (λ steps. DoesUpTo d.state wait steps e.state) → e.state.calls ≤ d.state.calls + 128
few_calls d e wait None k same does =
    let calls = ap (λ (x : Driven). x.state.calls) (same refl) in omega (arith, calls)
few_calls d e wait (Some steps) k same does =
    let left = left_after d.state e.state steps does.does in
    omega (arith, left.calls, left.waiting, waiting_few d.state k, k.few)

pub returns : goal.returns
returns c =
    few_calls c.args.driven.now c.done_up_to.new.self c.args.wait c.done_up_to.result
    (subst KeepsTickets c.state.ensures c.keeps.ensures.tickets) c.done_up_to.ensures.same c.done_up_to.ensures.does
