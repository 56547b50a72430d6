use Rattle.std.proofs.Common.{◌≤◌, arith}
use Rattle.std.proofs.lemmas.Result.{IfOk-weaker}
use Rattle.dmatypes.specs.Page.{addresses_end}
use Rattle.checker.proofs.worlds.Reached.{stale_allowed}
use Rattle.checker.proofs.domain.Domain.answers.Goals as goal

pub returns-in-None : goal.returns-in-None
returns-in-None c =
    let d = c.args.self.now in
    IfOk-weaker c.stale_answers.result _ _ (λ replies is.
    stale_allowed d c.args.address c.args.access replies.items
    (λ (beyond : addresses_end d.width ≤ c.args.address).
    omega (arith, beyond, c.if-address-addresses_end.false, c.addresses_end.ensures)) c.in-None.ensures is) c.stale_answers.ensures
