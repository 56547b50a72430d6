use Rattle.std.proofs.Common.{◌≡◌, Some, ap, sym, ◌∙◌}
use Rattle.std.specs.Option.{option_copied, option_map}
use Rattle.std.proofs.lemmas.Result.{IfOk-weaker}
use Rattle.dmatypes.specs.Allows.{domain_of_device}
use Rattle.checker.specs.World.{domain_of, world_of}
use Rattle.checker.proofs.calls.Expected.{allowed_to}
use Rattle.checker.proofs.checker.Checker.allowed.Goals as goal

pub returns-in-Some : goal.returns-in-Some
returns-in-Some c =
    let w = world_of c.args.self.now in
    let v = domain_of c.in-Some.domain.now in
    let is : domain_of_device w c.args.device ≡ Some v =
    sym c.domain_at.ensures ∙ ap (λ o. option_map domain_of (option_copied o)) c.in-Some.is in
    IfOk-weaker c.answers.result _ _
    (λ replies h. allowed_to w c.args.device c.args.address c.args.access replies.items v is h) c.answers.ensures
