use Rattle.std.proofs.Common.{rules}
use Rattle.std.specs.Prelude.{not}
use Rattle.std.proofs.lemmas.Fn.{filter_same}
use Rattle.dmatypes.specs.World.{is_ticket}
use Rattle.checker.proofs.checker.remove_ticket.Goals as goal

pub returns : goal.returns
returns c =
    filter_same _ (λ t. not (is_ticket (record { domain = c.args.domain; number = c.args.number }) t)) _ (λ x b f k. search rules) _ _
    c.retain.ensures.filtered
