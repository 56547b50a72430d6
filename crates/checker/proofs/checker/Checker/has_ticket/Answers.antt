use Rattle.std.proofs.Common.{◌≡◌, ap, ◌∙◌}
use Rattle.std.specs.Prelude.{◌==◌}
use Rattle.std.specs.List.{list_any}
use Rattle.std.proofs.lemmas.Bool.Decides.{Decides-at, Decides-eqb}
use Rattle.dmatypes.specs.World.{Ticket}
use Rattle.checker.proofs.lists.Members.{some_has}
use Rattle.checker.proofs.checker.Checker.has_ticket.Goals as goal

pub returns : goal.returns
returns c =
    let d = c.args.domain in
    Decides-at c.has_ticket_of.result (list_any (λ (t : Ticket). t.domain == d) c.args.self.now.tickets.items)
    (c.has_ticket_of.ensures ∙ ap (list_any (λ (t : Ticket). t.domain == d)) c.as_slice.ensures.value)
    (some_has (λ (t : Ticket). t.domain == d) (λ t. t.domain ≡ d) (λ t. Decides-eqb t.domain d) c.args.self.now.tickets.items)
