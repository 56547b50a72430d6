use Rattle.std.proofs.Common.{ap, ◌∙◌}
use Rattle.std.specs.List.{list_any}
use Rattle.std.proofs.lemmas.Bool.Decides.{Decides-at}
use Rattle.dmatypes.specs.World.{Ticket, is_ticket}
use Rattle.checker.proofs.worlds.Attached.{same_ticket}
use Rattle.checker.proofs.lists.Members.{is_in}
use Rattle.checker.proofs.checker.Checker.is_open.Goals as goal

pub returns : goal.returns
returns c =
    let t : Ticket = record { domain = c.args.domain; number = c.args.number } in
    Decides-at c.has.result (list_any (is_ticket t) c.args.self.now.tickets.items)
    (c.has.ensures ∙ ap (list_any (is_ticket t)) c.as_slice.ensures.value)
    (is_in (is_ticket t) t (same_ticket t) c.args.self.now.tickets.items)
