use Rattle.std.proofs.Common.{◌≡◌, take}
use Rattle.dmatypes.specs.World.{IsIn}
use Rattle.engine.specs.declared.ticket.Ticket.{Ticket}
use Rattle.engine.proofs.state.flushing.has_ticket.Given as goal

-- none of the tickets before
abbrev pub invariant-loop-ticket : goal.invariant-loop-ticket
invariant-loop-ticket l = (t : Ticket) → IsIn t (take l.ticket-index l.tickets) → t.domain ≡ l.id → ⊥
