use Rattle.std.proofs.Common.{◌++◌, ◌∷◌, ◌∙◌, [], arith, ap, subst, sym, inl, inr, take}
use Rattle.std.proofs.lemmas.List.{take_all, take_more}
use Rattle.dmatypes.specs.World.{IsIn}
use Rattle.engine.specs.declared.ticket.Ticket.{Ticket}
use Rattle.engine.proofs.lists.Membership.{in_at, in_either}
use Rattle.engine.proofs.state.flushing.ticket_of.Goals.{else-number-domain-via-then-number-domain+else-ticket-number}
use Rattle.engine.proofs.state.flushing.ticket_of.Goals.{else-number-domain-via-else-number-domain}
use Rattle.engine.proofs.state.flushing.ticket_of.Goals as goal

pub returns-then-ticket-number-clause-some : goal.returns-then-ticket-number-clause-some
returns-then-ticket-number-clause-some c = (
  subst (λ x. IsIn x c.args.tickets.now) (sym c.ticket-item.is)
      (in_at c.args.tickets.now c.loop-ticket.ticket-index c.ticket-item.result c.loop-ticket-test.true),
  sym c.number.ensures.value ∙ c.if-number-domain.true,
  c.if-ticket-number.true,
)

pub loop-ticket-preserved : goal.loop-ticket-preserved
loop-ticket-preserved c t inside domain number =
    elim (in_either t c.ticket-item.result (take c.loop-ticket.ticket-index c.args.tickets.now) (subst (IsIn t)
    (take_more c.args.tickets.now c.loop-ticket.ticket-index c.ticket-item.result c.loop-ticket-test.true
    ∙ ap (λ x. take c.loop-ticket.ticket-index c.args.tickets.now ++ x ∷ []) (sym c.ticket-item.is)) inside)) [
      | inl before ↦ c.loop-ticket.invariant t before domain number
      | inr this ↦ elim c.else-number-domain.branch [
        | else-number-domain-via-then-number-domain+else-ticket-number w ↦
            w.if-ticket-number.false (sym (ap (λ (x : Ticket). x.number) this) ∙ number)
        | else-number-domain-via-else-number-domain w ↦
            w.if-number-domain.false (c.number.ensures.value ∙ sym (ap (λ (x : Ticket). x.domain) this) ∙ domain)
      ]
    ]

pub returns-clause-none : goal.returns-clause-none
returns-clause-none c t inside domain number =
    c.loop-ticket.invariant t (subst (IsIn t) (sym (take_all c.loop-ticket.ticket-index c.args.tickets.now
    (omega (arith, c.loop-ticket-test.false)))) inside) domain number
