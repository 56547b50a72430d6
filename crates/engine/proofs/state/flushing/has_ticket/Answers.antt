use Rattle.std.proofs.Common.{◌≡◌, ◌==◌, ◌++◌, ◌∷◌, ◌∙◌, [], true, false, arith, ap, subst, sym, inl, inr, take}
use Rattle.std.proofs.lemmas.Bool.Decides.{nat_tests}
use Rattle.std.proofs.lemmas.List.{take_all, take_more}
use Rattle.dmatypes.specs.World.{IsIn}
use Rattle.engine.specs.declared.ticket.Ticket.{Ticket}
use Rattle.engine.proofs.lists.Membership.{in_at, in_either}
use Rattle.engine.proofs.state.flushing.has_ticket.Goals as goal

pub returns-then-eq-clause-some : goal.returns-then-eq-clause-some
returns-then-eq-clause-some c told = (
  c.ticket-item.result,
  subst (λ x. IsIn x c.args.tickets.now) (sym c.ticket-item.is)
      (in_at c.args.tickets.now c.loop-ticket.ticket-index c.ticket-item.result c.loop-ticket-test.true),
  let test : (c.ticket-item.result.domain == c.args.id) ≡ true = sym c.eq.ensures ∙ c.if-eq.true in grind (arith, nat_tests, test),
)

pub loop-ticket-preserved : goal.loop-ticket-preserved
loop-ticket-preserved c t inside domain =
    elim (in_either t c.ticket-item.result (take c.loop-ticket.ticket-index c.args.tickets.now) (subst (IsIn t)
    (take_more c.args.tickets.now c.loop-ticket.ticket-index c.ticket-item.result c.loop-ticket-test.true
    ∙ ap (λ x. take c.loop-ticket.ticket-index c.args.tickets.now ++ x ∷ []) (sym c.ticket-item.is)) inside)) [
      | inl before ↦ c.loop-ticket.invariant t before domain
      | inr this ↦
          let test : (c.ticket-item.result.domain == c.args.id) ≡ false = sym c.eq.ensures ∙ c.if-eq.false in
          let same : c.ticket-item.result.domain ≡ c.args.id = sym (ap (λ (x : Ticket). x.domain) this) ∙ domain in
          grind (arith, nat_tests, test, same)
    ]

pub returns-clause-none : goal.returns-clause-none
returns-clause-none c untold t inside domain =
    c.loop-ticket.invariant t (subst (IsIn t) (sym (take_all c.loop-ticket.ticket-index c.args.tickets.now
    (omega (arith, c.loop-ticket-test.false)))) inside) domain
