use Rattle.std.proofs.Common.{ℕ, [], Ok, Err, Result, subst, sym}
use Rattle.dmatypes.specs.declared.call.Call.TheVariants as calls
use Rattle.dmatypes.specs.declared.call.Mode.{Mode}
use Rattle.dmatypes.specs.declared.refusal.Refusal.{Refusal}
use Rattle.dmatypes.specs.declared.reply.Reply.TheVariants.{Made}
use Rattle.dmatypes.specs.declared.width.Width.{Width}
use Rattle.engine.specs.State.{State, made_reply}
use Rattle.engine.specs.Steps.{Does}
use Rattle.engine.specs.Tickets.{KeepsTickets}
use Rattle.quiet.specs.Quiet.{IsSound}
use Rattle.driven.specs.Effects.{AreEffects}
use Rattle.driven.proofs.Asked.{all_told, asks_nothing}
use Rattle.driven.proofs.Rows.{rows}
use Rattle.driven.proofs.Told.{refused}
use Rattle.driven.proofs.driven.Driven.domain.Goals as goal

asked : (m t : State) (mode : Mode) (width : Width) (r : Result ℕ Refusal) → IsSound m → KeepsTickets m
    → Does m (calls.Domain mode width) (made_reply r) t → AreEffects m (calls.Domain mode width) (made_reply r) t []
asked m t mode width (Ok d) sound tickets does =
    let call = calls.Domain mode width in
    asks_nothing m t call (Made d) sound tickets does (λ f k no. no) tt (rows m t call (Made d) does.becomes)
asked m t mode width (Err r) sound tickets does = refused m t (calls.Domain mode width) r does

pub returns-clause-effects : goal.returns-clause-effects
returns-clause-effects c =
    all_told _ _ _ _ _ c.forget.ensures.all (
    let sound : IsSound c.deref_mut-state.result.now = record { of_world = c.keeps.ensures.of_world; places = c.keeps.ensures.places } in
    subst (λ es. AreEffects c.args.self.now.state (calls.Domain c.args.mode c.args.width) (made_reply c.domain.result) c.domain.new.self es)
    (sym c.forget.ensures.told)
    (rw (← c.self.view_is, ← c.deref_mut-state.ensures.value)
    (asked c.deref_mut-state.result.now c.domain.new.self c.args.mode c.args.width c.domain.result sound
    c.keeps.ensures.tickets c.domain.ensures)))
