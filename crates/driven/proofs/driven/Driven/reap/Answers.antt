use Rattle.std.proofs.Common.{ℕ, [], None, Some, Ok, Err, Option, Result}
use Rattle.dmatypes.specs.declared.call.Call.TheVariants as calls
use Rattle.dmatypes.specs.declared.refusal.Refusal.{Refusal}
use Rattle.dmatypes.specs.declared.reply.Reply.{Reply}
use Rattle.dmatypes.specs.declared.reply.Reply.TheVariants as replies
use Rattle.engine.specs.State.{State, reaped_reply}
use Rattle.engine.specs.Steps.{Does}
use Rattle.engine.specs.Tickets.{KeepsTickets}
use Rattle.quiet.specs.Quiet.{IsSound}
use Rattle.driven.specs.Effects.{AreEffects}
use Rattle.driven.proofs.Asked.{all_told, asks_nothing}
use Rattle.driven.proofs.Rows.{rows}
use Rattle.driven.proofs.Told.{refused}
use Rattle.driven.proofs.driven.Driven.reap.Goals as goal

answered : (m t : State) (d n : ℕ) (reply : Reply) → IsSound m → KeepsTickets m → Does m (calls.Reap d n) reply t
    → AreEffects m (calls.Reap d n) reply t []
answered m t d n reply sound tickets does =
    asks_nothing m t (calls.Reap d n) reply sound tickets does (λ f k no. no) tt (rows m t (calls.Reap d n) reply does.becomes)

asked : (m t : State) (d n : ℕ) (r : Result (Option ℕ) Refusal) → IsSound m → KeepsTickets m
    → Does m (calls.Reap d n) (reaped_reply r) t → AreEffects m (calls.Reap d n) (reaped_reply r) t []
asked m t d n (Ok (Some k)) sound tickets does = answered m t d n (replies.Reaped k) sound tickets does
asked m t d n (Ok None) sound tickets does = answered m t d n replies.Pending sound tickets does
asked m t d n (Err r) sound tickets does = refused m t (calls.Reap d n) r does

pub returns-clause-effects : goal.returns-clause-effects
returns-clause-effects c =
    all_told _ _ _ _ _ c.forget.ensures.all (
    let sound : IsSound c.deref_mut-state.result.now = record { of_world = c.keeps.ensures.of_world; places = c.keeps.ensures.places } in
    rw (← c.self.view_is, ← c.deref_mut-state.ensures.value, c.forget.ensures.told)
    (asked c.deref_mut-state.result.now c.reap.new.self c.args.domain c.args.number c.reap.result sound c.keeps.ensures.tickets
    c.reap.ensures))
