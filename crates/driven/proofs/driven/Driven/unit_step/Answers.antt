use Rattle.dmatypes.specs.declared.call.Call.TheVariants as calls
use Rattle.dmatypes.specs.declared.reply.Reply.TheVariants as replies
use Rattle.quiet.specs.Quiet.{IsSound}
use Rattle.driven.proofs.Asked.{all_told, asks_nothing}
use Rattle.driven.proofs.Rows.{rows}
use Rattle.driven.proofs.driven.Driven.unit_step.Goals as goal

pub returns-clause-effects : goal.returns-clause-effects
returns-clause-effects c =
    all_told _ _ _ _ _ c.forget.ensures.all (
    let sound : IsSound c.deref_mut-state.result.now = record { of_world = c.keeps.ensures.of_world; places = c.keeps.ensures.places } in
    rw (← c.self.view_is, ← c.deref_mut-state.ensures.value, c.forget.ensures.told)
    (asks_nothing c.deref_mut-state.result.now c.unit_step.new.self (calls.Unit) (replies.Stepped c.unit_step.result) sound
    c.keeps.ensures.tickets c.unit_step.ensures (λ f k no. no) tt
    (rows c.deref_mut-state.result.now c.unit_step.new.self (calls.Unit) (replies.Stepped c.unit_step.result) c.unit_step.ensures.becomes)))
