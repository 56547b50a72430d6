use Rattle.std.proofs.Common.{false, [], ◌++◌, ◌∙◌, refl, ap}
use Rattle.std.proofs.lemmas.Result.{err_from_is_err_and}
use Rattle.dmatypes.specs.declared.call.Call.TheVariants as calls
use Rattle.dmatypes.specs.declared.reply.Reply.TheVariants as replies
use Rattle.quiet.specs.Quiet.{IsSound}
use Rattle.driven.proofs.Rows.{rows}
use Rattle.driven.proofs.Told.{has_sent, refused}
use Rattle.driven.proofs.Asked.{all_told, asks, nothing}
use Rattle.driven.proofs.InFrames.{none_in_frames}
use Rattle.driven.proofs.driven.Driven.begin.Goals as goal

pub returns-in_err-number-clause-effects : goal.returns-in_err-number-clause-effects
returns-in_err-number-clause-effects c =
    all_told _ _ _ _ _ c.forget.ensures.all (
    let p = err_from_is_err_and c.from_residual.result c.from_residual.ensures.1 in
    rw (p.1, p.2, ← c.self.view_is, ← c.deref_mut-state.ensures.value, c.forget.ensures.told)
    (refused c.deref_mut-state.result.now c.begin.new.self (calls.Begin c.args.domain) c.in_err-number.field-0.0 c.in_err-number.ensures))

pub send-requires-clause-sent : goal.send-requires-clause-sent
send-requires-clause-sent c =
    rw c.waits-waits.ensures
    (has_sent c.deref_mut-state.result.now c.begin.new.self (calls.Begin c.args.domain) (replies.Ticket c.args.domain c.in_ok-number.number)
    c.keeps.ensures.tickets c.in_ok-number.ensures)

pub returns-clause-effects : goal.returns-clause-effects
returns-clause-effects c =
    all_told _ _ _ _ _ c.forget.ensures.all (
    let sound : IsSound c.deref_mut-state.result.now = record { of_world = c.keeps.ensures.of_world; places = c.keeps.ensures.places } in
    let (more, items, sent) = c.send.ensures in
    rw (← c.self.view_is, ← c.deref_mut-state.ensures.value)
    (asks c.deref_mut-state.result.now c.begin.new.self (calls.Begin c.args.domain) (replies.Ticket c.args.domain c.in_ok-number.number)
    c.keeps.ensures.tickets c.in_ok-number.ensures c.waits-waits.result
    false [] more c.send.new.effects.items
    (nothing c.deref_mut-state.result.now c.begin.new.self (calls.Begin c.args.domain) (replies.Ticket c.args.domain
    c.in_ok-number.number) sound c.keeps.ensures.tickets c.in_ok-number.ensures
    (λ f k no. no) (rows c.deref_mut-state.result.now c.begin.new.self (calls.Begin c.args.domain) (replies.Ticket c.args.domain
    c.in_ok-number.number) c.in_ok-number.ensures.becomes))
    (λ other. none_in_frames) (items ∙ ap (λ xs. xs ++ more) c.forget.ensures.told) c.waits-waits.ensures refl sent tt))
