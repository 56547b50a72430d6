use Rattle.std.proofs.Common.{true, ◌++◌, ◌∙◌, refl, ap}
use Rattle.std.proofs.lemmas.Result.{err_from_is_err_and}
use Rattle.dmatypes.specs.declared.call.Call.TheVariants as calls
use Rattle.dmatypes.specs.declared.reply.Reply.TheVariants as replies
use Rattle.quiet.specs.Quiet.{IsSound}
use Rattle.driven.proofs.Told.{has_sent, refused}
use Rattle.driven.proofs.Asked.{all_told, asks}
use Rattle.driven.proofs.Trees.{drop_brings}
use Rattle.driven.proofs.driven.Driven.drop_domain.Goals as goal

pub returns-in_err-drop_domain-clause-effects : goal.returns-in_err-drop_domain-clause-effects
returns-in_err-drop_domain-clause-effects c =
    all_told _ _ _ _ _ c.forget.ensures.all (
    let p = err_from_is_err_and c.from_residual.result c.from_residual.ensures.1 in
    rw (p.1, p.2, ← c.self.view_is, ← c.deref_mut-state.ensures.value, c.forget.ensures.told)
    (refused c.deref_mut-state.result.now c.drop_domain.new.self (calls.Drop c.args.domain) c.in_err-drop_domain.field-0.0
    c.in_err-drop_domain.ensures))

pub send-requires-clause-sent : goal.send-requires-clause-sent
send-requires-clause-sent c =
    rw c.waits-waits.ensures
    (has_sent c.deref_mut-state.result.now c.drop_domain.new.self (calls.Drop c.args.domain) (replies.Done) c.keeps.ensures.tickets
    c.in_ok-drop_domain.ensures)

pub returns-clause-effects : goal.returns-clause-effects
returns-clause-effects c =
    all_told _ _ _ _ _ c.forget.ensures.all (
    let sound : IsSound c.deref_mut-state.result.now = record { of_world = c.keeps.ensures.of_world; places = c.keeps.ensures.places } in
    let (more, items, sent) = c.send.ensures in
    let (es, items', few, brings) = c.bring_frames.ensures in
    rw (← c.self.view_is, ← c.deref_mut-state.ensures.value)
    (asks c.deref_mut-state.result.now c.drop_domain.new.self (calls.Drop c.args.domain) (replies.Done) c.keeps.ensures.tickets
    c.in_ok-drop_domain.ensures
    c.waits-waits.result true es more c.bring_frames.new.effects.items
    (drop_brings c.deref_mut-state.result.now c.drop_domain.new.self c.args.domain sound c.in_ok-drop_domain.ensures es brings)
    (λ other. absurd (other c.args.domain refl))
    (items' ∙ ap (λ xs. xs ++ es) (items ∙ ap (λ xs. xs ++ more) c.forget.ensures.told)) c.waits-waits.ensures refl sent tt))
