use Rattle.std.proofs.Common.{List, [], ◌∷◌, ◌++◌, ◌∙◌, true, refl, sym, ap, arith}
use Rattle.driven.specs.declared.effect.Half.TheVariants.{Low}
use Rattle.driven.proofs.Rows.{detached_half}
use Rattle.std.proofs.lemmas.List.{append-nil, append_assoc}
use Rattle.std.proofs.lemmas.Result.{err_from_is_err_and}
use Rattle.dmatypes.specs.declared.call.Call.TheVariants as calls
use Rattle.dmatypes.specs.declared.reply.Reply.TheVariants.{Done}
use Rattle.quiet.specs.Quiet.{IsSound}
use Rattle.driven.specs.declared.effect.Effect.{Effect}
use Rattle.driven.specs.declared.effect.Effect.TheVariants.{Barrier, Context}
use Rattle.driven.proofs.Asked.{asks, entry_in_frames, entry_told, one_for_entry}
use Rattle.driven.proofs.Rows.{rows}
use Rattle.driven.proofs.Told.{few_sent, has_sent, refused}
use Rattle.driven.proofs.detaching.tell_detach.Goals as goal

pub returns-in_err-detach-clause-effects : goal.returns-in_err-detach-clause-effects
returns-in_err-detach-clause-effects c =
    let p = err_from_is_err_and c.from_residual.result c.from_residual.ensures.1 in (
      [],
      sym (append-nil c.args.effects.now.items),
      omega arith,
      rw (p.1, p.2)
          (refused c.args.state.now c.detach.new.self (calls.Detach c.args.device) c.in_err-detach.field-0.0 c.in_err-detach.ensures),
    )

pub send-requires-clause-sent : goal.send-requires-clause-sent
send-requires-clause-sent c =
    rw c.waits-waits.ensures
    (has_sent c.args.state.now c.detach.new.self (calls.Detach c.args.device) Done c.keeps.ensures.tickets c.in_ok-detach.ensures)

pub returns-clause-effects : goal.returns-clause-effects
returns-clause-effects c =
    let sound : IsSound c.args.state.now = record { of_world = c.keeps.ensures.of_world; places = c.keeps.ensures.places } in
    let (more, items, sent) = c.send.ensures in
    let old : List Effect = c.args.effects.now.items in
    let told : List Effect = entry_told c.args.device Low in (
      told ++ more,
      items ∙ ap (λ xs. xs ++ more) (c.push-2.ensures.items ∙ ap (λ xs. xs ++ Barrier ∷ []) c.push.ensures.items
          ∙ append_assoc old (Context c.args.device Low ∷ []) (Barrier ∷ [])) ∙ append_assoc old told more,
      omega (arith, few_sent c.detach.new.self c.waits-waits.result true more sent),
      asks c.args.state.now c.detach.new.self (calls.Detach c.args.device) Done c.keeps.ensures.tickets c.in_ok-detach.ensures
          c.waits-waits.result true told more (told ++ more)
          (one_for_entry c.args.state.now c.detach.new.self (calls.Detach c.args.device) Done sound c.keeps.ensures.tickets
          c.in_ok-detach.ensures (λ f k no. no) c.args.device Low
          (detached_half c.args.state.now c.detach.new.self c.args.device c.in_ok-detach.ensures.becomes)
          (rows c.args.state.now c.detach.new.self (calls.Detach c.args.device) Done c.in_ok-detach.ensures.becomes))
          (λ other. entry_in_frames c.args.device Low) refl c.waits-waits.ensures refl sent tt,
    )
