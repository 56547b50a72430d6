use Rattle.std.proofs.Common.{[], refl}
use Rattle.driven.specs.declared.effect.Half.TheVariants.{High}
use Rattle.driven.proofs.Rows.{attached_half}
use Rattle.std.proofs.lemmas.Result.{err_from_is_err_and}
use Rattle.dmatypes.specs.declared.call.Call.TheVariants as calls
use Rattle.dmatypes.specs.declared.reply.Reply.TheVariants as replies
use Rattle.quiet.specs.Quiet.{IsSound}
use Rattle.driven.proofs.Rows.{rows}
use Rattle.driven.proofs.Told.{refused}
use Rattle.driven.proofs.Asked.{all_told, entry_in_frames, entry_told, one_for_entry, sends_none}
use Rattle.driven.proofs.driven.Driven.attach.Goals as goal

pub returns-in_err-attach-clause-effects : goal.returns-in_err-attach-clause-effects
returns-in_err-attach-clause-effects c =
    all_told _ _ _ _ _ c.forget.ensures.all (
    let p = err_from_is_err_and c.from_residual.result c.from_residual.ensures.1 in
    rw (p.1, p.2, ← c.self.view_is, ← c.deref_mut-state.ensures.value, c.forget.ensures.told)
    (refused c.deref_mut-state.result.now c.attach.new.self (calls.Attach c.args.device c.args.domain) c.in_err-attach.field-0.0
    c.in_err-attach.ensures))

pub returns-clause-effects : goal.returns-clause-effects
returns-clause-effects c =
    all_told _ _ _ _ _ c.forget.ensures.all (
    let sound : IsSound c.deref_mut-state.result.now = record { of_world = c.keeps.ensures.of_world; places = c.keeps.ensures.places } in
    rw (← c.self.view_is, ← c.deref_mut-state.ensures.value, c.push-2.ensures.items, c.push.ensures.items, c.forget.ensures.told)
    (record {
      quiet = tt;
      brought = entry_told c.args.device High;
      sent = [];
      brings = one_for_entry c.deref_mut-state.result.now c.attach.new.self (calls.Attach c.args.device c.args.domain) (replies.Done) sound
          c.keeps.ensures.tickets c.in_ok-attach.ensures
          (λ f k no. no) c.args.device High
          (attached_half c.deref_mut-state.result.now c.attach.new.self c.args.device c.args.domain sound c.in_ok-attach.ensures)
          (rows c.deref_mut-state.result.now c.attach.new.self (calls.Attach c.args.device c.args.domain)
          (replies.Done) c.in_ok-attach.ensures.becomes);
      sends = sends_none c.deref_mut-state.result.now c.attach.new.self (calls.Attach c.args.device c.args.domain) (replies.Done) sound
          c.keeps.ensures.tickets c.in_ok-attach.ensures
          (λ f k no. no) tt;
      ordered = refl;
      in_frames = λ other. entry_in_frames c.args.device High;
    }))
