use Rattle.std.proofs.Common.{[], true, refl, sym}
use Rattle.std.proofs.lemmas.List.{append-nil}
use Rattle.std.proofs.lemmas.Result.{err_from_is_err_and}
use Rattle.dmatypes.specs.declared.call.Call.TheVariants as calls
use Rattle.dmatypes.specs.declared.reply.Reply.TheVariants.{Flushed}
use Rattle.quiet.specs.Quiet.{IsSound}
use Rattle.driven.proofs.Asked.{asks, nothing}
use Rattle.driven.proofs.InFrames.{none_in_frames}
use Rattle.driven.proofs.Rows.{rows}
use Rattle.driven.proofs.Told.{has_sent, refused}
use Rattle.driven.proofs.detaching.tell_flush.Goals as goal

pub returns-in_err-released-clause-effects : goal.returns-in_err-released-clause-effects
returns-in_err-released-clause-effects c =
    let p = err_from_is_err_and c.from_residual.result c.from_residual.ensures.1 in (
      [],
      sym (append-nil c.args.effects.now.items),
      rw (p.1, p.2)
          (refused c.args.state.now c.flush.new.self (calls.Flush c.args.domain) c.in_err-released.field-0.0 c.in_err-released.ensures),
    )

pub send-requires-clause-sent : goal.send-requires-clause-sent
send-requires-clause-sent c =
    rw c.waits-waits.ensures
    (has_sent c.args.state.now c.flush.new.self (calls.Flush c.args.domain) (Flushed c.in_ok-released.released) c.keeps.ensures.tickets
    c.in_ok-released.ensures)

pub returns-clause-effects : goal.returns-clause-effects
returns-clause-effects c =
    let sound : IsSound c.args.state.now = record { of_world = c.keeps.ensures.of_world; places = c.keeps.ensures.places } in
    let (more, items, sent) = c.send.ensures in (
      more,
      items,
      asks c.args.state.now c.flush.new.self (calls.Flush c.args.domain) (Flushed c.in_ok-released.released) c.keeps.ensures.tickets
          c.in_ok-released.ensures c.waits-waits.result true [] more more
          (nothing c.args.state.now c.flush.new.self (calls.Flush c.args.domain) (Flushed c.in_ok-released.released) sound
          c.keeps.ensures.tickets c.in_ok-released.ensures (λ f k no. no)
          (rows c.args.state.now c.flush.new.self (calls.Flush c.args.domain) (Flushed c.in_ok-released.released)
          c.in_ok-released.ensures.becomes))
          (λ other. none_in_frames) refl c.waits-waits.ensures refl sent tt,
    )
