use Rattle.std.proofs.Common.{◌≡◌, length, Some, refl, sym, ap, subst, ◌∙◌, arith, add-one}
use Rattle.std.specs.Prelude.{slice_get}
use Rattle.std.proofs.lemmas.Bool.Decides.{when_true}
use Rattle.std.proofs.lemmas.Option.{slice_get_read}
use Rattle.dmatypes.specs.Step.{IsStep, next}
use Rattle.dmatypes.specs.World.{World}
use Rattle.checker.specs.World.{world_of}
use Rattle.checker.proofs.histories.Fronts.{after_more, legal_more}
use Rattle.checker.proofs.verdict.audit.Goals as goal

pub loop-event-preserved : goal.loop-event-preserved
loop-event-preserved c =
    let frames = c.args.table_frames in
    let history = c.args.history.now in
    let i = c.loop-event.event-index in
    let e = c.event-item.result in
    let at : slice_get history i ≡ Some e = slice_get_read history (length history) i e refl (omega
    (arith, c.loop-event-test.true)) c.event-item.is in
    let w : World = world_of c.loop-event.checker in
    let t : World = world_of c.judge.new.self in
    let had = c.loop-event.invariant.world in
    let judged =
    when_true (IsStep w e.call e.reply × (t ≡ next w e.call e.reply)) ((IsStep w e.call e.reply → ⊥) × (t ≡ w)) c.if-not-branch.false
    c.in_ok-judge.ensures in
    record {
      counted = omega (arith, c.loop-event.invariant.counted);
      world = rw add-one
          (judged.1 ∙ ap (λ (v : World). next v e.call e.reply) had ∙ sym (after_more frames i history e at));
      legal = rw add-one
          (legal_more frames i history e at c.loop-event.invariant.legal (subst (λ (v : World). IsStep v e.call e.reply) had judged.0));
    }
