use Rattle.std.proofs.Common.{subst}
use Rattle.dmatypes.specs.World.{World, empty}
use Rattle.dmatypes.proofs.histories.Entered.{after_from-push}
use Rattle.manager.specs.Words.{AreFilled}
use Rattle.manager.proofs.words.Entered.{hit_after, words_cleared, words_lawful}
use Rattle.manager.proofs.entering.enter.Goals as goal

pub append-requires-clause-lawful : goal.append-requires-clause-lawful
append-requires-clause-lawful c =
    rw (c.clear.ensures.same.0, c.clear.ensures.same.1)
    (words_lawful c.args.state.now c.args.desk.now.rows.frames c.args.desk.now.history c.args.event.now c.rows_to_clear-devices.result
    c.args.desk.now.last c.clear.new.desk.last c.requires.legal c.requires.lawful c.requires.state c.args.detail.now c.requires.unmapped
    c.rows_to_clear-devices.ensures c.clear.ensures.words)

pub fill-requires-clause-hit : goal.fill-requires-clause-hit
fill-requires-clause-hit c =
    rw (c.append.ensures.history, c.append.ensures.same.0, c.clear.ensures.same.0, c.clear.ensures.same.1, c.hit.ensures)
    (hit_after c.args.desk.now.rows.frames c.args.desk.now.history c.args.event.now _ c.requires.hit)

pub fill-requires-clause-lawful : goal.fill-requires-clause-lawful
fill-requires-clause-lawful c =
    rw (c.append.ensures.history, c.append.ensures.same.0, c.append.ensures.same.1, c.clear.ensures.same.0, c.clear.ensures.same.1)
    (words_lawful c.args.state.now c.args.desk.now.rows.frames c.args.desk.now.history c.args.event.now c.rows_to_clear-devices.result
    c.args.desk.now.last c.clear.new.desk.last c.requires.legal c.requires.lawful c.requires.state c.args.detail.now c.requires.unmapped
    c.rows_to_clear-devices.ensures c.clear.ensures.words)

pub returns-clause-last : goal.returns-clause-last
returns-clause-last c = record {
  between = c.clear.new.desk.last;
  cleared =
      words_cleared c.args.state.now c.args.desk.now.rows.frames c.args.desk.now.history c.args.event.now c.rows_to_clear-devices.result
      c.args.desk.now.last c.clear.new.desk.last c.requires.legal c.requires.lawful c.requires.state c.args.detail.now c.requires.unmapped
      c.rows_to_clear-devices.ensures c.clear.ensures.words;
  filled =
      subst (λ (w : World). AreFilled w c.args.event.now.call c.args.event.now.reply c.clear.new.desk.last c.fill.new.desk.last)
      (after_from-push (empty c.args.desk.now.rows.frames) c.args.desk.now.history c.args.event.now)
      (rw (c.append.ensures.history, c.append.ensures.same.0, c.append.ensures.same.1, c.clear.ensures.same.0, c.clear.ensures.same.1) at
      c.fill.ensures.filled);
}
