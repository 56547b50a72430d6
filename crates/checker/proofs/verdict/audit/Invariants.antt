use Rattle.std.proofs.Common.{◌≡◌, take}
use Rattle.dmatypes.specs.History.{IsLegal, after}
use Rattle.checker.specs.World.{world_of}
use Rattle.checker.proofs.verdict.audit.Given as goal

abbrev pub invariant-loop-event : goal.invariant-loop-event
invariant-loop-event l = record {
  counted : l.events ≡ l.event-index;
  world : world_of l.checker ≡ after l.table_frames (take l.event-index l.history);
  legal : IsLegal l.table_frames (take l.event-index l.history);
}
