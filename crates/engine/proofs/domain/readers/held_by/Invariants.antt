use Rattle.std.proofs.Common.{◌≡◌, ◌*◌, ◌≤◌, take}
use Rattle.engine.specs.Totals.{held_by}
use Rattle.engine.proofs.domain.readers.held_by.Given as goal

abbrev pub invariant-loop-record : goal.invariant-loop-record
invariant-loop-record l = record {
  so_far : l.held ≡ held_by (take l.record-index l.records);
  few : l.held ≤ 8 * l.record-index;
}
