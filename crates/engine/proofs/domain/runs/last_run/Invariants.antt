use Rattle.std.proofs.Common.{◌<◌, drop, length}
use Rattle.engine.specs.Ready.{IsRangeOf}
use Rattle.engine.proofs.domain.runs.last_run.Given as goal

abbrev pub invariant-loop-start : goal.invariant-loop-start
invariant-loop-start l = record {
  less : l.start < length l.records;
  of : IsRangeOf l.range (drop l.start l.records);
}

abbrev pub decreases-loop-start : goal.decreases-loop-start
decreases-loop-start l = l.start
