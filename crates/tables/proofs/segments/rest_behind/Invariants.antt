use Rattle.std.proofs.Common.{◌-◌, length}
use Rattle.tables.specs.Segments.{ArePassed}
use Rattle.tables.proofs.segments.rest_behind.Given as goal

abbrev pub invariant-loop-passed : goal.invariant-loop-passed
invariant-loop-passed l = ArePassed l.segments l.first l.page l.passed

abbrev pub decreases-loop-passed : goal.decreases-loop-passed
decreases-loop-passed l = length l.segments - l.passed.count
