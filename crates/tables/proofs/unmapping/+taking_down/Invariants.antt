use Rattle.std.proofs.Common.{◌*◌, ◌-◌}
use Rattle.tables.specs.Trail.{EndsInOrder}
use Rattle.tables.proofs.unmaps.Destroyed.{IsTakingDown}
use Rattle.tables.proofs.unmapping.+taking_down.Given as goal

abbrev pub decreases-take_down : goal.decreases-take_down
decreases-take_down l = 2 * l.level

abbrev pub decreases-take_down_entry : goal.decreases-take_down_entry
decreases-take_down_entry l = 2 * l.level - 1

abbrev pub invariant-take_down-loop-index : goal.invariant-take_down-loop-index
invariant-take_down-loop-index l = record {
  state : IsTakingDown l.initial.pool l.pool l.level l.table l.index;
  order : EndsInOrder l.initial.pool l.pool l.level l.table;
}
