use Rattle.std.proofs.Common.{◌≤◌}
use Rattle.unit.specs.Answers.{IsLowest}
use Rattle.unit.proofs.lookups.lowest_table.Given as goal

-- no cached table of a level before serves
abbrev pub invariant-loop-level : goal.invariant-loop-level
invariant-loop-level l = (1 ≤ l.level) × IsLowest l.tables l.domain l.page l.level
