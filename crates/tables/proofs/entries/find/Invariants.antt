use Rattle.std.proofs.Common.{◌≡◌, ◌≤◌}
use Rattle.tables.specs.Tree.{states}
use Rattle.tables.specs.Pool.{memory, IsTree}
use Rattle.tables.proofs.entries.find.Given as goal

abbrev pub invariant-loop-height : goal.invariant-loop-height
invariant-loop-height l = record {
  low : 1 ≤ l.height;
  high : l.height ≤ 4;
  tree : IsTree l.pool l.height l.at;
  same : states (memory l.pool.words) l.fn.level l.fn.table l.page ≡ states (memory l.pool.words) l.height l.at l.page;
}

abbrev pub decreases-loop-height : goal.decreases-loop-height
decreases-loop-height l = l.height
