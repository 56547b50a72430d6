use Rattle.std.proofs.Common.{◌≡◌, ◌-◌, ◌*◌, ◌≤◌}
use Rattle.dmatypes.specs.declared.width.TheConstants.{PAGES_END}
use Rattle.tables.specs.Tree.{sum_below}
use Rattle.tables.proofs.sums.OverSpans.{level_lacking}
use Rattle.tables.proofs.mapping.tables_lacking.Given as goal

abbrev pub invariant-loop-wanted : goal.invariant-loop-wanted
invariant-loop-wanted l = record {
  sum : l.count ≡ sum_below (level_lacking l.pool l.level l.root l.segments l.first l.end) (l.wanted - 1);
  small : l.count ≤ (l.wanted - 1) * PAGES_END;
}
