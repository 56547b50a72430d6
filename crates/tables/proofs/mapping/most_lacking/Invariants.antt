use Rattle.std.proofs.Common.{ℕ, ◌-◌, ◌*◌, ◌≤◌, Bool}
use Rattle.dmatypes.specs.declared.width.TheConstants.{PAGES_END}
use Rattle.tables.specs.Tree.{Memory, sum_below}
use Rattle.tables.proofs.sums.OverSpans.{level_lacks}
use Rattle.tables.proofs.mapping.most_lacking.Given as goal

abbrev pub invariant-loop-wanted : goal.invariant-loop-wanted
invariant-loop-wanted l = record {
  enough : (m : Memory) (root : ℕ) (large : ℕ → Bool) → sum_below (level_lacks m l.level root large l.first l.end) (l.wanted - 1) ≤ l.most;
  small : l.most ≤ (l.wanted - 1) * PAGES_END;
}
