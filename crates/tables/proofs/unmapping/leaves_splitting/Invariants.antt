use Rattle.std.proofs.Common.{◌≡◌, ◌-◌, ◌/◌, ◌≤◌}
use Rattle.dmatypes.specs.declared.page.TheConstants.{SPAN_PAGES}
use Rattle.tables.proofs.sums.OverSpans.{so_far, splitting_at}
use Rattle.tables.proofs.unmapping.leaves_splitting.Given as goal

abbrev pub invariant-loop-number : goal.invariant-loop-number
invariant-loop-number l = record {
  sum : l.count ≡ so_far (splitting_at l.pool l.level l.root l.from l.to) SPAN_PAGES l.from l.number;
  few : l.count ≤ l.number - l.from / SPAN_PAGES;
}
