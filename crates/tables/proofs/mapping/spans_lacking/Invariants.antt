use Rattle.std.proofs.Common.{◌≡◌, ◌-◌, ◌/◌, ◌≤◌}
use Rattle.tables.proofs.sums.OverSpans.{so_far, lacking_at}
use Rattle.tables.proofs.mapping.spans_lacking.Given as goal

abbrev pub invariant-loop-number : goal.invariant-loop-number
invariant-loop-number l = record {
  sum : l.count ≡ so_far (lacking_at l.pool l.level l.root l.segments l.first l.wanted) l.width l.first l.number;
  few : l.count ≤ l.number - l.first / l.width;
}
