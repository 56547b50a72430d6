use Rattle.std.proofs.Common.{◌≡◌, ◌+◌, drop}
use Rattle.dmatypes.specs.Conditions.{total_pages}
use Rattle.tables.specs.Segments.{rest_at, AreSegments}
use Rattle.tables.proofs.segments.rest_at.Given as goal

abbrev pub invariant-loop-segment : goal.invariant-loop-segment
invariant-loop-segment l = record {
  rest : rest_at l.segments l.first l.page ≡ rest_at (drop l.segment-index l.segments) l.start l.page;
  segments : AreSegments (drop l.segment-index l.segments);
  end : l.start + total_pages (drop l.segment-index l.segments) ≡ l.first + total_pages l.segments;
}
