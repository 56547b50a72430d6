use Rattle.engine.proofs.maps.Segments.{IsCounted}
use Rattle.engine.proofs.request.pages_of.Given as goal

abbrev pub invariant-loop-segment : goal.invariant-loop-segment
invariant-loop-segment l = IsCounted l.fn.segments l.segment-index l.pages
