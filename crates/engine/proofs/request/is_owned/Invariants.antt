use Rattle.std.proofs.Common.{drop}
use Rattle.engine.specs.Judged.{AreOwned}
use Rattle.engine.proofs.request.is_owned.Given as goal

-- none of the segments before
abbrev pub invariant-loop-segment : goal.invariant-loop-segment
invariant-loop-segment l = AreOwned l.fn.frames l.fn.segments → AreOwned l.fn.frames (drop l.segment-index l.fn.segments)
