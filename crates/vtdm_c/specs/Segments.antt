-- The segments that C names, as a call has them.
use Rattle.std.specs.Prelude.{List, map}
use Rattle.dmatypes.specs.declared.call.Segment as call
use Rattle.vtdm_c.specs.declared.segments.Segment as c

abbrev pub same_segment : c.Segment → call.Segment
same_segment s = record { frame = s.frame; pages = s.pages }

abbrev pub named : List c.Segment → List call.Segment
named segments = map same_segment segments
