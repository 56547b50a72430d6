use Rattle.std.proofs.Common.{◌≡◌, map, take}
use Rattle.vtdm_c.specs.Base.{numbered}
use Rattle.vtdm_c.specs.Segments.{named}
use Rattle.vtdm_c.proofs.segments.list_of.Given as goal

abbrev pub invariant-loop-segment : goal.invariant-loop-segment
invariant-loop-segment l = l.list.items ≡ map (numbered l.base.first) (named (take l.segment-index l.fn.segments))
