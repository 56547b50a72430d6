use Rattle.dmatypes.specs.Conditions.{total_pages}
use Rattle.dmatypes.specs.World.{AreFreePages}
use Rattle.checker.specs.Pages.{range}
use Rattle.checker.specs.World.{world_of}
use Rattle.checker.proofs.calls.Asked.{filled_segments, near_frames, some_and_at}
use Rattle.checker.proofs.calls.Judged.{free_there}
use Rattle.checker.proofs.checker.Checker.judge_map.Goals as goal

pub map-requires-clause-some : goal.map-requires-clause-some
map-requires-clause-some c = filled_segments c.args.segments.now c.args.order c.args.rights c.in-Some.ensures.0.0.1.0

pub map-requires-clause-frames : goal.map-requires-clause-frames
map-requires-clause-frames c = near_frames c.args.segments.now c.args.order c.args.rights c.in-Some.ensures.0.0.1.0

pub map-requires-clause-free : goal.map-requires-clause-free
map-requires-clause-free c = λ v is.
    let w = world_of c.args.self.now in
    some_and_at (λ u. AreFreePages u (range c.in-Some.first (total_pages c.args.segments.now))) (w.domains c.args.domain) v is
    (free_there w c.args.domain c.args.segments.now c.args.order c.args.rights c.args.reply c.in-Some.first c.in-Some.ensures)
