use Rattle.std.proofs.Common.{◌<◌}
use Rattle.std.specs.Prelude.{nat_lt}
use Rattle.std.specs.List.{list_any}
use Rattle.std.proofs.lemmas.Bool.Decides.{Decides-at, Decides-ltb}
use Rattle.dmatypes.specs.declared.call.Segment.{Segment}
use Rattle.checker.proofs.lists.Members.{some_has}
use Rattle.checker.proofs.asking.has_frame_below.Goals as goal

pub returns : goal.returns
returns c =
    Decides-at c.any_below.result (list_any (λ (s : Segment). nat_lt s.frame c.args.frames) c.args.segments.now) c.any_below.ensures
    (some_has (λ (s : Segment). nat_lt s.frame c.args.frames) (λ s. s.frame < c.args.frames)
    (λ s. Decides-ltb s.frame c.args.frames) c.args.segments.now)
