use Rattle.std.proofs.Common.{◌+◌, ◌<◌}
use Rattle.std.specs.Prelude.{nat_lt}
use Rattle.std.specs.List.{list_any}
use Rattle.std.proofs.lemmas.Bool.Decides.{Decides-at, Decides-ltb}
use Rattle.dmatypes.specs.declared.call.Segment.{Segment}
use Rattle.dmatypes.specs.declared.page.TheConstants.{FRAMES_END}
use Rattle.checker.proofs.lists.Members.{some_has}
use Rattle.checker.proofs.asking.has_far.Goals as goal

pub returns : goal.returns
returns c =
    Decides-at c.any_far.result (list_any (λ (s : Segment). nat_lt FRAMES_END (s.frame + s.pages)) c.args.segments.now) c.any_far.ensures
    (some_has (λ (s : Segment). nat_lt FRAMES_END (s.frame + s.pages)) (λ s. FRAMES_END < s.frame + s.pages)
    (λ s. Decides-ltb FRAMES_END (s.frame + s.pages)) c.args.segments.now)
