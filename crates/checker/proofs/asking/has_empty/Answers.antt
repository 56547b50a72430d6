use Rattle.std.proofs.Common.{◌≡◌}
use Rattle.std.specs.Prelude.{◌==◌}
use Rattle.std.specs.List.{list_any}
use Rattle.std.proofs.lemmas.Bool.Decides.{Decides-at, Decides-eqb}
use Rattle.dmatypes.specs.declared.call.Segment.{Segment}
use Rattle.checker.proofs.lists.Members.{some_has}
use Rattle.checker.proofs.asking.has_empty.Goals as goal

pub returns : goal.returns
returns c =
    Decides-at c.any_empty.result (list_any (λ (s : Segment). s.pages == 0) c.args.segments.now) c.any_empty.ensures
    (some_has (λ (s : Segment). s.pages == 0) (λ s. s.pages ≡ 0) (λ s. Decides-eqb s.pages 0) c.args.segments.now)
