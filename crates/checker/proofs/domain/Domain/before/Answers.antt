use Rattle.std.proofs.Common.{ap, sym, ◌∙◌}
use Rattle.std.specs.Prelude.{count_by}
use Rattle.dmatypes.specs.World as world
use Rattle.checker.specs.World.{retired_of}
use Rattle.checker.proofs.lists.Members.{count_by-map}
use Rattle.checker.proofs.domain.Domain.before.Goals as goal

pub returns : goal.returns
returns c =
    c.count_before.ensures ∙ ap (count_by (λ r. world.is_before c.args.number (retired_of r))) c.as_slice.ensures.value
    ∙ sym (count_by-map retired_of (world.is_before c.args.number) c.args.self.now.retired.items)
