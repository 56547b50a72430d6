use Rattle.std.proofs.Common.{rules}
use Rattle.std.specs.Prelude.{not}
use Rattle.std.proofs.lemmas.Fn.{filter_same}
use Rattle.dmatypes.specs.World as world
use Rattle.checker.specs.World.{retired_of}
use Rattle.checker.proofs.domain.keep_later.Goals as goal

pub returns : goal.returns
returns c = filter_same _ (λ r. not (world.is_before c.args.number (retired_of r))) _
    (λ x b f k. search rules) _ _ c.retain.ensures.filtered
