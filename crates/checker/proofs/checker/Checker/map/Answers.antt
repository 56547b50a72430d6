use Rattle.std.proofs.Common.{ap, sym, ◌∙◌}
use Rattle.std.specs.Option.{option_copied_mut, option_map}
use Rattle.checker.specs.World.{domain_of}
use Rattle.checker.proofs.checker.Checker.map.Goals as goal

pub map-requires-clause-free : goal.map-requires-clause-free
map-requires-clause-free c =
    c.requires.free (domain_of c.in-Some.domain.now)
    (ap (option_map domain_of) (sym c.get_mut.ensures.value ∙ ap option_copied_mut c.in-Some.is))
