use Rattle.std.proofs.Common.{sym, rules}
use Rattle.vtdbits.specs.Descriptor.{Spells}
use Rattle.vtdbits.specs.declared.descriptor.Descriptor.{Descriptor}
use Rattle.vtdbits.proofs.Descriptors.{descriptor_of-none}
use Rattle.vtdbits.proofs.descriptor.Descriptor.decode.Goals as goal

pub returns-in_default-clause-read : goal.returns-in_default-clause-read
returns-in_default-clause-read c =
    let none : (d : Descriptor) → Spells c.args.words d → ⊥ = search rules in
    sym (descriptor_of-none c.args.words none)
