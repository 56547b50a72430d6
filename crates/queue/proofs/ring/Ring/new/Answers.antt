use Rattle.std.proofs.Common.{refl, arith, ap, ap₂, List}
use Rattle.std.specs.List.{filter_map}
use Rattle.vtdbits.specs.Descriptor.{descriptor_of}
use Rattle.vtdbits.specs.declared.descriptor.Descriptor.{Descriptor}
use Rattle.queue.specs.Ring.{ring_of}
use Rattle.queue.proofs.Taken.{taken-none}
use Rattle.queue.proofs.Waiting.{spelled-empty}
use Rattle.queue.proofs.Windows.{window-none}
use Rattle.queue.proofs.ring.Ring.new.Goals as goal

pub invariant_of-result : goal.invariant_of-result
invariant_of-result c = record { head_inside = omega arith; tail_inside = omega arith; pairs = refl; spelled = spelled-empty 0 _ }

pub returns : goal.returns
unfolding descriptor_of
returns c =
    ap₂ (λ (ws : List Descriptor) (ts : List Descriptor). ring_of ws 0 ts) (ap (filter_map descriptor_of) (window-none 0 _))
    (taken-none _ (record { low = 0; high = 0 }) refl refl)
