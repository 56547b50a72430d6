use Rattle.std.proofs.Common.{subst}
use Rattle.dmatypes.specs.World.{IsIn}
use Rattle.unit.proofs.caches.Marks.{fewer_marked}
use Rattle.unit.proofs.caches.Members.{in_remove}
use Rattle.unit.proofs.leaves.MarkedLeaves.evict.Goals as goal

pub invariant_of-self : goal.invariant_of-self
invariant_of-self c =
    fewer_marked c.self.inside.marks c.self.inside.list c.evict.new.self c.self.invariant
    (λ l there. in_remove l c.self.inside.list c.args.place (subst (IsIn l) c.evict.ensures.items there))
