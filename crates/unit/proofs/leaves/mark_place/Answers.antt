use Rattle.std.proofs.Common.{arith}
use Rattle.unit.proofs.caches.Marks.{mark_set, marks_stay}
use Rattle.unit.proofs.leaves.mark_place.Goals as goal

pub returns-clause-kept : goal.returns-clause-kept
returns-clause-kept c = λ i mark. marks_stay c.args.marks.now c.args.place i (omega (arith, c.requires)) mark

pub returns-clause-marked : goal.returns-clause-marked
returns-clause-marked c = mark_set c.args.marks.now c.args.place (omega (arith, c.requires))
