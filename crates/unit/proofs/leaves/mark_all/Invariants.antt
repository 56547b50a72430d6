use Rattle.std.proofs.Common.{take}
use Rattle.unit.specs.Marks.{AreMarked}
use Rattle.unit.proofs.leaves.mark_all.Given as goal

-- the leaves that were passed are marked
abbrev pub invariant-loop-leaf : goal.invariant-loop-leaf
invariant-loop-leaf l = AreMarked l.marks (take l.leaf-index l.leaves)
