use Rattle.piece_tree.proofs.shapes.Lifted.{IsLifting}
use Rattle.piece_tree.proofs.way.lift.Given as goal

-- what lies at the place that was come to, whichever tree lay at the end of the way
abbrev pub invariant-loop-depth : goal.invariant-loop-depth
invariant-loop-depth l = IsLifting l.fn.nodes l.nodes l.way l.fn.steps l.fn.root l.fn.longest l.depth l.now

abbrev pub decreases-loop-depth : goal.decreases-loop-depth
decreases-loop-depth l = l.depth
