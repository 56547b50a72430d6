use Rattle.piece_tree.proofs.shapes.Rising.{IsRising}
use Rattle.piece_tree.proofs.way.step_above.Given as goal

-- the steps that were passed go on behind their keys
abbrev pub invariant-loop-depth : goal.invariant-loop-depth
invariant-loop-depth l = IsRising l.way l.fn.steps l.depth

abbrev pub decreases-loop-depth : goal.decreases-loop-depth
decreases-loop-depth l = l.depth
