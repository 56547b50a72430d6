use Rattle.piece_tree.proofs.Names.{get}
use Rattle.piece_tree.proofs.shapes.Fitting.{IsFitting, how_much}
use Rattle.piece_tree.proofs.search.go_fit.Given as goal

-- no piece that was passed has room, and the way so far leads to the next one
abbrev pub invariant-loop-at : goal.invariant-loop-at
invariant-loop-at l = IsFitting l.nodes l.fn.root l.way l.at l.depth l.low l.passed l.fn.floor l.pages l.unit

abbrev pub decreases-loop-at : goal.decreases-loop-at
decreases-loop-at l = how_much (get l.nodes) l.way l.at l.depth l.passed
