use Rattle.piece_tree.proofs.Names.{get, at_root}
use Rattle.piece_tree.proofs.shapes.Led.{IsWalking, node_height}
use Rattle.piece_tree.proofs.way.walk.Given as goal

-- the way so far leads to where the page lies
abbrev pub invariant-loop-at : goal.invariant-loop-at
invariant-loop-at l = IsWalking l.nodes l.fn.root l.first l.last l.way l.at l.depth

abbrev pub decreases-loop-at : goal.decreases-loop-at
decreases-loop-at l = node_height (at_root (get l.nodes) l.at)
