use Rattle.piece_tree.proofs.Names.{Some}
use Rattle.piece_tree.proofs.shapes.Led.{node_height}
use Rattle.piece_tree.proofs.shapes.Sought.{IsBeginningIn}
use Rattle.piece_tree.proofs.search.starting_at.Given as goal

-- what begins at the page lies where was come to
abbrev pub invariant-loop-node : goal.invariant-loop-node
invariant-loop-node l = IsBeginningIn l.nodes l.fn.root l.page l.node

abbrev pub decreases-loop-node : goal.decreases-loop-node
decreases-loop-node l = node_height (Some l.node)
