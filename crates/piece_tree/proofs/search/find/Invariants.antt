use Rattle.piece_tree.proofs.Names.{Some}
use Rattle.piece_tree.proofs.shapes.Led.{IsLookingIn, node_height}
use Rattle.piece_tree.proofs.search.find.Given as goal

-- the page lies where was come to
abbrev pub invariant-loop-node : goal.invariant-loop-node
invariant-loop-node l = IsLookingIn l.nodes l.fn.root l.page l.node

abbrev pub decreases-loop-node : goal.decreases-loop-node
decreases-loop-node l = node_height (Some l.node)
