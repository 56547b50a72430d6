use Rattle.piece_tree.proofs.Names.{get, at_root}
use Rattle.piece_tree.proofs.shapes.Led.{node_height}
use Rattle.piece_tree.proofs.shapes.Sought.{IsNarrowing}
use Rattle.piece_tree.proofs.search.first_from.Given as goal

-- what was found is the first piece behind where was come to
abbrev pub invariant-loop-at : goal.invariant-loop-at
invariant-loop-at l = IsNarrowing l.nodes l.fn.root l.page l.at l.found

abbrev pub decreases-loop-at : goal.decreases-loop-at
decreases-loop-at l = node_height (at_root (get l.nodes) l.at)
