use Rattle.piece_tree.proofs.Names.{get, at_root}
use Rattle.piece_tree.proofs.shapes.Led.{node_height}
use Rattle.piece_tree.proofs.shapes.Shorter.{IsTelling}
use Rattle.piece_tree.proofs.search.are_short_before.Given as goal

-- what is left tells of all
abbrev pub invariant-loop-key : goal.invariant-loop-key
invariant-loop-key l = IsTelling l.nodes l.fn.root l.page l.pages l.at

abbrev pub decreases-loop-key : goal.decreases-loop-key
decreases-loop-key l = node_height (at_root (get l.nodes) l.at.root)
