use Rattle.piece_tree.proofs.Names.{◌+◌, ◌*◌, Some, get, at_root}
use Rattle.piece_tree.proofs.shapes.Led.{node_height}
use Rattle.piece_tree.proofs.laying.+remove_below.Given as goal

abbrev pub decreases-remove_below : goal.decreases-remove_below
decreases-remove_below l = 2 * node_height (at_root (get l.nodes.now) l.tree.root) + 1

abbrev pub decreases-remove_at : goal.decreases-remove_at
decreases-remove_at l = 2 * node_height (at_root (get l.nodes.now) (Some l.key))
