use Rattle.piece_tree.proofs.Names.{◌+◌, ◌*◌, Some, get, at_root}
use Rattle.piece_tree.proofs.shapes.Led.{node_height}
use Rattle.piece_tree.proofs.grafts.+add.Given as goal

abbrev pub decreases-add : goal.decreases-add
decreases-add l = 2 * l.tree.height + 1

abbrev pub decreases-add_end : goal.decreases-add_end
decreases-add_end l = 2 * node_height (at_root (get l.nodes.now) (Some l.key))
