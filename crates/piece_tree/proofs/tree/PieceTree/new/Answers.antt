use Rattle.piece_tree.proofs.shapes.Tall.{none_view}
use Rattle.piece_tree.proofs.tree.PieceTree.new.Goals as goal

pub returns : goal.returns
returns c = none_view c.in_ok-nodes.nodes
