use Rattle.piece_tree.proofs.shapes.Tall.{none_view}
use Rattle.piece_tree.proofs.tree.PieceTree.clear.Goals as goal

pub returns : goal.returns
returns c = none_view c.clear.new.self
