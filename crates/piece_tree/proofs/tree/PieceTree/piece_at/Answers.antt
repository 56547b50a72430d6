use Rattle.piece_tree.proofs.shapes.Tall.{view_sorted}
use Rattle.piece_tree.proofs.tree.PieceTree.piece_at.Goals as goal

pub returns-clause-sorted : goal.returns-clause-sorted
returns-clause-sorted c = view_sorted c.self.invariant.1 c.self.view_is
