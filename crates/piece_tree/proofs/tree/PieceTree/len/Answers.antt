use Rattle.piece_tree.proofs.Names.{length, ap, sym, ◌∙◌}
use Rattle.piece_tree.proofs.shapes.Tall.{view_sorted, whole_view}
use Rattle.piece_tree.proofs.tree.PieceTree.len.Goals as goal

pub returns-clause-len : goal.returns-clause-len
returns-clause-len c = let i = c.self.invariant in c.len.ensures ∙ i.1.count ∙ ap length (sym (whole_view i.1) ∙ c.self.view_is)

pub returns-clause-sorted : goal.returns-clause-sorted
returns-clause-sorted c = view_sorted c.self.invariant.1 c.self.view_is
