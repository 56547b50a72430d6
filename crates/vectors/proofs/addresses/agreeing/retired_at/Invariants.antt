use Rattle.std.proofs.Common.{length}
use Rattle.dmatypes.specs.World.{IsIn}
use Rattle.piece_tree.specs.declared.piece.Piece.{Piece}
use Rattle.vectors.proofs.addresses.agreeing.retired_at.Given as goal

-- the pieces that are left are pieces of the space
abbrev pub invariant-loop-piece : goal.invariant-loop-piece
invariant-loop-piece l = (q : Piece) → IsIn q l.pieces → IsIn q l.space.pieces

abbrev pub decreases-loop-piece : goal.decreases-loop-piece
decreases-loop-piece l = length l.pieces
