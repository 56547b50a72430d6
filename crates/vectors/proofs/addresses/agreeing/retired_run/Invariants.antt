use Rattle.std.proofs.Common.{◌≡◌, ℕ, ◌<◌, ◌≤◌, length}
use Rattle.dmatypes.specs.World.{IsIn}
use Rattle.piece_tree.specs.Pieces.{Holds}
use Rattle.piece_tree.specs.declared.piece.Piece.{Piece}
use Rattle.piece_tree.specs.declared.piece.PageState.TheVariants.{Retired}
use Rattle.vectors.proofs.addresses.agreeing.retired_run.Given as goal

-- the pieces that are left are pieces of the space, and each page of the run lies in a retired piece of it that is within the run
abbrev pub invariant-loop-piece : goal.invariant-loop-piece
invariant-loop-piece l =
    ((q : Piece) → IsIn q l.pieces → IsIn q l.space.pieces)
    × (l.first ≤ l.end)
    × ((page : ℕ) → l.first ≤ page → page < l.end
    → (p : Piece) × IsIn p l.space.pieces × Holds p page × (p.state ≡ Retired) × (l.first ≤ p.first) × (p.last < l.end))

abbrev pub decreases-loop-piece : goal.decreases-loop-piece
decreases-loop-piece l = length l.pieces
