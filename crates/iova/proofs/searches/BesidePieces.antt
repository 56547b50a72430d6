-- The piece of a page is one of those in order.
use Rattle.iova.proofs.Names.{◌≡◌, ℕ, List, Option, Some, None, IfSome, sym, Piece, AreSorted, IsPiece, piece_at}
use Rattle.iova.proofs.Sorted.{sorted_in}
use Rattle.iova.proofs.searches.CutAt.{at_in}

pub piece_at_page : (ps : List Piece) (page : ℕ) (o : Option Piece) → o ≡ piece_at ps page → AreSorted 0 ps → IfSome o IsPiece
piece_at_page ps page None e s = tt
piece_at_page ps page (Some q) e s = sorted_in 0 ps q s (at_in ps page q (sym e)).0
