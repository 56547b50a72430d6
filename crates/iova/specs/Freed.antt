-- Free pieces that touch pages, and pages that come free.
use Rattle.std.specs.Prelude.{ℕ, ◌+◌, ◌&&◌, nat_eq, if◌then◌else◌, List, [], ◌∷◌}
use Rattle.piece_tree.specs.declared.piece.PageState.TheVariants.{Free}
use Rattle.piece_tree.specs.declared.piece.Piece.{Piece}
use Rattle.piece_tree.specs.Laid.{with_piece}
use Rattle.piece_tree.specs.Pieces.{is_free}

-- the first page of the free piece that ends just before a page, or that page
unfoldable pub free_start : List Piece → ℕ → ℕ
free_start [] first = first
free_start (p ∷ ps) first = if is_free p.state && nat_eq (p.last + 1) first then p.first else free_start ps first

-- the last page of the free piece that begins just after a page, or that page
unfoldable pub free_end : List Piece → ℕ → ℕ
free_end [] last = last
free_end (p ∷ ps) last = if is_free p.state && nat_eq p.first (last + 1) then p.last else free_end ps last

-- the pages of this one and of the free ones that it touches, as one free piece
abbrev pub widened : Piece → List Piece → Piece
widened p pieces = record { first = free_start pieces p.first; last = free_end pieces p.last; state = Free }

-- the pieces once the pages of this one are free, as one piece with the free ones that it touches
abbrev pub with_free : Piece → List Piece → List Piece
with_free p pieces = with_piece (widened p pieces) pieces
