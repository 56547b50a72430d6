-- Pieces of pages, in the order of their pages.
use Rattle.std.specs.Prelude.{ℕ, ◌+◌, ◌<◌, ◌≤◌, Bool, true, false, ◌&&◌, nat_le, if◌then◌else◌, List, [], ◌∷◌, Option, Some, None}
use Rattle.piece_tree.specs.declared.piece.PageState.{PageState}
use Rattle.piece_tree.specs.declared.piece.PageState.TheVariants.{Free, Live, Retired}
use Rattle.piece_tree.specs.declared.piece.Piece.{Piece}
use Rattle.piece_tree.specs.declared.piece.TheConstants.{NUMBERS_END}

abbrev pub is_free : PageState → Bool
is_free Free = true
is_free Live = false
is_free Retired = false

-- at least one page, and no number that a sum would overflow
abbrev pub IsPiece : Piece → Type 0
IsPiece p = (p.first ≤ p.last) × (p.last < NUMBERS_END)

-- the page lies in the piece
abbrev pub Holds : Piece → ℕ → Type 0
Holds p page = (p.first ≤ page) × (page ≤ p.last)

-- the piece has a page of those from a first to a last one
abbrev pub HasAny : Piece → (first last : ℕ) → Type 0
HasAny p first last = (p.first ≤ last) × (first ≤ p.last)

-- pieces, none below this page, and each behind the one before it
abbrev pub AreSorted : ℕ → List Piece → Type 0
AreSorted from [] = Unit {0}
AreSorted from (p ∷ ps) = (from ≤ p.first) × IsPiece p × AreSorted (p.last + 1) ps

-- the piece that a page lies in
unfoldable pub piece_at : List Piece → ℕ → Option Piece
piece_at [] page = None
piece_at (p ∷ ps) page = if nat_le p.first page && nat_le page p.last then Some p else piece_at ps page
