-- Pieces that are carved out of a free piece, and that the tree doesn't show yet. That free piece is their stock, and the tree still has it
-- whole. Of something that was sought it is known that nothing begins from its floor on and before the stock. It is what the stock was
-- found for, or one page. With the pieces put over those of the tree, that is what the space is. As a list, the pieces and what is left on
-- both sides of them stand in the place of the stock (`in_place_of`).
use Rattle.std.specs.Prelude.{ℕ, ◌≡◌, ◌≢◌, ◌+◌, ◌^◌, ◌≤◌, ◌⊎◌, max, List, [], ◌∷◌, ◌++◌, nat_eq, if◌then◌else◌, length, Option, Some, None}
use Rattle.piece_tree.specs.declared.piece.PageState.{PageState}
use Rattle.piece_tree.specs.declared.piece.Piece.{Piece}
use Rattle.piece_tree.specs.declared.piece.PageState.TheVariants.{Free}
use Rattle.iova.specs.declared.ends.Ends.{Ends}
use Rattle.iova.specs.declared.carved.Stock.{Stock}
use Rattle.iova.specs.declared.carved.Sought.{Sought}
use Rattle.piece_tree.specs.declared.piece.TheConstants.{MOST_PIECES}
use Rattle.dmatypes.specs.declared.limits.TheConstants.{MOST_ORDER}
use Rattle.dmatypes.specs.declared.page.TheConstants.{MOST_PAGES}
use Rattle.piece_tree.specs.Laid.{with_piece}
use Rattle.iova.specs.Space.{Space, IsFit}
use Rattle.iova.specs.Pieces.{pages_as}
use Rattle.dmatypes.specs.World.{IsIn}

-- the pieces once others are put over them, one after the other
abbrev pub with_pieces : List Piece → List Piece → List Piece
with_pieces [] pieces = pieces
with_pieces (p ∷ ps) pieces = with_pieces ps (with_piece p pieces)

-- the space once pieces are put over its own
abbrev pub with_carved : List Piece → Space → Space
with_carved chain space = record space { pieces = with_pieces chain space.pieces }

-- pieces in use from a page on, each right behind the one before it, and the page behind them
abbrev pub FollowOn : ℕ → List Piece → ℕ → Type 0
FollowOn from [] end = from ≡ end
FollowOn from (p ∷ ps) end = (p.first ≡ from) × (p.first ≤ p.last) × (p.state ≢ Free) × FollowOn (p.last + 1) ps end

-- so many pages, at least one, at a multiple of a power of two, from a floor on
pub record IsSought (sought : Sought) : Type 0 where
  pub floor : 1 ≤ sought.floor
  pub some : 1 ≤ sought.pages
  pub few : sought.pages ≤ MOST_PAGES
  pub power : (order : ℕ) × (order ≤ MOST_ORDER) × (sought.unit ≡ 2 ^ order)

-- nothing of what is sought begins at or above the floor and below the page
abbrev pub NoneBelow : Sought → ℕ → List Piece → Type 0
NoneBelow sought page pieces = (start : ℕ) → IsFit pieces sought.pages sought.unit start → sought.floor ≤ start → page ≤ start

-- the pieces lie one behind the other in a free piece, at or above the floor, some of it is left behind them, and there is room for all
pub record AreCarved (pieces chain : List Piece) (stock : Stock) : Type 0 where
  pub there : IsIn (pages_as stock.pages Free) pieces
  pub sought : IsSought stock.sought
  pub none : NoneBelow stock.sought stock.pages.first pieces
  pub from : ℕ
  pub end : ℕ
  pub low : max stock.pages.first stock.sought.floor ≤ from
  pub follow : FollowOn from chain end
  pub left : end ≤ stock.pages.last
  pub few : length (with_pieces chain pieces) ≤ MOST_PIECES

-- so many pages from a start on lie right behind the pieces, and some of the free piece is left behind them
abbrev pub CanCarve : List Piece → Stock → ℕ → ℕ → Type 0
CanCarve chain stock start pages =
    (from : ℕ) × (max stock.pages.first stock.sought.floor ≤ from) × FollowOn from chain start × (start + pages ≤ stock.pages.last)

-- one of the pieces has these pages, with so many before it
abbrev pub IsAt : List Piece → Ends → ℕ → Type 0
IsAt chain pages place = (before : List Piece) × (state : PageState) × (behind : List Piece)
    × (chain ≡ before ++ pages_as pages state ∷ behind) × (place ≡ length before)

-- the piece with these pages, which was the first or the last, is there no more
abbrev pub LosesEnd : List Piece → List Piece → Ends → Type 0
LosesEnd old new pages = (before : List Piece) × (state : PageState) × (behind : List Piece)
    × (old ≡ before ++ pages_as pages state ∷ behind) × ((before ≡ []) ⊎ (behind ≡ [])) × (new ≡ before ++ behind)

-- no piece is carved, or these are
abbrev pub IsCarved : List Piece → List Piece → Option Stock → Type 0
IsCarved pieces chain None = chain ≡ []
IsCarved pieces chain (Some stock) = AreCarved pieces chain stock

-- the pieces where others stand in the place of the one that begins at a page
abbrev pub in_place_of : ℕ → List Piece → List Piece → List Piece
in_place_of first chain [] = []
in_place_of first chain (p ∷ ps) = if nat_eq p.first first then chain ++ ps else p ∷ in_place_of first chain ps

-- free pages, if there are some
abbrev pub free_of : Option Ends → List Piece
free_of None = []
free_of (Some ends) = pages_as ends Free ∷ []
