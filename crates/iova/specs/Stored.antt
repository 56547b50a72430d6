-- A space as it is kept. A piece that came free since may still stand in the tree as live: the space shows it as free, and as one with the
-- free pieces that it touches.
use Rattle.std.specs.Prelude.{ℕ, ◌≡◌, ◌<◌, ◌≤◌, ◌⊎◌, List, ◌∷◌, ◌++◌, Option, Some, None, IfSome}
use Rattle.std.specs.List.{AllByRecursion}
use Rattle.dmatypes.specs.World.{IsIn}
use Rattle.piece_tree.specs.declared.piece.Piece.{Piece}
use Rattle.piece_tree.specs.declared.piece.PageState.TheVariants.{Free, Live}
use Rattle.piece_tree.specs.declared.piece.TheConstants.{NUMBERS_END}
use Rattle.piece_tree.specs.Laid.{with_piece}
use Rattle.piece_tree.specs.Pieces.{AreSorted}
use Rattle.iova.specs.declared.ends.Ends.{Ends}
use Rattle.iova.specs.Freed.{with_free}
use Rattle.iova.specs.Pieces.{IsOrdered, pages_as}
use Rattle.iova.specs.Space.{Space}

-- a last page and these pieces
abbrev pub stored : ℕ → List Piece → Space
stored last pieces = record { last = last; pieces = pieces }

-- the pieces that a space shows, of those in its tree: one that came free since is free, and one with the free ones that it
-- touches
abbrev pub shown : Option Ends → List Piece → List Piece
shown None pieces = pieces
shown (Some pages) pieces = with_free (pages_as pages Live) pieces

-- the pages, if some are known, are a live piece
abbrev pub AreLive : Option Ends → List Piece → Type 0
AreLive known pieces = IfSome known (λ pages. IsIn (pages_as pages Live) pieces)

-- the same pieces, where it is known how far that free piece goes
abbrev pub with_freed : Option Ends → List Piece → List Piece
with_freed None pieces = pieces
with_freed (Some ends) pieces = with_piece (pages_as ends Free) pieces

-- one piece takes the place of whole ones: a first one, which begins where it does, and the rest
pub record TakesPlace (ends : Ends) (pieces : List Piece) : Type 0 where
  pub before : List Piece
  pub first : Piece
  pub rest : List Piece
  pub behind : List Piece
  pub parts : pieces ≡ before ++ first ∷ rest ++ behind
  pub begins : first.first ≡ ends.first
  pub within : AllByRecursion (λ p. p.first ≤ ends.last) rest
  pub now : with_piece (pages_as ends Free) pieces ≡ before ++ pages_as ends Free ∷ behind

-- the page is the first of these pages, or none of them
abbrev pub IsFirstOrNone : Ends → ℕ → Type 0
IsFirstOrNone ends page = (page ≤ ends.first) ⊎ (ends.last < page)

-- the pieces from a page on can be listed, with a free one in the place of others: those are whole ones, and the page is the
-- first of its pages or none of them
pub record CanList (pieces : List Piece) (freed : Option Ends) (page : ℕ) : Type 0 where
  pub kept : IsOrdered 1 pieces
  pub sorted : AreSorted 0 pieces
  pub ordered : IsOrdered 1 (with_freed freed pieces)
  pub place : IfSome freed (λ ends. TakesPlace ends pieces)
  pub narrow : IfSome freed (λ ends. ends.last < NUMBERS_END)
  pub outside : IfSome freed (λ ends. IsFirstOrNone ends page)
