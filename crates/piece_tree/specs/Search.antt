-- What a search in pieces finds.
use Rattle.std.specs.Prelude.{ℕ, ◌≡◌, ◌+◌, ◌%◌, ◌<◌, ◌≤◌, ◌⊎◌, max, nat_le, IsTrue}
use Rattle.std.specs.Prelude.{if◌then◌else◌, List, [], ◌∷◌, ◌++◌, Option, Some, None}
use Rattle.std.specs.List.{AllByRecursion}
use Rattle.piece_tree.specs.declared.node.Node.{Node}
use Rattle.piece_tree.specs.declared.piece.Piece.{Piece}
use Rattle.piece_tree.specs.Pieces.{is_free, piece_at}
use Rattle.piece_tree.specs.Tree.{free_pages}

-- the first of the pieces, or this where there is none
abbrev pub first_or : List Piece → Option Piece → Option Piece
first_or [] other = other
first_or (p ∷ ps) other = Some p

abbrev pub first_of : List Piece → Option Piece
first_of ps = first_or ps None

-- the pieces that begin at a page or behind it
unfoldable pub pieces_from : ℕ → List Piece → List Piece
pieces_from page [] = []
pieces_from page (p ∷ ps) = if nat_le page p.first then p ∷ ps else pieces_from page ps

-- the piece that begins at a page, if one does
abbrev pub IsStarting : ℕ → List Piece → Option Piece → Type 0
IsStarting page ps None = (p : Piece) → piece_at ps page ≡ Some p → p.first ≡ page → ⊥
IsStarting page ps (Some p) = (p.first ≡ page) × (piece_at ps page ≡ Some p)

-- it begins at the page or behind it, or fewer pages of it are free
abbrev pub IsShortBefore : (page pages : ℕ) → Piece → Type 0
IsShortBefore page pages p = p.first < page → free_pages p < pages

-- ---- starts

-- the first multiple of the unit from a page on
abbrev pub IsRoundUp : ℕ → ℕ → ℕ → Type 0
IsRoundUp page unit up = (up % unit ≡ 0) × (page ≤ up) × ((other : ℕ) → other % unit ≡ 0 → page ≤ other → up ≤ other)

-- no aligned range of that length lies in the piece from the floor on, or it isn't free
abbrev pub HasNoRoom : ℕ → ℕ → ℕ → Piece → Type 0
HasNoRoom floor pages unit p = IsTrue (is_free p.state) → (t : ℕ) → max p.first floor ≤ t → t % unit ≡ 0 → t + pages ≤ p.last + 1 → ⊥

-- all that is free before the node's piece is shorter, or no aligned range of that length from the floor on ends before it
abbrev pub IsNarrowBefore : ℕ → ℕ → ℕ → Node → Type 0
IsNarrowBefore floor pages unit node = (node.left.longest < pages)
    ⊎ ((least : ℕ) × IsRoundUp floor unit least × (node.piece.first < least + pages))

-- the first aligned range of that length in the piece from the floor on begins there
pub record IsStartIn (floor pages unit : ℕ) (piece : Piece) (start : ℕ) : Type 0 where
  pub free : IsTrue (is_free piece.state)
  pub up : IsRoundUp (max piece.first floor) unit start
  pub room : start + pages ≤ piece.last + 1

-- the piece is the first that has room from the floor on, and the start the first in it
pub record IsFound (floor pages unit : ℕ) (pieces : List Piece) (start : ℕ) (piece : Piece) : Type 0 where
  pub before : List Piece
  pub behind : List Piece
  pub parts : pieces ≡ before ++ piece ∷ behind
  pub none : AllByRecursion (HasNoRoom floor pages unit) before
  pub here : IsStartIn floor pages unit piece start
