-- A piece put over others, and a row of pieces.
use Rattle.std.specs.Prelude.{ℕ, ◌≡◌, ◌+◌, ◌-◌, ◌≤◌, nat_lt, nat_le, Bool, true, false, if◌then◌else◌, List, [], ◌∷◌, ◌++◌}
use Rattle.piece_tree.specs.declared.piece.Piece.{Piece}

-- what is left of a piece below a page, and above one
abbrev pub rest_below : ℕ → Piece → List Piece
rest_below page p = if nat_lt p.first page then record p { last = page - 1 } ∷ [] else []

abbrev pub rest_above : ℕ → Piece → List Piece
rest_above page p = if nat_lt page p.last then record p { first = page + 1 } ∷ [] else []

-- what pieces have below a page: whole pieces, and what is left of the one that goes on past it
unfoldable pub part_below : ℕ → List Piece → List Piece
part_below page [] = []
part_below page (p ∷ ps) =
    if nat_lt p.last page then p ∷ part_below page ps
    else rest_below page p

-- what pieces have above a page: what is left of the one that began before it, and whole pieces
unfoldable pub part_above : ℕ → List Piece → List Piece
part_above page [] = []
part_above page (p ∷ ps) =
    if nat_le p.last page then part_above page ps
    else (if nat_le p.first page then record p { first = page + 1 } ∷ ps else p ∷ ps)

-- the same by a side, before the page or behind it
abbrev pub rest_beside : (before : Bool) → ℕ → Piece → List Piece
rest_beside true page p = rest_below page p
rest_beside false page p = rest_above page p

-- the same by a side
abbrev pub part_beside : (before : Bool) → ℕ → List Piece → List Piece
part_beside true page ps = part_below page ps
part_beside false page ps = part_above page ps

-- the pieces once the pages of this one are this one, and all other pages lie as before
abbrev pub with_piece : Piece → List Piece → List Piece
with_piece p pieces = part_below p.first pieces ++ p ∷ part_above p.last pieces

-- pieces from a page on, each right behind the one before it, and the page behind them
abbrev pub IsRow : ℕ → List Piece → ℕ → Type 0
IsRow from [] end = from ≡ end
IsRow from (p ∷ ps) end = (p.first ≡ from) × (p.first ≤ p.last) × IsRow (p.last + 1) ps end

-- the pieces once the pages from a first to a last one are a row, and all other pages lie as before
abbrev pub with_row : ℕ → List Piece → ℕ → List Piece → List Piece
with_row first row last pieces = part_below first pieces ++ (row ++ part_above last pieces)
