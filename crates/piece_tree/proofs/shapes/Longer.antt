-- How many pieces there are at most, once a row of others was put over some of their pages.
use Rattle.piece_tree.proofs.Names.{ℕ, ◌+◌, ◌≤◌, List, [], ◌∷◌, length, arith, length-append, nat_tests, Piece, part_above}
use Rattle.piece_tree.proofs.Names.{part_below, with_row}
use Rattle.piece_tree.proofs.shapes.Laid.{above-short}

-- one piece alone is on both sides, at most
parts-short : (first last : ℕ) (ps : List Piece) → first ≤ last → length (part_below first ps) + length (part_above last ps) ≤ length ps + 1
unfolding part_above part_below
parts-short first last [] h = omega arith
parts-short first last (p ∷ ps) h =
    let x = parts-short first last ps h in
    let y = above-short last ps in
    grind (arith, nat_tests)

pub row-longer : (first last : ℕ) (row ps : List Piece) → first ≤ last → length (with_row first row last ps) ≤ length ps + length row + 1
row-longer first last row ps h = omega (arith, parts-short first last ps h, length-append {A = Piece})
