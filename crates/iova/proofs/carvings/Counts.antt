-- How many pieces there are once some were carved out of a free piece, and that fewer fit too.
use Rattle.iova.proofs.Names.{ℕ, ◌+◌, ◌≤◌, List, [], ◌∷◌, length, arith, subst, Option, None, Some, sym, nat_tests, IsIn, Stock, FollowOn}
use Rattle.iova.proofs.Names.{IsCarved, with_pieces, Piece, MOST_PIECES, Space, IsSpace, rest_below}
use Rattle.iova.proofs.carvings.InPlace.{counted, follow_le, free_piece}
use Rattle.iova.proofs.carvings.State.{Carving}

-- at most one piece is left before them
rest_few : (page : ℕ) (p : Piece) → length (rest_below page p) ≤ 1
rest_few page p = grind (arith, nat_tests)

-- each piece makes one more, and the first of them may make two
count_bounds : {a : Space} (sp : IsSpace a) (first last : ℕ) (there : IsIn (free_piece first last) a.pieces) (chain : List Piece)
    (begin end : ℕ) → first ≤ begin → FollowOn begin chain end → end ≤ last
    → (length a.pieces + length chain ≤ length (with_pieces chain a.pieces))
    × (length (with_pieces chain a.pieces) ≤ length a.pieces + length chain + 1)
count_bounds sp first last there [] begin end low f left = omega arith
count_bounds sp first last there (e ∷ es) begin end low f left =
    let some = follow_le (e.last + 1) es end f.3 in
    omega (arith, counted sp first last there (e ∷ es) begin end low f (omega arith) left, rest_few begin (free_piece first last))

-- where one piece less is carved, they fit
pub few_less : {a : Space} {first last : ℕ} {chain : List Piece} {begin end : ℕ} (c : Carving a first last chain begin end)
    (less : List Piece) (from to : ℕ) → first ≤ from → FollowOn from less to → to ≤ last → length less + 1 ≤ length chain
    → length (with_pieces less a.pieces) ≤ MOST_PIECES
few_less {first = first} {last = last} {chain = chain} {begin = begin} {end = end} c less from to low f left n =
    omega (
      arith,
      count_bounds c.space first last c.there less from to low f left,
      count_bounds c.space first last c.there chain begin end c.low c.follow c.left,
    )

-- the pieces that are carved are few
pub few_carved : (a : Space) (chain : List Piece) (known : Option Stock) → IsSpace a → IsCarved a.pieces chain known
    → (length (with_pieces chain a.pieces) ≤ length a.pieces + length chain + 1) × (length chain ≤ MOST_PIECES)
few_carved a chain None sp k =
    subst (λ l. (length (with_pieces l a.pieces) ≤ length a.pieces + length l + 1) × (length l ≤ MOST_PIECES)) (sym k) (omega arith)
few_carved a chain (Some stock) sp k =
    omega (arith, count_bounds sp stock.pages.first stock.pages.last k.there chain k.from k.end (omega arith) k.follow k.left)
