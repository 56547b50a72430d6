-- The pieces of a tree, with the chain and what is left of the free piece in the place of that.
use Rattle.iova.proofs.Names.{◌≡◌, ℕ, ◌+◌, ◌-◌, ◌<◌, ◌≤◌, List, [], ◌∷◌, ◌++◌, refl, Option, Some, None, IfSome, IfNone, arith}
use Rattle.iova.proofs.Names.{append_assoc, nat_tests, Ends, Stock, Piece, AreCarved, free_of, in_place_of, with_pieces, IsOrdered, Space}
use Rattle.iova.proofs.Names.{IsSpace, rest_below}
use Rattle.iova.proofs.parts.Added.{rest_below-none, rest_below-some}
use Rattle.iova.proofs.parts.Parts.{first_from}
use Rattle.iova.proofs.carvings.InPlace.{before, behind, free_piece, row_is, was, was_ordered}

placed : (n first last : ℕ) (chain xs ys : List Piece) → IsOrdered n (xs ++ free_piece first last ∷ ys)
    → in_place_of first chain (xs ++ free_piece first last ∷ ys) ≡ xs ++ (chain ++ ys)
placed n first last chain [] ys o = grind (arith, nat_tests)
placed n first last chain (x ∷ xs) ys o =
    let b = first_from (x.last + 1) xs (free_piece first last) ys o.3 in
    let e = placed (x.last + 1) first last chain xs ys o.3 in grind (arith, nat_tests)

-- the free pages from a first to a last one
abbrev pub Between : ℕ → ℕ → Option Ends → Type 0
Between first last o =
    IfSome o (λ ends. (ends.first ≡ first) × (ends.last ≡ last) × (first ≤ last)) × IfNone o (last < first)

free_is : (first last end page : ℕ) (o : Option Ends) → page ≡ last + 1 → Between first last o
    → free_of o ≡ rest_below page (free_piece first end)
free_is first last end page None e b = cc (rest_below-none page (free_piece first end) (omega (arith, b.1)))
free_is first last end page (Some ends) e b =
    let f : page - 1 ≡ last = omega arith in cc (rest_below-some page (free_piece first end) (omega (arith, b.0.2)))

pub all_placed : (a : Space) (chain : List Piece) (stock : Stock) (sp : IsSpace a) (c : AreCarved a.pieces chain stock)
    (low high : Option Ends) → c.from < c.end → Between stock.pages.first (c.from - 1) low → Between c.end stock.pages.last high
    → in_place_of stock.pages.first (free_of low ++ chain ++ free_of high) a.pieces ≡ with_pieces chain a.pieces
all_placed a chain stock sp c low high some b h =
    let first = stock.pages.first in
    let last = stock.pages.last in
    let xs = before sp first last c.there in
    let ys = behind sp first last c.there in
    let rest : List Piece = rest_below c.from (free_piece first last) in
    let left : List Piece = free_piece c.end last ∷ [] in
    let same : last + 1 - 1 ≡ last = omega arith in
    let apart : xs ++ ((rest ++ chain ++ left) ++ ys) ≡ (xs ++ rest) ++ (chain ++ free_piece c.end last ∷ ys) = simp append_assoc in
    cc (
      was sp first last c.there,
      placed 1 first last (free_of low ++ chain ++ free_of high) xs ys (was_ordered sp first last c.there),
      free_is first (c.from - 1) last c.from low (omega (arith, c.low, c.sought.floor)) b,
      free_is c.end last (last + 1) (last + 1) high refl h,
      rest_below-some (last + 1) (free_piece c.end (last + 1)) (omega (arith, c.left)),
      apart,
      row_is sp first last c.there chain c.from c.end (omega (arith, c.low)) c.follow some c.left,
    )
