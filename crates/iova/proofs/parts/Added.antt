-- What is left of a piece that another is put over.
use Rattle.iova.proofs.Names.{◌≡◌, ℕ, ◌+◌, ◌-◌, ◌<◌, ◌≤◌, List, [], ◌∷◌, ◌++◌, arith, nat_tests, Piece, IsOrdered, part_below, part_above}
use Rattle.iova.proofs.Names.{with_piece, rest_below, rest_above}
use Rattle.iova.proofs.parts.Parts.{above_whole, first_from}

-- ---- what is left of a place

pub rest_below-some : (page : ℕ) (p : Piece) → p.first < page → rest_below page p ≡ record p { last = page - 1 } ∷ []
rest_below-some page p h = grind (arith, nat_tests)

pub rest_below-none : (page : ℕ) (p : Piece) → page ≤ p.first → rest_below page p ≡ []
rest_below-none page p h = grind (arith, nat_tests)

pub rest_above-some : (page : ℕ) (p : Piece) → page < p.last → rest_above page p ≡ record p { first = page + 1 } ∷ []
rest_above-some page p h = grind (arith, nat_tests)

pub rest_above-none : (page : ℕ) (p : Piece) → p.last ≤ page → rest_above page p ≡ []
rest_above-none page p h = grind (arith, nat_tests)

-- ---- a piece put over one that it meets

pub below_meets : (from : ℕ) (xs : List Piece) (q : Piece) (ys : List Piece) (page : ℕ) → IsOrdered from (xs ++ q ∷ ys) → page ≤ q.last
    → part_below page (xs ++ q ∷ ys) ≡ part_below page xs ++ rest_below page q
unfolding part_below
below_meets from [] q ys page o h = grind (arith, nat_tests)
below_meets from (x ∷ xs) q ys page o h =
    let e = below_meets (x.last + 1) xs q ys page o.3 h in
    let b = first_from (x.last + 1) xs q ys o.3 in grind (arith, nat_tests)

pub above_meets : (from : ℕ) (xs : List Piece) (q : Piece) (ys : List Piece) (page : ℕ) → IsOrdered from (xs ++ q ∷ ys) → q.first ≤ page
    → part_above page (xs ++ q ∷ ys) ≡ rest_above page q ++ part_above page ys
unfolding part_above
above_meets from [] q ys page o h = let w = above_whole (q.last + 1) page ys o.3 in grind (arith, nat_tests)
above_meets from (x ∷ xs) q ys page o h =
    let e = above_meets (x.last + 1) xs q ys page o.3 h in
    let b = first_from (x.last + 1) xs q ys o.3 in grind (arith, nat_tests)

pub with_over : (from : ℕ) (xs : List Piece) (q : Piece) (ys : List Piece) (p : Piece) → IsOrdered from (xs ++ q ∷ ys) → p.first ≤ q.last
    → q.first ≤ p.last
    → with_piece p (xs ++ q ∷ ys) ≡ (part_below p.first xs ++ rest_below p.first q) ++ p ∷ (rest_above p.last q ++ part_above p.last ys)
with_over from xs q ys p o h k = cc (below_meets from xs q ys p.first o h, above_meets from xs q ys p.last o k)
