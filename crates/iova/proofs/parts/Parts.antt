-- Pieces in order, parted at one of them.
use Rattle.iova.proofs.Names.{◌≡◌, ℕ, ◌+◌, ◌<◌, ◌≤◌, List, [], ◌∷◌, ◌++◌, refl, arith, nat_tests, Piece, IsOrdered, part_below, part_above}

pub ordered_behind : (from : ℕ) (xs : List Piece) (p : Piece) (ys : List Piece) → IsOrdered from (xs ++ p ∷ ys) → IsOrdered (p.last + 1) ys
ordered_behind from [] p ys o = o.3
ordered_behind from (x ∷ xs) p ys o = ordered_behind (x.last + 1) xs p ys o.3

pub first_from : (from : ℕ) (xs : List Piece) (p : Piece) (ys : List Piece) → IsOrdered from (xs ++ p ∷ ys) → from ≤ p.first
first_from from [] p ys o = o.0
first_from from (x ∷ xs) p ys o = omega (arith, first_from (x.last + 1) xs p ys o.3, o.0, o.1)

pub some_page : (from : ℕ) (xs : List Piece) (p : Piece) (ys : List Piece) → IsOrdered from (xs ++ p ∷ ys) → p.first ≤ p.last
some_page from [] p ys o = o.1
some_page from (x ∷ xs) p ys o = some_page (x.last + 1) xs p ys o.3

-- what lies below a page that no page of the piece is below
pub below_before : (xs : List Piece) (q : Piece) (ys : List Piece) (page : ℕ) → page ≤ q.last → page ≤ q.first
    → part_below page (xs ++ q ∷ ys) ≡ part_below page xs
unfolding part_below
below_before [] q ys page h l = grind (arith, nat_tests)
below_before (x ∷ xs) q ys page h l = let e = below_before xs q ys page h l in grind (arith, nat_tests)

pub below_whole : (from : ℕ) (xs : List Piece) (q : Piece) (ys : List Piece) (page : ℕ) → IsOrdered from (xs ++ q ∷ ys) → q.first ≤ page
    → part_below page xs ≡ xs
unfolding part_below
below_whole from [] q ys page o h = refl
below_whole from (x ∷ xs) q ys page o h =
    let e = below_whole (x.last + 1) xs q ys page o.3 h in
    let b = first_from (x.last + 1) xs q ys o.3 in grind (arith, nat_tests)

-- what lies above a page
pub above_whole : (from page : ℕ) (ys : List Piece) → IsOrdered from ys → page < from → part_above page ys ≡ ys
unfolding part_above
above_whole from page [] o h = refl
above_whole from page (y ∷ ys) o h = grind (arith, nat_tests)
