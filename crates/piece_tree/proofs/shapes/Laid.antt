-- Pieces in order, at a page: what they have below it and above it, and on which side of a piece the page lies.
use Rattle.piece_tree.proofs.Names.{◌≡◌, ℕ, ◌+◌, ◌<◌, ◌≤◌, Bool, true, false, List, [], ◌∷◌, ◌++◌, length, refl, arith, nat_tests}
use Rattle.piece_tree.proofs.Names.{AllByRecursion, Piece, NUMBERS_END, IsRow, part_above, part_below, part_beside, rest_above, rest_below}
use Rattle.piece_tree.proofs.Names.{AreSorted, Holds, IsPiece, Shape, fork, items}
use Rattle.piece_tree.proofs.shapes.Sorted.{ends_below, sorted_at, sorted_front}

-- ---- what lies below a page, and above one

-- pieces that lie above it are above it whole, and those that end below it below it
pub above-all : (from page : ℕ) (ps : List Piece) → AreSorted from ps → page < from → part_above page ps ≡ ps
unfolding part_above
above-all from page [] s h = refl
above-all from page (p ∷ ps) s h = grind (arith, nat_tests, s.0, s.1)

pub below-all : (page : ℕ) (ps : List Piece) → AllByRecursion (λ q. q.last < page) ps → part_below page ps ≡ ps
unfolding part_below
below-all page [] a = refl
below-all page (p ∷ ps) a = grind (arith, nat_tests, below-all page ps a.1, a.0)

-- about a piece that reaches to the page
pub below-mid : (from page : ℕ) (xs : List Piece) (p : Piece) (ys : List Piece) → AreSorted from (xs ++ p ∷ ys) → page ≤ p.last
    → part_below page (xs ++ p ∷ ys) ≡ part_below page xs ++ rest_below page p
unfolding part_below
below-mid from page [] p ys s h = grind (arith, nat_tests, h)
below-mid from page (x ∷ xs) p ys s h =
    let a = sorted_at (x.last + 1) xs p ys s.2 in grind (arith, nat_tests, below-mid (x.last + 1) page xs p ys s.2 h, a.0)

pub above-mid : (from page : ℕ) (xs : List Piece) (p : Piece) (ys : List Piece) → AreSorted from (xs ++ p ∷ ys) → p.first ≤ page
    → part_above page (xs ++ p ∷ ys) ≡ rest_above page p ++ part_above page ys
unfolding part_above
above-mid from page [] p ys s h = grind (arith, nat_tests, above-all (p.last + 1) page ys s.2, h)
above-mid from page (x ∷ xs) p ys s h =
    let a = sorted_at (x.last + 1) xs p ys s.2 in grind (arith, nat_tests, above-mid (x.last + 1) page xs p ys s.2 h, a.0)

-- about one that has it
pub below-at : (from page : ℕ) (xs : List Piece) (p : Piece) (ys : List Piece) → AreSorted from (xs ++ p ∷ ys) → Holds p page
    → part_below page (xs ++ p ∷ ys) ≡ xs ++ rest_below page p
below-at from page xs p ys s h = cc (below-mid from page xs p ys s h.1, below-all page xs (ends_below from page xs p ys s h.0))

pub above-at : (from page : ℕ) (xs : List Piece) (p : Piece) (ys : List Piece) → AreSorted from (xs ++ p ∷ ys) → Holds p page
    → part_above page (xs ++ p ∷ ys) ≡ rest_above page p ++ ys
above-at from page xs p ys s h =
    let a = sorted_at from xs p ys s in
    cc (above-mid from page xs p ys s h.0, above-all (p.last + 1) page ys a.2 (omega (arith, h.1)))

-- ---- about pieces on both sides of the page

-- pieces that begin above it are no matter
pub below-front : (page : ℕ) (xs ys : List Piece) → AllByRecursion (λ q. page < q.first) ys → AreSorted 0 ys
    → part_below page (xs ++ ys) ≡ part_below page xs
unfolding part_below
below-front page [] [] a s = refl
below-front page [] (y ∷ ys) a s = grind (arith, nat_tests, a.0, s.1)
below-front page (x ∷ xs) ys a s = grind (arith, nat_tests, below-front page xs ys a s)

-- nor are those that end below it
pub above-back : (page : ℕ) (xs ys : List Piece) → AllByRecursion (λ q. q.last < page) xs → part_above page (xs ++ ys) ≡ part_above page ys
unfolding part_above
above-back page [] ys a = refl
above-back page (x ∷ xs) ys a = grind (arith, nat_tests, above-back page xs ys a.1, a.0)

pub below-back : (page : ℕ) (xs ys : List Piece) → AllByRecursion (λ q. q.last < page) xs
    → part_below page (xs ++ ys) ≡ xs ++ part_below page ys
unfolding part_below
below-back page [] ys a = refl
below-back page (x ∷ xs) ys a = grind (arith, nat_tests, below-back page xs ys a.1, a.0)

pub above-front : (page : ℕ) (xs ys : List Piece) → AllByRecursion (λ q. page < q.first) ys → AreSorted 0 ys
    → part_above page (xs ++ ys) ≡ part_above page xs ++ ys
unfolding part_above
above-front page [] [] a s = refl
above-front page [] (y ∷ ys) a s = grind (arith, nat_tests, a.0, s.1)
above-front page (x ∷ xs) ys a s = grind (arith, nat_tests, above-front page xs ys a s)

-- ---- how many there are

below-short : (page : ℕ) (ps : List Piece) → length (part_below page ps) ≤ length ps
unfolding part_below
below-short page [] = omega arith
below-short page (p ∷ ps) = let r = below-short page ps in grind (arith, nat_tests)

pub above-short : (page : ℕ) (ps : List Piece) → length (part_above page ps) ≤ length ps
unfolding part_above
above-short page [] = omega arith
above-short page (p ∷ ps) = let r = above-short page ps in grind (arith, nat_tests)

pub part-nil : (b : Bool) (page : ℕ) → part_beside b page [] ≡ []
unfolding part_below part_above
part-nil true page = refl
part-nil false page = refl

pub part-short : (b : Bool) (page : ℕ) (ps : List Piece) → length (part_beside b page ps) ≤ length ps
part-short true page ps = below-short page ps
part-short false page ps = above-short page ps

-- ---- a tree beside a key

pub sorted-beside : (b : Bool) (from key : ℕ) (p : Piece) (n f : Shape) → AreSorted from (items (fork b key p n f))
    → (low : ℕ) × AreSorted low (items n)
sorted-beside true from key p n f s = (from, sorted_front from (items n) (p ∷ items f) s)
sorted-beside false from key p n f s = (p.last + 1, (sorted_at from (items f) p (items n) s).2)

-- ---- rows

-- a row doesn't end before it begins
pub row_rises : (from : ℕ) (ps : List Piece) (end : ℕ) → IsRow from ps end → from ≤ end
row_rises from [] end r = omega (arith, r)
row_rises from (p ∷ ps) end r = let a = row_rises (p.last + 1) ps end r.2 in omega (arith, r.0, r.1)

pub row_pieces : (from : ℕ) (ps : List Piece) (end : ℕ) → IsRow from ps end → end ≤ NUMBERS_END → AllByRecursion IsPiece ps
row_pieces from [] end r h = tt
row_pieces from (p ∷ ps) end r h =
    let a = row_rises (p.last + 1) ps end r.2 in
    ((r.1, omega (arith, a)), row_pieces (p.last + 1) ps end r.2 h)
