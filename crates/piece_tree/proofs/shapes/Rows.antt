-- The first piece of a row, and the last one.
use Rattle.piece_tree.proofs.Names.{◌≡◌, ℕ, suc, ◌+◌, ◌-◌, ◌<◌, ◌≤◌, slice_index_or, List, [], ◌∷◌, ◌++◌, length, Some, IsSome, refl, ap}
use Rattle.piece_tree.proofs.Names.{sym, ◌∙◌, arith, nat_tests, Piece, MOST_PIECES, IsRow, with_row, Holds, piece_at}
use Rattle.piece_tree.proofs.shapes.Forks.{is_there}
use Rattle.piece_tree.proofs.shapes.Placed.{found_split}

no_others : (ps : List Piece) → length ps ≡ 0 → ps ≡ []
no_others [] e = refl
no_others (p ∷ ps) e = absurd (omega arith)

-- it is one piece
pub row-one : (from last : ℕ) (row : List Piece) (first : Piece) (rest : List Piece) → row ≡ first ∷ rest → length rest ≡ 0
    → IsRow from row (last + 1) → (first.first ≡ from) × (first.last ≡ last) × (row ≡ first ∷ [])
row-one from last row first rest e none r =
    let is : row ≡ first ∷ [] = e ∙ ap (λ l. first ∷ l) (no_others rest none) in
    let s = rw is at r in
    (s.0, omega (arith, s.2), is)

row-end : (from end : ℕ) (xs : List Piece) (q : Piece) → IsRow from (xs ++ q ∷ []) end → end ≡ q.last + 1
row-end from end [] q r = sym r.2
row-end from end (x ∷ xs) q r = row-end (x.last + 1) end xs q r.2

-- or more
pub row-ends : (from last : ℕ) (row : List Piece) (first : Piece) (rest others : List Piece) (final : Piece) → row ≡ first ∷ rest
    → rest ≡ others ++ final ∷ [] → IsRow from row (last + 1)
    → (first.first ≡ from) × (final.last ≡ last) × (row ≡ first ∷ others ++ final ∷ [])
row-ends from last row first rest others final e f r =
    let is : row ≡ first ∷ others ++ final ∷ [] = e ∙ ap (λ l. first ∷ l) f in
    let s = rw is at r in
    let k = row-end (first.last + 1) (last + 1) others final s.2 in
    (s.0, omega (arith, k), is)

-- where the first piece begins, and the last one ends
row-begins : (from end : ℕ) (row : List Piece) (p d : Piece) → IsRow from row end → 0 < length row → p ≡ slice_index_or row 0 d
    → p.first ≡ from
row-begins from end [] p d r h e = absurd (omega arith)
row-begins from end (x ∷ xs) p d r h e = ap (λ (y : Piece). y.first) e ∙ r.0

row-finishes : (from last : ℕ) (row : List Piece) (q d : Piece) → IsRow from row (last + 1) → 0 < length row
    → q ≡ slice_index_or row (length row - 1) d → q.last ≡ last
row-finishes from last [] q d r h e = absurd (omega arith)
row-finishes from last (x ∷ []) q d r h e = ap (λ (y : Piece). y.last) e ∙ omega (arith, r.2)
row-finishes from last (x ∷ y ∷ ys) q d r h e = row-finishes (x.last + 1) last (y ∷ ys) q d r.2 (omega arith) (e ∙ step)
  where
    step : slice_index_or (x ∷ y ∷ ys) (length (x ∷ y ∷ ys) - 1) d ≡ slice_index_or (y ∷ ys) (length (y ∷ ys) - 1) d
    step =
        let n : length (x ∷ y ∷ ys) - 1 ≡ suc (length ys) = omega arith in
        let m : length (y ∷ ys) - 1 ≡ length ys = omega arith in
        rw (n, m) refl

-- the row by its own ends
pub row-is : (from last : ℕ) (row : List Piece) (p q : Piece) → IsRow from row (last + 1)
    → (0 < length row) × ((d : Piece) → p ≡ slice_index_or row 0 d)
    → (0 < length row) × ((d : Piece) → q ≡ slice_index_or row (length row - 1) d)
    → (p.first ≡ from) × (q.last ≡ last) × IsRow p.first row (q.last + 1)
row-is from last row p q r a b =
    let e = row-begins from (last + 1) row p p r a.0 (a.1 p) in
    let f = row-finishes from last row q q r b.0 (b.1 q) in
    (e, f, rw (e, f) r)

-- a page of a piece that is there lies in some piece
some_in : (xs : List Piece) (p : Piece) (ys : List Piece) (page : ℕ) → Holds p page → IsSome (piece_at (xs ++ p ∷ ys) page)
unfolding piece_at
some_in [] p ys page h = grind (arith, nat_tests, h.0, h.1)
some_in (x ∷ xs) p ys page h = let r = some_in xs p ys page h in grind (arith, nat_tests, r)

some-later : (first last : ℕ) (ps : List Piece) (p : Piece) → piece_at ps first ≡ Some p → first ≤ last → last ≤ p.last
    → IsSome (piece_at ps last)
some-later first last ps p e h k = let r = found_split ps first p e in rw r.2 (some_in r.0 p r.1 last (omega (arith, r.3, h), k))

-- what is told of the pages of a row is so by its own ends
pub row-inside : (row view : List Piece) (p q : Piece)
    → (from : ℕ) × (last : ℕ) × (there : Piece) × (from ≤ last) × IsRow from row (last + 1) × (piece_at view from ≡ Some there)
    × (last ≤ there.last) × (length (with_row from row last view) ≤ MOST_PIECES)
    → (0 < length row) × ((d : Piece) → p ≡ slice_index_or row 0 d)
    → (0 < length row) × ((d : Piece) → q ≡ slice_index_or row (length row - 1) d)
    → (p.first ≤ q.last) × IsRow p.first row (q.last + 1) × IsSome (piece_at view p.first) × IsSome (piece_at view q.last)
    × (length (with_row p.first row q.last view) ≤ MOST_PIECES)
row-inside row view p q (from, last, there, some, fine, at, end, few) a b =
    let r = row-is from last row p q fine a b in (
      omega (arith, r.0, r.1, some),
      r.2,
      rw r.0 (is_there at),
      rw r.1 (some-later from last view there at some end),
      rw (r.0, r.1) few,
    )
