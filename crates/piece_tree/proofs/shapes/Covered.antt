-- Pieces in order, once a row of others was put over some of their pages.
use Rattle.piece_tree.proofs.Names.{◌≡◌, ℕ, ◌+◌, ◌-◌, ◌<◌, ◌≤◌, List, [], ◌∷◌, ◌++◌, inl, inr, subst, arith}
use Rattle.piece_tree.proofs.Names.{append_assoc, nat_tests, AllByRecursion, Piece, NUMBERS_END, IsRow, part_above, part_below, rest_above}
use Rattle.piece_tree.proofs.Names.{rest_below, with_row, AreSorted, Holds}
use Rattle.piece_tree.proofs.shapes.Laid.{above-at, above-back, above-front, below-at, below-back, below-front, row_rises}
use Rattle.piece_tree.proofs.shapes.Sorted.{all_map, sorted_from}
use Rattle.piece_tree.proofs.shapes.Tall.{order}

-- ---- what is left of a piece

pub below-none : (page : ℕ) (p : Piece) → page ≤ p.first → rest_below page p ≡ []
below-none page p h = grind (arith, nat_tests, h)

pub above-none : (page : ℕ) (p : Piece) → p.last ≤ page → rest_above page p ≡ []
above-none page p h = grind (arith, nat_tests, h)

-- a row over pages of one piece
pub row-at : (from first last : ℕ) (row xs : List Piece) (p : Piece) (ys : List Piece) → AreSorted from (xs ++ p ∷ ys) → Holds p first
    → Holds p last → with_row first row last (xs ++ p ∷ ys) ≡ xs ++ (rest_below first p ++ row ++ rest_above last p) ++ ys
row-at from first last row xs p ys s h k = rw (below-at from first xs p ys s h, above-at from last xs p ys s k) (simp append_assoc)

-- a row over pages in the middle of a list
pub row-within : (first last : ℕ) (row xs ms ys : List Piece) → AllByRecursion (λ q. q.last < first) xs
    → AllByRecursion (λ q. last < q.first) ys → AreSorted 0 ys → first ≤ last
    → with_row first row last (xs ++ (ms ++ ys)) ≡ xs ++ with_row first row last ms ++ ys
row-within first last row xs ms ys a b s i =
    let low = all_map (λ q. q.last < first) (λ q. q.last < last) (λ q h. omega (arith, h, i)) xs a in
    let high = all_map (λ q. last < q.first) (λ q. first < q.first) (λ q h. omega (arith, h, i)) ys b in
    rw (below-back first xs (ms ++ ys) a, below-front first ms ys high s, above-back last xs (ms ++ ys) low, above-front last ms ys b s)
    (simp append_assoc)

-- ---- order

pub below-sorted : (from page : ℕ) (ps zs : List Piece) → AreSorted from ps → from ≤ page → AreSorted page zs
    → AreSorted from (part_below page ps ++ zs)
unfolding part_below
below-sorted from page [] zs s h z = sorted_from from page zs h z
below-sorted from page (p ∷ ps) zs s h z = elim (order page p.last) [
  | inr a ↦
      let is : part_below page (p ∷ ps) ≡ p ∷ part_below page ps = grind (arith, nat_tests) in
      rw is (s.0, s.1, below-sorted (p.last + 1) page ps zs s.2 (omega (arith, a)) z)
  | inl a ↦ elim (order page p.first) [
    | inl b ↦ let is : part_below page (p ∷ ps) ≡ [] = grind (arith, nat_tests) in rw is (sorted_from from page zs h z)
    | inr b ↦
        let is : part_below page (p ∷ ps) ≡ record p { last = page - 1 } ∷ [] = grind (arith, nat_tests) in
        let e : page ≡ page - 1 + 1 = omega (arith, b) in
        rw is (s.0, (omega (arith, b), omega (arith, a, s.1)), subst (λ n. AreSorted n zs) e z)
  ]
]

pub above-sorted : (from page : ℕ) (ps : List Piece) → AreSorted from ps → AreSorted (page + 1) (part_above page ps)
unfolding part_above
above-sorted from page [] s = tt
above-sorted from page (p ∷ ps) s = elim (order p.last page) [
  | inl a ↦
      let is : part_above page (p ∷ ps) ≡ part_above page ps = grind (arith, nat_tests) in
      rw is (above-sorted (p.last + 1) page ps s.2)
  | inr a ↦ elim (order p.first page) [
    | inl b ↦
        let is : part_above page (p ∷ ps) ≡ record p { first = page + 1 } ∷ ps = grind (arith, nat_tests) in
        rw is (omega arith, (omega (arith, a), omega (arith, s.1)), s.2)
    | inr b ↦ let is : part_above page (p ∷ ps) ≡ p ∷ ps = grind (arith, nat_tests) in rw is (omega (arith, b), s.1, s.2)
  ]
]

row-sorted : (from : ℕ) (row : List Piece) (end : ℕ) (zs : List Piece) → IsRow from row end → end ≤ NUMBERS_END → AreSorted end zs
    → AreSorted from (row ++ zs)
row-sorted from [] end zs r h z = rw r z
row-sorted from (p ∷ ps) end zs r h z =
    let a = row_rises (p.last + 1) ps end r.2 in
    (omega (arith, r.0), (r.1, omega (arith, a, h)), row-sorted (p.last + 1) ps end zs r.2 h z)

pub with_row-sorted : (from first last : ℕ) (row ps : List Piece) → AreSorted from ps → from ≤ first → IsRow first row (last + 1)
    → last < NUMBERS_END → AreSorted from (with_row first row last ps)
with_row-sorted from first last row ps s h r n =
    below-sorted from first ps (row ++ part_above last ps) s h
    (row-sorted first row (last + 1) (part_above last ps) r (omega (arith, n)) (above-sorted from last ps s))
