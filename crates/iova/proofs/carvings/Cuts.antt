-- Whether a range of free pages cuts the free piece that it lies in, and so any.
use Rattle.iova.proofs.Names.{ℕ, ◌+◌, ◌<◌, ◌≤◌, ◌⊎◌, ap, inl, inr, arith, IsIn, Free, Piece, Ends, pages_as, CutsPiece, IsSpace, Space}
use Rattle.iova.proofs.Among.{in_one}

module _ {a : Space} (sp : IsSpace a) {pages : Ends} (i : IsIn (pages_as pages Free) a.pieces) {start count : ℕ} (some : 1 ≤ count)
    (inside : (pages.first ≤ start) × (start + count ≤ pages.last + 1)) where
  pub cuts_some : (pages.first < start) ⊎ (start + count ≤ pages.last) → CutsPiece a.pieces (record { first = start; pages = count })
  cuts_some out = (
    pages_as pages Free,
    i,
    record {
      some = (start, omega arith, omega arith);
      not_all = elim out [ inl h ↦ (pages.first, omega arith, omega arith) | inr h ↦ (start + count, omega arith, omega arith) ];
    },
  )

  pub cuts_none : start ≤ pages.first → pages.last < start + count → CutsPiece a.pieces (record { first = start; pages = count }) → ⊥
  cuts_none h l c =
      let k = c.2 in
      let same = in_one 1 c.0 (pages_as pages Free) a.pieces k.some.0 sp.ordered c.1 i k.some.1 (omega (arith, k.some.2)) in
      let f = ap (λ (r : Piece). r.first) same in
      let g = ap (λ (r : Piece). r.last) same in k.not_all.2 (omega (arith, k.not_all.1))
