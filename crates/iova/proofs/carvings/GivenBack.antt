-- Pieces that were carved out of a free piece come free: then the others are carved.
use Rattle.iova.proofs.Names.{◌≡◌, ℕ, ◌+◌, ◌<◌, ◌≤◌, ◌⊎◌, List, [], ◌++◌, length, max, refl, sym, ◌∙◌, inl, inr, ap, subst, arith}
use Rattle.iova.proofs.Names.{append-nil, length-append, Range, IsIn, PageState, Piece, Stock, AreCarved, FollowOn, with_carved}
use Rattle.iova.proofs.Names.{with_pieces, FreesRun, with_free, IsRun, piece_of, state_at, Space, IsSpace}
use Rattle.iova.proofs.Among.{in_append_cases, in_append_left, in_append_right}
use Rattle.iova.proofs.carvings.Counts.{few_less}
use Rattle.iova.proofs.FreedRun as run
use Rattle.iova.proofs.Same.{InUseIn, same_pieces}
use Rattle.iova.proofs.carvings.InPlace.{follow_le, follow_some}
use Rattle.iova.proofs.carvings.State.{Carving, carving, recarved, carved_space, follow_in, chain_state, chain_there, held}
use Rattle.iova.proofs.carvings.State.{untouched, used_apart, used_only, used_stays, was_free}

-- a range of the free piece in whose pages no other piece lies
module _ {a : Space} {first last : ℕ} {chain less : List Piece} {begin end from to : ℕ} (c : Carving a first last chain begin end)
    (d : Carving a first last less from to) (range : Range) (s : PageState) (some : 1 ≤ range.pages) (low : first ≤ range.first)
    (high : range.first + range.pages ≤ last + 1) (is_run : IsRun (piece_of range s) (with_pieces chain a.pieces))
    (kept : (q : Piece) → IsIn q less → IsIn q chain × ((q.last < range.first) ⊎ (range.first + range.pages ≤ q.first)))
    (lost : (q : Piece) → IsIn q chain → IsIn q less ⊎ ((range.first ≤ q.first) × (q.last < range.first + range.pages))) where
  abbrev new : Space
  new = record a { pieces = with_free (piece_of range s) (with_pieces chain a.pieces) }

  comes : FreesRun (with_carved chain a) new range s
  comes = run.frees_run (with_carved chain a) new range s (carved_space c) some is_run refl

  -- a page outside the range lies as it does where less is carved
  other : (page : ℕ) → (page < range.first) ⊎ (range.first + range.pages ≤ page)
      → state_at (with_pieces chain a.pieces) page ≡ state_at (with_pieces less a.pieces) page
  other page out = elim (held less page) [
    | inl x ↦ chain_state c x.0 (kept x.0 x.1).0 page x.2 ∙ sym (chain_state d x.0 x.1 page x.2)
    | inr x ↦ untouched c page (λ q m h. elim (lost q m) [ inl y ↦ x q y h | inr y ↦ omega (arith, out) ]) ∙ sym (untouched d page x)
  ]

  states : (page : ℕ) → state_at new.pieces page ≡ state_at (with_pieces less a.pieces) page
  states page =
      let inside = comes.states.inside page in
      let outside = comes.states.outside page in
      let lies = other page in
      let apart = λ (h : range.first ≤ page) (l : page < range.first + range.pages).
      untouched d page (λ q m k. omega (arith, (kept q m).1)) ∙ was_free d page (omega arith) (omega arith) in grind arith

  stays : InUseIn new.pieces (with_pieces less a.pieces)
  stays q n m =
      let k = (comes.in_use q n).0 m in
      elim (used_only c q n k.0) [
        | inr x ↦ used_stays d q x n
        | inl x ↦ elim (lost q x) [
          | inl y ↦ chain_there d q y
          | inr y ↦ let f = follow_in begin chain end c.follow q x in absurd (k.1 q.first (omega arith) (omega arith))
        ]
      ]

  came : InUseIn (with_pieces less a.pieces) new.pieces
  came q n m = (comes.in_use q n).1 (elim (used_only d q n m) [
    | inl x ↦ let k = kept q x in (chain_there c q k.0, (λ page h g. omega (arith, k.1)))
    | inr x ↦ let k = used_apart d q x n in (used_stays c q x n, (λ page h g. omega (arith, k)))
  ])

  pub given_back : with_free (piece_of range s) (with_pieces chain a.pieces) ≡ with_pieces less a.pieces
  given_back =
      let sn = run.space_freed (with_carved chain a) (piece_of range s) (carved_space c) (omega arith) is_run in
      same_pieces 1 new.pieces (with_pieces less a.pieces) sn.ordered (carved_space d).ordered states stays came

-- ---- a row of pieces comes free, where none is before it or none behind it

module _ {a : Space} (sp : IsSpace a) {stock : Stock} (before row behind : List Piece)
    (c : AreCarved a.pieces (before ++ (row ++ behind)) stock) (range : Range) (some : 0 < length row)
    (side : (before ≡ []) ⊎ (behind ≡ [])) (front : FollowOn c.from before range.first)
    (there : FollowOn range.first row (range.first + range.pages)) (back : FollowOn (range.first + range.pages) behind c.end) where
  bounds : (c.from ≤ range.first) × (range.first < range.first + range.pages) × (range.first + range.pages ≤ c.end)
  bounds = (
    follow_le c.from before range.first front,
    follow_some range.first row (range.first + range.pages) there some,
    follow_le (range.first + range.pages) behind c.end back,
  )

  -- where the others begin and end
  others : (from : ℕ) × (end : ℕ) × (c.from ≤ from) × FollowOn from (before ++ behind) end × (end ≤ c.end)
  others =
      let b = bounds in
      let to = range.first + range.pages in
      elim side [
        | inl x ↦ (to, c.end, omega arith, subst (λ l. FollowOn to (l ++ behind) c.end) (sym x) back, omega arith)
        | inr x ↦
            let all : before ++ behind ≡ before = cc (append-nil before) in
            (c.from, range.first, omega arith, subst (λ l. FollowOn c.from l range.first) (sym all) front, omega arith)
      ]

  -- they stay carved
  pub less : AreCarved a.pieces (before ++ behind) stock
  less =
      let low : max stock.pages.first stock.sought.floor ≤ others.0 = omega (arith, c.low, others.2) in
      let left : others.1 ≤ stock.pages.last = omega (arith, c.left, others.4) in
      recarved c (before ++ behind) others.0 others.1 low others.3 left
      (few_less (carving sp c) (before ++ behind) others.0 others.1 (omega arith) others.3 left
      (omega (arith, length-append before behind, length-append before (row ++ behind), length-append row behind)))

  kept : (q : Piece) → IsIn q (before ++ behind)
      → IsIn q (before ++ (row ++ behind)) × ((q.last < range.first) ⊎ (range.first + range.pages ≤ q.first))
  kept q m = elim (in_append_cases q before behind m) [
    | inl x ↦ let f = follow_in c.from before range.first front q x in (in_append_left q before (row ++ behind) x, inl f.2)
    | inr x ↦
        let f = follow_in (range.first + range.pages) behind c.end back q x in
        (in_append_right q before (row ++ behind) (in_append_right q row behind x), inr f.0)
  ]

  lost : (q : Piece) → IsIn q (before ++ (row ++ behind))
      → IsIn q (before ++ behind) ⊎ ((range.first ≤ q.first) × (q.last < range.first + range.pages))
  lost q m = elim (in_append_cases q before (row ++ behind) m) [
    | inl x ↦ inl (in_append_left q before behind x)
    | inr x ↦ elim (in_append_cases q row behind x) [
      | inl y ↦ let f = follow_in range.first row (range.first + range.pages) there q y in inr (f.0, f.2)
      | inr y ↦ inl (in_append_right q before behind y)
    ]
  ]

  -- and the space is what it is once the row is free
  pub less_is : (s : PageState) → IsRun (piece_of range s) (with_pieces (before ++ (row ++ behind)) a.pieces)
      → with_carved (before ++ behind) a
      ≡ record a { pieces = with_free (piece_of range s) (with_pieces (before ++ (row ++ behind)) a.pieces) }
  less_is s is_run =
      let back = given_back (carving sp c) (carving sp less) range s (omega (arith, bounds)) (omega (arith, c.low, bounds))
      (omega (arith, c.left, bounds)) is_run kept lost in ap (λ (l : List Piece). record a { pieces = l }) (sym back)
