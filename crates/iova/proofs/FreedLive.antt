-- Live pages that are freed: as if they were retired first.
use Rattle.iova.proofs.Names.{◌≡◌, ℕ, ◌+◌, ◌-◌, ◌≤◌, false, List, [], ◌∷◌, ◌++◌, Some, refl, ap, sym, ◌∙◌, inl, inr, subst, arith}
use Rattle.iova.proofs.Names.{nat_tests, AllByRecursion, Range, Free, Live, Retired, Piece, free_end, free_start, with_free, IsOrdered}
use Rattle.iova.proofs.Names.{piece_of, state_at, IsTrue, is_free, part_above, part_below, with_piece, Space, IsSpace, MayRetire}
use Rattle.iova.proofs.Names.{FreesLive, Retires}
use Rattle.iova.proofs.Pieces.{order, state-here, state-past, ordered_above, part_above_skip, state_none}
use Rattle.iova.proofs.Puts.{free_state}
use Rattle.iova.proofs.FreeRange.{end_cases, free_end_ge, free_start_le, start_cases, start_none}
use Rattle.iova.proofs.Freed.{frees, space_freed}
use Rattle.iova.proofs.Keep.{is_some}
use Rattle.iova.proofs.Taken.{retires, space_retired}
use Rattle.iova.proofs.parts.Parts.{below_before}

-- ---- what lies below and above pages, where a piece among them was put

below_below : (low page : ℕ) (ps : List Piece) → low ≤ page → part_below low (part_below page ps) ≡ part_below low ps
unfolding part_below
below_below low page [] h = refl
below_below low page (q ∷ qs) h = let e = below_below low page qs h in grind (arith, nat_tests)

above_above : (page high : ℕ) (ps : List Piece) → page ≤ high → part_above high (part_above page ps) ≡ part_above high ps
unfolding part_above
above_above page high [] h = refl
above_above page high (q ∷ qs) h = let e = above_above page high qs h in grind (arith, nat_tests)

ends_below : (page high : ℕ) (ps : List Piece) → page ≤ high → AllByRecursion (λ q. q.last ≤ high) (part_below page ps)
unfolding part_below
ends_below page high [] h = tt
ends_below page high (q ∷ qs) h = let e = ends_below page high qs h in grind (arith, nat_tests)

below_put : (low : ℕ) (p : Piece) (ps : List Piece) → low ≤ p.first → p.first ≤ p.last
    → part_below low (with_piece p ps) ≡ part_below low ps
below_put low p ps h w =
    below_before (part_below p.first ps) p (part_above p.last ps) low (omega arith) h ∙ below_below low p.first ps h

above_put : (high : ℕ) (p : Piece) (ps : List Piece) → p.last ≤ high → p.first ≤ p.last
    → part_above high (with_piece p ps) ≡ part_above high ps
above_put high p ps h w =
    part_above_skip (part_below p.first ps) (p ∷ part_above p.last ps) high (ends_below p.first high ps (omega arith))
    ∙ part_above_skip (p ∷ []) (part_above p.last ps) high (h, tt) ∙ above_above p.last high ps h

-- ---- the free pieces that it touches

start_below : (from first : ℕ) (ps ys : List Piece) → IsOrdered from ps → (state_at ps first ≡ Some Free → ⊥)
    → free_start ys first ≡ first → free_start (part_below first ps ++ ys) first ≡ free_start ps first
unfolding part_below free_start
start_below from first [] ys o n e = e
start_below from first (q ∷ qs) ys o n e =
    elim (order first q.last) [
      | inr k ↦
          let r = start_below (q.last + 1) first qs ys o.3 (λ s. n (state-past q qs first k ∙ s)) e in grind (arith, nat_tests)
      | inl k ↦
          let none = start_none (q.last + 1) first qs o.3 (omega arith) in
          let was : free_start (q ∷ qs) first ≡ first = grind (arith, nat_tests) in
          elim (order first q.first) [
            | inl l ↦ let below : part_below first (q ∷ qs) ≡ [] = grind (arith, nat_tests) in cc
            | inr l ↦
                let here = state-here q qs first (omega arith) k in
                let used = λ (f : IsTrue (is_free q.state)). n (here ∙ ap (λ u. Some u) (free_state q.state f)) in
                let cases = start_cases (record q { last = first - 1 }) ys first in
                let below : part_below first (q ∷ qs) ≡ record q { last = first - 1 } ∷ [] = grind (arith, nat_tests) in
                grind arith
          ]
    ]

start_put : (p : Piece) (ps : List Piece) → IsOrdered 1 ps → is_free p.state ≡ false → p.first ≤ p.last
    → (state_at ps p.first ≡ Some Free → ⊥) → free_start (with_piece p ps) p.first ≡ free_start ps p.first
start_put p ps o u w n =
    let above = start_none (p.last + 1) p.first (part_above p.last ps) (ordered_above 1 p.last ps o) (omega arith) in
    let cases = start_cases p (part_above p.last ps) p.first in
    start_below 1 p.first ps (p ∷ part_above p.last ps) o n (grind arith)

end_below : (from first last : ℕ) (ps ys : List Piece) → IsOrdered from ps → first ≤ last
    → free_end (part_below first ps ++ ys) last ≡ free_end ys last
unfolding part_below free_end
end_below from first last [] ys o w = refl
end_below from first last (q ∷ qs) ys o w = let r = end_below (q.last + 1) first last qs ys o.3 w in grind (arith, nat_tests)

end_above : (from last : ℕ) (ps : List Piece) → IsOrdered from ps → (state_at ps last ≡ Some Free → ⊥)
    → free_end (part_above last ps) last ≡ free_end ps last
unfolding part_above free_end state_at
end_above from last [] o n = refl
end_above from last (q ∷ qs) o n =
    let r = end_above (q.last + 1) last qs o.3 in
    let none = state_none (q.last + 1) qs last o.3 in
    let free = free_state q.state in
    elim (order q.last last) [ inl k ↦ grind (arith, nat_tests) | inr k ↦ grind (arith, nat_tests) ]

end_put : (p : Piece) (ps : List Piece) → IsOrdered 1 ps → p.first ≤ p.last → (state_at ps p.last ≡ Some Free → ⊥)
    → free_end (with_piece p ps) p.last ≡ free_end ps p.last
end_put p ps o w n =
    let cases = end_cases p (part_above p.last ps) p.last in
    let above = end_above 1 p.last ps o n in
    end_below 1 p.first p.last ps (p ∷ part_above p.last ps) o w ∙ grind arith

-- ---- pages come free at once, as they would once a piece of them was put

put_then_freed : (p : Piece) (ps : List Piece) → IsOrdered 1 ps → is_free p.state ≡ false → 1 ≤ p.first → p.first ≤ p.last
    → (state_at ps p.first ≡ Some Free → ⊥) → (state_at ps p.last ≡ Some Free → ⊥) → with_free p (with_piece p ps) ≡ with_free p ps
put_then_freed p ps o u some w n m =
    let below = below_put (free_start ps p.first) p ps (free_start_le 1 p.first ps o some).1 w in
    let above = above_put (free_end ps p.last) p ps (free_end_ge 1 p.last ps o) w in
    cc (start_put p ps o u w n, end_put p ps o w m)

live_not_free : (ps : List Piece) (page : ℕ) → state_at ps page ≡ Some Live → state_at ps page ≡ Some Free → ⊥
live_not_free ps page l f = let e : Some Live ≡ Some Free = sym l ∙ f in absurd (cc)

module _ (a : Space) (range : Range) (sp : IsSpace a) (some : 1 ≤ range.pages) (may : MayRetire a.pieces range) where
  abbrev p : Piece
  p = piece_of range Retired

  abbrev between : Space
  between = record a { pieces = with_piece p a.pieces }

  space : IsSpace between
  space = space_retired a range sp some may

  retired : Retires a between range
  retired = retires a between range sp some may.live refl

  same : with_free p between.pieces ≡ with_free p a.pieces
  same =
      let first = may.live range.first (omega arith) in
      let last = may.live p.last (omega arith) in
      let page = (sp.others range.first (is_some a.pieces range.first Live first)).0 in
      put_then_freed p a.pieces sp.ordered refl page.0 (omega arith)
      (live_not_free a.pieces range.first first) (live_not_free a.pieces p.last last)

  -- what the space is then
  pub space_freed_live : IsSpace (record a { pieces = with_free (piece_of range Live) a.pieces })
  space_freed_live = subst (λ ps. IsSpace (record a { pieces = ps })) same (space_freed between p space retired.piece)

  pub frees_live : (new : Space) → new ≡ record a { pieces = with_free (piece_of range Live) a.pieces } → FreesLive a new range
  frees_live new e = record {
    between = between;
    is_space = space;
    retires = retired;
    frees = frees between new range Retired space some retired.piece (e ∙ ap (λ ps. record a { pieces = ps }) (sym same));
  }
