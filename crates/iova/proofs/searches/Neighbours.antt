-- How far what is free beside a page goes, by the pieces beside the page's own, or by those of the pages beside it.
use Rattle.iova.proofs.Names.{◌≡◌, ℕ, ◌+◌, ◌-◌, ◌≤◌, List, [], ◌∷◌, refl, arith, nat_tests, Piece, piece_at, free_end, free_start}
use Rattle.iova.proofs.Names.{IsOrdered, IsStarting, Option, Some, None, ap, end_by, start_by, sym}
use Rattle.iova.proofs.searches.Found.{at_none}
use Rattle.iova.proofs.FreeRange.{end_none, start_none}

-- by the pieces of the pages beside it
pub start_at : (from : ℕ) (ps : List Piece) (first : ℕ) → IsOrdered from ps → 1 ≤ first
    → start_by (piece_at ps (first - 1)) first ≡ free_start ps first
unfolding free_start piece_at
start_at from [] first o h = refl
start_at from (p ∷ ps) first o h =
    let e = start_at (p.last + 1) ps first o.3 h in
    let n = start_none (p.last + 1) first ps o.3 in
    let a = at_none (p.last + 1) ps (first - 1) o.3 in grind (arith, nat_tests)

pub end_at : (from : ℕ) (ps : List Piece) (last : ℕ) → IsOrdered from ps → end_by (piece_at ps (last + 1)) last ≡ free_end ps last
unfolding free_end piece_at
end_at from [] last o = refl
end_at from (p ∷ ps) last o =
    let e = end_at (p.last + 1) ps last o.3 in
    let n = end_none (p.last + 1) last ps o.3 in
    let a = at_none (p.last + 1) ps (last + 1) o.3 in grind (arith, nat_tests)

-- or by the piece that begins just behind it, if one does
pub end_starting : (ps : List Piece) (last : ℕ) (o : Option Piece) → IsStarting (last + 1) ps o
    → end_by o last ≡ end_by (piece_at ps (last + 1)) last
end_starting ps last (Some p) s = ap (λ q. end_by q last) (sym s.1)
end_starting ps last None s = other (piece_at ps (last + 1)) refl
  where
    other : (q : Option Piece) → piece_at ps (last + 1) ≡ q → last ≡ end_by q last
    other None e = refl
    other (Some p) e = let no = s p e in grind (arith, nat_tests)
