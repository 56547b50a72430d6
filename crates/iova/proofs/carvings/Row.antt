-- Pieces that were carved out of a free piece are a row: put over its pages at once, they lie as one after the other.
use Rattle.iova.proofs.Names.{◌≡◌, ℕ, ◌+◌, ◌<◌, ◌≤◌, max, List, [], ◌∷◌, length, Some, sym, subst, arith, Stock, Ends, Piece, MOST_PIECES}
use Rattle.iova.proofs.Names.{NUMBERS_END, IsRow, with_row, piece_at, AreCarved, FollowOn, with_pieces, NoneFreeBelow, Space, IsSpace}
use Rattle.iova.proofs.LowestFree.{none_below_put, none_below_used}
use Rattle.iova.proofs.Keep.{in_narrow}
use Rattle.iova.proofs.parts.Added.{above_meets, below_meets, rest_above-some}
use Rattle.iova.proofs.parts.Parts.{above_whole, below_whole, ordered_behind}
use Rattle.iova.proofs.searches.Found.{at_of}
use Rattle.iova.proofs.carvings.Carved.{same_ends}
use Rattle.iova.proofs.carvings.InPlace.{before, behind, follow_le, free_piece, row_is, was, was_ordered}
use Rattle.iova.proofs.carvings.State.{Carving, next}

pub follow_row : (from : ℕ) (chain : List Piece) (end : ℕ) → FollowOn from chain end → IsRow from chain end
follow_row from [] end f = f
follow_row from (p ∷ ps) end f = (f.0, f.1, follow_row (p.last + 1) ps end f.3)

pub record IsOneRow (a : Space) (row : List Piece) (pages : Ends) : Type 0 where
  pub follows : IsRow pages.first row (pages.last + 1)
  pub there : Piece
  pub at : piece_at a.pieces pages.first ≡ Some there
  pub inside : pages.last ≤ there.last
  pub same : with_row pages.first row pages.last a.pieces ≡ with_pieces row a.pieces
  pub few : length (with_row pages.first row pages.last a.pieces) ≤ MOST_PIECES
  pub narrow : pages.last < NUMBERS_END
  pub stands : Carving a there.first there.last row pages.first (pages.last + 1)

pub one_row : (a : Space) (row : List Piece) (stock : Stock) (pages : Ends) → IsSpace a → AreCarved a.pieces row stock
    → FollowOn pages.first row (pages.last + 1) → pages.first ≤ pages.last → IsOneRow a row pages
one_row a row stock pages sp c f w =
    let s = same_ends row c.from c.end pages.first (pages.last + 1) c.follow f (omega arith) in
    let first = stock.pages.first in
    let last = stock.pages.last in
    let low : first ≤ pages.first = omega (arith, s, c.low) in
    let left : pages.last + 1 ≤ last = omega (arith, s, c.left) in
    let m : Piece = free_piece first last in
    let xs = before sp first last c.there in
    let ys = behind sp first last c.there in
    let o = was_ordered sp first last c.there in
    let below = below_whole 1 xs m ys pages.first o low in
    let above = above_whole (last + 1) pages.last ys (ordered_behind 1 xs m ys o) (omega arith) in
    let all = row_is sp first last c.there row pages.first (pages.last + 1) low f (omega arith) left in
    let parts = below_meets 1 xs m ys pages.first o (omega arith) in
    let same : with_row pages.first row pages.last a.pieces ≡ with_pieces row a.pieces =
    cc (was sp first last c.there, above_meets 1 xs m ys pages.last o (omega arith), rest_above-some pages.last m (omega arith)) in
    record {
      follows = follow_row pages.first row (pages.last + 1) f;
      there = m;
      at = at_of 1 m a.pieces pages.first sp.ordered c.there low (omega arith);
      inside = omega arith;
      same = same;
      few = subst (λ l. length l ≤ MOST_PIECES) (sym same) c.few;
      narrow = omega (arith, in_narrow a m sp c.there);
      stands = record { space = sp; there = c.there; low = low; follow = f; left = left; few = c.few };
    }

-- ---- what is free below them

pub none_below_carved : {chain : List Piece} {a : Space} {first last begin end : ℕ} → Carving a first last chain begin end → (low : ℕ)
    → NoneFreeBelow low a.pieces → NoneFreeBelow low (with_pieces chain a.pieces)
none_below_carved {chain = []} c low n = n
none_below_carved {chain = e ∷ es} {a} c low n = none_below_carved {chain = es} (next c) low
    (none_below_put low e.first e.last e.state a.pieces c.space.ordered c.follow.1 n (λ f. absurd (c.follow.2 f)))

-- where they begin no later, none is free below what lies behind them
pub none_below_row : {chain : List Piece} {a : Space} {first last begin end : ℕ} → Carving a first last chain begin end → (low : ℕ)
    → NoneFreeBelow low a.pieces → begin ≤ low → NoneFreeBelow (max low end) (with_pieces chain a.pieces)
none_below_row {chain = []} {a} c low n h = subst (λ x. NoneFreeBelow x a.pieces) (let f = c.follow in omega arith) n
none_below_row {chain = e ∷ es} {a} {end = end} c low n h =
    let f = follow_le (e.last + 1) es end c.follow.3 in
    let r = none_below_row {chain = es} (next c) (max low (e.last + 1))
    (none_below_used low e.first e.last e.state a.pieces c.space.ordered c.follow.1 n c.follow.2 (omega arith)) (omega arith) in
    subst (λ x. NoneFreeBelow x (with_pieces (e ∷ es) a.pieces)) (omega arith) r
