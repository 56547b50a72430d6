-- The one piece that has the pages of a range.
use Rattle.iova.proofs.Names.{◌≤◌, List, subst, arith, Range, IsIn, PageState, Live, Piece, IsOrdered, piece_of, CutsPiece, MayRetire}
use Rattle.iova.proofs.Among.{in_one, in_state}

-- a range that is one piece cuts none
whole_uncut : (range : Range) (state : PageState) (ps : List Piece) → IsOrdered 1 ps → 1 ≤ range.pages → IsIn (piece_of range state) ps
    → CutsPiece ps range → ⊥
whole_uncut range state ps o some i cuts =
    let a = cuts.2.some in
    let b = cuts.2.not_all in
    let e = in_one 1 cuts.0 (piece_of range state) ps a.0 o cuts.1 i a.1 (omega arith) in
    let h = subst (λ (q : Piece). (q.first ≤ b.0) × (b.0 ≤ q.last)) e b.1 in b.2 (omega arith)

-- a range that is one live piece can be retired
pub may_whole : (range : Range) (ps : List Piece) → IsOrdered 1 ps → 1 ≤ range.pages → IsIn (piece_of range Live) ps → MayRetire ps range
may_whole range ps o some i = record {
  live = λ page w. in_state 1 (piece_of range Live) ps page o i w.0 (omega (arith, w.1));
  room = λ t. whole_uncut range Live ps o some i t.0;
}
