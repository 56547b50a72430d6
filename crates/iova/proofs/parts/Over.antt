-- A piece put over pieces in order, parted at one of them.
use Rattle.iova.proofs.Names.{◌≡◌, ℕ, ◌+◌, List, ◌∷◌, ◌++◌, arith, append-nil, Piece, IsOrdered, with_piece}
use Rattle.iova.proofs.parts.Parts.{below_whole, above_whole, ordered_behind, some_page}
use Rattle.iova.proofs.parts.Added.{rest_above-none, rest_below-none, with_over}

pub with_alike : (from : ℕ) (xs : List Piece) (q : Piece) (ys : List Piece) (p : Piece) → IsOrdered from (xs ++ q ∷ ys)
    → p.first ≡ q.first → p.last ≡ q.last → with_piece p (xs ++ q ∷ ys) ≡ xs ++ p ∷ ys
with_alike from xs q ys p o a b =
    let w = some_page from xs q ys o in
    let below = below_whole from xs q ys p.first o (omega arith) in
    let above = above_whole (q.last + 1) p.last ys (ordered_behind from xs q ys o) (omega arith) in
    let none = rest_below-none p.first q (omega arith) in
    cc (with_over from xs q ys p o (omega arith) (omega arith), append-nil xs, rest_above-none p.last q (omega arith))
