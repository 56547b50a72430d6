-- The pieces of a space are in order as the tree's are.
use Rattle.iova.proofs.Names.{ℕ, ◌+◌, ◌<◌, ◌≤◌, List, [], ◌∷◌, refl, inl, inr, sym, subst, arith, IsIn, Piece, NUMBERS_END, AreSorted}
use Rattle.iova.proofs.Names.{IsPiece, IsOrdered, Space, IsSpace}
use Rattle.iova.proofs.Keep.{in_narrow}

pub ordered_sorted : (low from : ℕ) (ps : List Piece) → IsOrdered from ps → low ≤ from
    → ((p : Piece) → IsIn p ps → p.last < NUMBERS_END) → AreSorted low ps
ordered_sorted low from [] o h n = tt
ordered_sorted low from (p ∷ ps) o h n =
    (omega (arith, o.0, h), (o.1, n p (inl refl)), ordered_sorted (p.last + 1) (p.last + 1) ps o.3 (omega arith) (λ q i. n q (inr i)))

pub space_sorted : (a : Space) → IsSpace a → AreSorted 0 a.pieces
space_sorted a sp = ordered_sorted 0 1 a.pieces sp.ordered (omega arith) (λ p i. in_narrow a p sp i)

pub sorted_in : (from : ℕ) (ps : List Piece) (p : Piece) → AreSorted from ps → IsIn p ps → IsPiece p
sorted_in from [] p s i = absurd i
sorted_in from (q ∷ ps) p s (inl e) = subst (λ x. IsPiece x) (sym e) s.1
sorted_in from (q ∷ ps) p s (inr i) = sorted_in (q.last + 1) ps p s.2 i
