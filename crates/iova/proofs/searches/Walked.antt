-- The pieces from a page on.
use Rattle.iova.proofs.Names.{◌≡◌, ℕ, ◌+◌, ◌<◌, ◌≤◌, List, [], ◌∷◌, ◌++◌, Option, Some, None, refl, sym, ◌⊎◌, inl, inr, subst, arith}
use Rattle.iova.proofs.Names.{nat_tests, Piece, IsOrdered, first_or, pieces_from, AreSorted, IsPiece, IsIn}
use Rattle.iova.proofs.Pieces.{order}
use Rattle.iova.proofs.parts.Parts.{first_from}
use Rattle.iova.proofs.Sorted.{sorted_in}

pub from-nil : (page : ℕ) → pieces_from page [] ≡ []
unfolding pieces_from
from-nil page = refl

pub from-here : (p : Piece) (ps : List Piece) (page : ℕ) → page ≤ p.first → pieces_from page (p ∷ ps) ≡ p ∷ ps
unfolding pieces_from
from-here p ps page h = grind (arith, nat_tests)

pub from-past : (p : Piece) (ps : List Piece) (page : ℕ) → p.first < page → pieces_from page (p ∷ ps) ≡ pieces_from page ps
unfolding pieces_from
from-past p ps page h = grind (arith, nat_tests)

-- all of them
pub from_all : (from page : ℕ) (ps : List Piece) → IsOrdered from ps → page ≤ from → pieces_from page ps ≡ ps
from_all from page [] o h = from-nil page
from_all from page (p ∷ ps) o h = from-here p ps page (omega (arith, o.0))

-- none up to a piece that begins below the page
pub from_behind : (from : ℕ) (xs : List Piece) (q : Piece) (ys : List Piece) (page : ℕ) → IsOrdered from (xs ++ q ∷ ys) → q.first < page
    → pieces_from page (xs ++ q ∷ ys) ≡ pieces_from page ys
unfolding pieces_from
from_behind from [] q ys page o h = grind (arith, nat_tests)
from_behind from (x ∷ xs) q ys page o h =
    let e = from_behind (x.last + 1) xs q ys page o.3 h in
    let b = first_from (x.last + 1) xs q ys o.3 in grind (arith, nat_tests)

-- the first of them lies before a piece that does not, or is that piece
pub from_before : (xs : List Piece) (q : Piece) (ys : List Piece) (page : ℕ) (none : Option Piece) → page ≤ q.first
    → first_or (pieces_from page (xs ++ q ∷ ys)) none ≡ first_or (pieces_from page xs) (Some q)
unfolding pieces_from
from_before [] q ys page none h = grind (arith, nat_tests)
from_before (x ∷ xs) q ys page none h = let e = from_before xs q ys page none h in grind (arith, nat_tests)

-- the first of them, and those behind it
step : (p : Piece) (ps : List Piece) (page : ℕ) (q : Piece) → first_or (pieces_from page (p ∷ ps)) None ≡ Some q
    → ((page ≤ p.first) × (p ≡ q)) ⊎ ((p.first < page) × (first_or (pieces_from page ps) None ≡ Some q))
step p ps page q e = elim (order page p.first) [
  | inl k ↦ inl (k, (cc (from-here p ps page k)))
  | inr k ↦ inr (k, (cc (from-past p ps page k)))
]

none_from : (page : ℕ) (p : Piece) → first_or (pieces_from page []) None ≡ Some p → ⊥
unfolding pieces_from
none_from page p e = cc

-- the first of them begins at the page or after it
pub from_found : (from : ℕ) (ps : List Piece) (page : ℕ) (p : Piece) → IsOrdered from ps → first_or (pieces_from page ps) None ≡ Some p
    → (page ≤ p.first) × (p.first ≤ p.last)
from_found from [] page p o e = absurd (none_from page p e)
from_found from (x ∷ xs) page p o e = elim (step x xs page p e) [
  | inl k ↦ subst (λ (q : Piece). (page ≤ q.first) × (q.first ≤ q.last)) k.1 (k.0, o.1)
  | inr k ↦ from_found (x.last + 1) xs page p o.3 k.1
]

-- and behind it lie those from the page after it on
pub from_step : (from : ℕ) (ps : List Piece) (page : ℕ) (p : Piece) → IsOrdered from ps → first_or (pieces_from page ps) None ≡ Some p
    → pieces_from page ps ≡ p ∷ pieces_from (p.last + 1) ps
from_step from [] page p o e = absurd (none_from page p e)
from_step from (x ∷ xs) page p o e = elim (step x xs page p e) [
  | inl k ↦ cc (from-here x xs page k.0, from-past x xs (x.last + 1) (omega arith), from_all (x.last + 1) (x.last + 1) xs o.3 (omega arith))
  | inr k ↦
      let w = from_found (x.last + 1) xs page p o.3 k.1 in
      cc (from-past x xs page k.0, from_step (x.last + 1) xs page p o.3 k.1, from-past x xs (p.last + 1) (omega arith))
]

-- ---- what is found

from_in : (ps : List Piece) (page : ℕ) (p : Piece) → first_or (pieces_from page ps) None ≡ Some p → IsIn p ps
from_in [] page p e = absurd (none_from page p e)
from_in (x ∷ xs) page p e = elim (step x xs page p e) [ inl k ↦ inl (sym k.1) | inr k ↦ inr (from_in xs page p k.1) ]

-- what is found is the number of a page
pub from_narrow : (ps : List Piece) (page : ℕ) (p : Piece) → AreSorted 0 ps → first_or (pieces_from page ps) None ≡ Some p → IsPiece p
from_narrow ps page p s e = sorted_in 0 ps p s (from_in ps page p e)
