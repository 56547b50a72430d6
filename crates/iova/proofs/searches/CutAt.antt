-- Whether a range cuts a piece, by the pieces of its first and of its last page; and no fit where no piece has room.
use Rattle.iova.proofs.Names.{◌≡◌, ℕ, ◌+◌, ◌<◌, ◌≤◌, List, [], ◌∷◌, Some, ap, sym, ◌↔◌, IsTrue, nat_lt, lt-ltb, ltb-true, inl, inr, subst}
use Rattle.iova.proofs.Names.{arith, AllByRecursion, Range, IsIn, Piece, Free, Holds, IsOrdered, CutsPiece, IsFit, piece_at, HasNoRoom}
use Rattle.iova.proofs.Pieces.{order, state-nil}
use Rattle.iova.proofs.Puts.{none_some}
use Rattle.iova.proofs.Among.{in_one}
use Rattle.iova.proofs.searches.Fit.{fits_tail}
use Rattle.iova.proofs.searches.Found.{at-nil, at-here, at-other, holds}

pub at_in : (ps : List Piece) (page : ℕ) (q : Piece) → piece_at ps page ≡ Some q → IsIn q ps × Holds q page
at_in [] page q e = absurd (cc (at-nil page))
at_in (p ∷ ps) page q e = elim (holds p page) [
  | inl h ↦ let same : p ≡ q = cc (at-here p ps page h.0 h.1) in (inl (sym same), subst (λ x. Holds x page) same h)
  | inr n ↦ let i = at_in ps page q (cc (at-other p ps page n)) in (inr i.0, i.1)
]

cut_none : (ps : List Piece) (range : Range) (last : ℕ) (q r : Piece) → IsOrdered 1 ps → last + 1 ≡ range.first + range.pages
    → IsIn q ps × Holds q range.first → IsIn r ps × Holds r last → range.first ≤ q.first → r.last ≤ last → CutsPiece ps range → ⊥
cut_none ps range last q r o l i j h k c = elim (order range.first c.2.not_all.0) [
  | inr low ↦ omega (arith, ap (λ (z : Piece). z.first) (in_one 1 q c.0 ps range.first o i.0 c.1 i.1 (omega (arith, c.2))))
  | inl high ↦ elim (order (c.2.not_all.0 + 1) (range.first + range.pages)) [
    | inl within ↦ c.2.not_all.2 (omega arith)
    | inr past ↦ omega (arith, ap (λ (z : Piece). z.last) (in_one 1 r c.0 ps last o j.0 c.1 j.1 (omega (arith, c.2))))
  ]
]

-- whether the range cuts a piece, by where that of its first page begins, or else by where that of its last page ends
pub cut_by_first : (ps : List Piece) (range : Range) (q : Piece) → 1 ≤ range.pages → IsIn q ps × Holds q range.first
    → q.first < range.first → IsTrue (nat_lt q.first range.first) ↔ CutsPiece ps range
cut_by_first ps range q pos i h = (
  (λ t. (q, i.0, record { some = (range.first, i.1, omega arith); not_all = (q.first, omega arith, omega arith) })),
  (λ c. lt-ltb q.first range.first h),
)

pub cut_by_last : (ps : List Piece) (range : Range) (last : ℕ) (q r : Piece) → IsOrdered 1 ps → 1 ≤ range.pages
    → last + 1 ≡ range.first + range.pages → IsIn q ps × Holds q range.first → IsIn r ps × Holds r last → range.first ≤ q.first
    → IsTrue (nat_lt last r.last) ↔ CutsPiece ps range
cut_by_last ps range last q r o pos l i j h = (
  (λ t.
      let k = ltb-true last r.last t in
      (r, j.0, record { some = (last, j.1, omega arith); not_all = (r.last, omega arith, omega arith) })),
  (λ c. elim (order r.last last) [
    | inl k ↦ absurd (cut_none ps range last q r o l i j h k c)
    | inr k ↦ lt-ltb last r.last k
  ]),
)

pub no_fit : (floor from pages unit : ℕ) (ps : List Piece) → IsOrdered from ps → 1 ≤ pages
    → AllByRecursion (HasNoRoom floor pages unit) ps → (t : ℕ) → IsFit ps pages unit t → floor ≤ t → ⊥
no_fit floor from pages unit [] o pos n t f high = none_some [] t Free (state-nil t) (f.free t (omega arith, omega arith))
no_fit floor from pages unit (p ∷ ps) o pos n t f high = no_fit floor (p.last + 1) pages unit ps o.3 pos n.1 t
    (fits_tail floor from p ps pages unit t o n.0 pos f high) high
