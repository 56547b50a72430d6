-- The lowest aligned start.
use Rattle.iova.proofs.Names.{◌≡◌, ℕ, ◌+◌, ◌≤◌, max, List, [], ◌∷◌, Some, sym, ◌∙◌, inl, inr, refl, arith, IsTrue, PageState, Free, Live}
use Rattle.iova.proofs.Names.{Retired, Piece, is_free, state_at, Touches, IsOrdered, IsFit, IsRoundUp, HasNoRoom}
use Rattle.iova.proofs.Pieces.{order, state-here, state-past, state_none}
use Rattle.iova.proofs.Puts.{none_some}

pub is_free_at : (u : PageState) → Some u ≡ Some Free → IsTrue (is_free u)
is_free_at Free h = refl
is_free_at Live h = absurd (cc)
is_free_at Retired h = absurd (cc)

pub touching : (p : Piece) (ps : List Piece) → IsOrdered (p.last + 1) ps → IsTrue (is_free p.state) → state_at ps (p.last + 1) ≡ Some Free
    → Touches p ps
unfolding state_at
touching p [] o f e = absurd (cc)
touching p (q ∷ ps) o f e = elim (order q.first (p.last + 1)) [
  | inl h ↦ (f, is_free_at q.state (cc (state-here q ps (p.last + 1) h (omega arith))), omega arith)
  | inr h ↦ absurd (none_some (q ∷ ps) (p.last + 1) Free (state_none q.first (q ∷ ps) (p.last + 1) (omega arith, o.1, o.2, o.3) h) e)
]

-- pages that fit begin where the pieces begin or behind
pub fit_from : (from pages unit start : ℕ) (ps : List Piece) → IsOrdered from ps → 1 ≤ pages → IsFit ps pages unit start → from ≤ start
fit_from from pages unit start ps o pos f = elim (order from start) [
  | inl h ↦ h
  | inr h ↦ absurd (none_some ps start Free (state_none from ps start o h) (f.free start (omega arith)))
]

-- the lowest of the starts from the floor on
pub record IsLowestAbove (floor : ℕ) (pieces : List Piece) (pages unit start : ℕ) : Type 0 where
  pub fit : IsFit pieces pages unit start
  pub above : floor ≤ start
  pub lowest : (other : ℕ) → IsFit pieces pages unit other → floor ≤ other → start ≤ other

pub fits_here : (floor from : ℕ) (p : Piece) (ps : List Piece) (pages unit up : ℕ) → IsOrdered from (p ∷ ps) → p.state ≡ Free
    → IsRoundUp (max p.first floor) unit up → up + pages ≤ p.last + 1 → 1 ≤ pages → IsLowestAbove floor (p ∷ ps) pages unit up
fits_here floor from p ps pages unit up o f r h pos = record {
  fit = record { aligned = r.0; free = λ page w. cc (state-here p ps page (omega arith) (omega arith)) };
  above = omega arith;
  lowest = λ other fits high.
      let k = fit_from p.first pages unit other (p ∷ ps) (omega arith, o.1, o.2, o.3) pos fits in r.2 other fits.aligned (omega arith);
}

pub fits_tail : (floor from : ℕ) (p : Piece) (ps : List Piece) (pages unit t : ℕ) → IsOrdered from (p ∷ ps)
    → HasNoRoom floor pages unit p → 1 ≤ pages → IsFit (p ∷ ps) pages unit t → floor ≤ t → IsFit ps pages unit t
fits_tail floor from p ps pages unit t o n pos f high =
    let k = fit_from p.first pages unit t (p ∷ ps) (omega arith, o.1, o.2, o.3) pos f in
    elim (order t p.last) [
      | inr l ↦ record { aligned = f.aligned; free = λ page w. sym (state-past p ps page (omega arith)) ∙ f.free page w }
      | inl l ↦
          let free = is_free_at p.state (sym (state-here p ps t k l) ∙ f.free t (omega arith)) in
          elim (order (t + pages) (p.last + 1)) [
            | inl m ↦ absurd (n free t (omega arith) f.aligned m)
            | inr m ↦
                let next = sym (state-past p ps (p.last + 1) (omega arith)) ∙ f.free (p.last + 1) (omega arith) in
                absurd (o.2 (touching p ps o.3 free next))
          ]
    ]

pub fits_cons : (from : ℕ) (p : Piece) (ps : List Piece) (pages unit t : ℕ) → IsOrdered from (p ∷ ps) → 1 ≤ pages → IsFit ps pages unit t
    → IsFit (p ∷ ps) pages unit t
fits_cons from p ps pages unit t o pos f =
    let k = fit_from (p.last + 1) pages unit t ps o.3 pos f in
    record { aligned = f.aligned; free = λ page w. state-past p ps page (omega arith) ∙ f.free page w }
