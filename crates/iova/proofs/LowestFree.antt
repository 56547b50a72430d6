-- The page below which no free piece begins, the lowest free piece, and the first that is long enough.
use Rattle.iova.proofs.Names.{◌≡◌, ◌≢◌, ℕ, ◌+◌, ◌%◌, ◌<◌, ◌≤◌, max, List, [], ◌∷◌, Some, refl, ◌∙◌, inl, inr, arith, nat_tests, IsIn}
use Rattle.iova.proofs.Names.{PageState, Free, Piece, IsOrdered, NoneFreeBelow, state_at, Holds, IsFit, IsLowestFit}
use Rattle.iova.proofs.Pieces.{put, order, state-here}
use Rattle.iova.proofs.Among.{in_le, in_state, put_only}
use Rattle.iova.proofs.searches.Fit.{touching}
use Rattle.iova.proofs.searches.Found.{holds}

-- no piece begins below the first page
pub none_below_start : (from : ℕ) (ps : List Piece) → IsOrdered from ps → NoneFreeBelow from ps
none_below_start from ps o p m free = (in_le from p ps o m).0

pub none_below_less : (less low : ℕ) (ps : List Piece) → less ≤ low → NoneFreeBelow low ps → NoneFreeBelow less ps
none_below_less less low ps h none p m free = let a = none p m free in omega arith

-- a piece that is put begins there, if it is free
pub none_below_put : (low first last : ℕ) (s : PageState) (ps : List Piece) → IsOrdered 1 ps → first ≤ last → NoneFreeBelow low ps
    → (s ≡ Free → low ≤ first) → NoneFreeBelow low (put first last s ps)
none_below_put low first last s ps o w none own q m free = elim (put_only first last s q ps o m) [
  | inl e ↦ let a = own (cc) in grind arith
  | inr x ↦ let a = none x.0 x.1 (x.2.state ∙ free) in omega (arith, x.2.begins)
]

-- a piece in use that is put there leaves none below what lies behind it
pub none_below_used : (low first last : ℕ) (s : PageState) (ps : List Piece) → IsOrdered 1 ps → first ≤ last → NoneFreeBelow low ps
    → s ≢ Free → first ≤ low → NoneFreeBelow (max low (last + 1)) (put first last s ps)
none_below_used low first last s ps o w none used h q m free = elim (put_only first last s q ps o m) [
  | inl e ↦ absurd (used (cc))
  | inr x ↦
      let a = none x.0 x.1 (x.2.state ∙ free) in
      let b = x.2.apart in
      let c = x.2.begins in
      let d = x.2.some in grind arith
]

-- as many pages as a free piece has fit at its first
pages_fit : (q : Piece) (pages unit : ℕ) (ps : List Piece) → IsOrdered 1 ps → IsIn q ps → q.state ≡ Free → q.first + pages ≤ q.last + 1
    → q.first % unit ≡ 0 → IsFit ps pages unit q.first
pages_fit q pages unit ps o m free h aligned =
    record { aligned = aligned; free = λ page w. cc (in_state 1 q ps page o m w.0 (omega (arith, w.1))) }

-- no free piece begins below the lowest free page
pub none_below_lowest : (start : ℕ) (ps : List Piece) → IsOrdered 1 ps → IsLowestFit ps 1 1 start → NoneFreeBelow start ps
none_below_lowest start ps o i q m free =
    let w = in_le 1 q ps o m in i.lowest q.first (pages_fit q 1 1 ps o m free (omega arith) (omega arith))

-- the piece that a page with a state lies in
pub holding : (ps : List Piece) (page : ℕ) (s : PageState) → state_at ps page ≡ Some s
    → (q : Piece) × IsIn q ps × Holds q page × (q.state ≡ s)
unfolding state_at
holding [] page s e = absurd (cc)
holding (p ∷ ps) page s e = elim (holds p page) [
  | inl h ↦ (p, inl refl, h, cc (state-here p ps page h.0 h.1))
  | inr h ↦ let r = holding ps page s (grind (arith, nat_tests)) in (r.0, inr r.1, r.2, r.3)
]

-- the page after a free piece isn't free
next_not_free : (from : ℕ) (q : Piece) (ps : List Piece) → IsOrdered from ps → IsIn q ps → q.state ≡ Free
    → state_at ps (q.last + 1) ≢ Some Free
unfolding state_at
next_not_free from q [] o m free e = absurd m
next_not_free from q (p ∷ ps) o m free e =
    let w = in_le (p.last + 1) q ps o.3 in
    let r = next_not_free (p.last + 1) q ps o.3 in
    let t = touching p ps o.3 in grind (arith, nat_tests)

-- so many pages at the front of the first free piece that has them are the lowest that fit, if they may begin there
pub front_first : (p : Piece) (pages unit : ℕ) (ps : List Piece) → IsOrdered 1 ps → IsIn p ps → p.state ≡ Free
    → ((q : Piece) → IsIn q ps → q.state ≡ Free → q.first < p.first → q.last + 1 < q.first + pages)
    → 1 ≤ pages → p.first + pages ≤ p.last + 1 → p.first % unit ≡ 0 → IsLowestFit ps pages unit p.first
front_first p pages unit ps o m free none some room aligned = record {
  fit = pages_fit p pages unit ps o m free room aligned;
  lowest = λ other fit. elim (order p.first other) [
    | inl k ↦ k
    | inr k ↦
        let h = holding ps other Free (fit.free other (omega arith, omega arith)) in
        let a = none h.0 h.1 h.3 (omega (arith, h.2.0)) in
        absurd (next_not_free 1 h.0 ps o h.1 h.3 (fit.free (h.0.last + 1) (omega (arith, h.2.1), omega (arith, h.2.0))))
  ];
}
