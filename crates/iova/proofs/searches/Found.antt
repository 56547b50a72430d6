-- The piece that a page lies in, and the lowest start where one was found.
use Rattle.iova.proofs.Names.{◌≡◌, ℕ, ◌+◌, ◌<◌, ◌≤◌, max, List, [], ◌∷◌, ◌++◌, Some, None, IsTrue, refl, sym, ◌⊎◌, inl, inr, subst, arith}
use Rattle.iova.proofs.Names.{AllByRecursion, nat_tests, Piece, Holds, is_free, piece_at, HasNoRoom, IsFound, IsRoundUp, IsOrdered, IsIn}
use Rattle.iova.proofs.Names.{IsLowestFit}
use Rattle.iova.proofs.Pieces.{order}
use Rattle.iova.proofs.Among.{in_le}
use Rattle.iova.proofs.searches.Fit.{IsLowestAbove, fits_here, fits_tail, fits_cons}
use Rattle.iova.proofs.Puts.{free_state}

pub at-nil : (page : ℕ) → piece_at [] page ≡ None
unfolding piece_at
at-nil page = refl

pub at-here : (p : Piece) (ps : List Piece) (page : ℕ) → p.first ≤ page → page ≤ p.last → piece_at (p ∷ ps) page ≡ Some p
unfolding piece_at
at-here p ps page l h = grind (arith, nat_tests)

pub at_none : (from : ℕ) (ps : List Piece) (page : ℕ) → IsOrdered from ps → page < from → piece_at ps page ≡ None
unfolding piece_at
at_none from [] page o h = refl
at_none from (p ∷ ps) page o h = let e = at_none (p.last + 1) ps page o.3 (omega arith) in grind (arith, nat_tests)

-- whether a piece has a page, and else it lies where it does behind that piece
pub holds : (p : Piece) (page : ℕ) → Holds p page ⊎ (Holds p page → ⊥)
holds p page = elim (order p.first page) [
  | inr k ↦ inr (omega arith)
  | inl k ↦ elim (order page p.last) [ inl l ↦ inl (k, l) | inr l ↦ inr (omega arith) ]
]

pub at-other : (p : Piece) (ps : List Piece) (page : ℕ) → (Holds p page → ⊥) → piece_at (p ∷ ps) page ≡ piece_at ps page
unfolding piece_at
at-other p ps page n = grind (arith, nat_tests)

-- a piece that is there is the piece of its pages
pub at_of : (from : ℕ) (q : Piece) (ps : List Piece) (page : ℕ) → IsOrdered from ps → IsIn q ps → q.first ≤ page → page ≤ q.last
    → piece_at ps page ≡ Some q
unfolding piece_at
at_of from q [] page o m l h = absurd m
at_of from q (p ∷ ps) page o m l h =
    let r = in_le (p.last + 1) q ps o.3 in
    let e = at_of (p.last + 1) q ps page o.3 in grind (arith, nat_tests)

-- the first piece with room has the lowest start
lowest_at : (floor from pages unit : ℕ) (xs : List Piece) (q : Piece) (ys : List Piece) (start : ℕ) → IsOrdered from (xs ++ q ∷ ys)
    → 1 ≤ pages → AllByRecursion (HasNoRoom floor pages unit) xs → IsTrue (is_free q.state) → IsRoundUp (max q.first floor) unit start
    → start + pages ≤ q.last + 1 → IsLowestAbove floor (xs ++ q ∷ ys) pages unit start
lowest_at floor from pages unit [] q ys start o pos n f u r =
    fits_here floor from q ys pages unit start o (free_state q.state f) u r pos
lowest_at floor from pages unit (x ∷ xs) q ys start o pos n f u r =
    let i = lowest_at floor (x.last + 1) pages unit xs q ys start o.3 pos n.1 f u r in
    record {
      fit = fits_cons from x (xs ++ q ∷ ys) pages unit start o pos i.fit;
      above = i.above;
      lowest = λ other g high. i.lowest other (fits_tail floor from x (xs ++ q ∷ ys) pages unit other o n.0 pos g high) high;
    }

pub found_above : (floor from pages unit : ℕ) (ps : List Piece) (start : ℕ) (p : Piece) → IsOrdered from ps → 1 ≤ pages
    → IsFound floor pages unit ps start p → IsLowestAbove floor ps pages unit start
found_above floor from pages unit ps start p o pos f =
    subst (λ l. IsLowestAbove floor l pages unit start) (sym f.parts)
    (lowest_at floor from pages unit f.before p f.behind start (subst (λ l. IsOrdered from l) f.parts o) pos f.none f.here.free f.here.up
    f.here.room)

pub found_lowest : (from pages unit : ℕ) (ps : List Piece) (start : ℕ) (p : Piece) → IsOrdered from ps → 1 ≤ pages
    → IsFound 0 pages unit ps start p → IsLowestFit ps pages unit start
found_lowest from pages unit ps start p o pos f =
    let i = found_above 0 from pages unit ps start p o pos f in
    record { fit = i.fit; lowest = λ other g. i.lowest other g (omega arith) }
