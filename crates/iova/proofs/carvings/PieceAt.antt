-- The piece that a page lies in, by where the pieces that end below the page end.
use Rattle.iova.proofs.Names.{◌≡◌, ◌≢◌, ℕ, zero, suc, ◌+◌, ◌<◌, ◌≤◌, nat_lt, true, false, List, [], ◌∷◌, length, get_or, slice_get, Some}
use Rattle.iova.proofs.Names.{None, ap, inl, inr, ltb-true, ltb-false, ◌∙◌, arith, IsPartitionedBy, IsPartitionPoint, IsNonDecreasingBy}
use Rattle.iova.proofs.Names.{IsPartitionedBy-ltb, Free, Piece, FollowOn, IsOrdered, Touches, piece_at, IsIn, slice_get-get_or}
use Rattle.iova.proofs.Pieces.{from_le}
use Rattle.iova.proofs.searches.Found.{at-nil, at-other, at_none, at_of}
use Rattle.iova.proofs.Puts.{free_state}

-- where each piece up to an index ends below the page, and the one there begins behind it
pub at_gap : (from : ℕ) (ps : List Piece) (page i : ℕ) (d : Piece) → IsOrdered from ps
    → ((k : ℕ) → k < i → (get_or ps k d).last < page) → (i < length ps → page < (get_or ps i d).first) → piece_at ps page ≡ None
at_gap from [] page i d o b h = at-nil page
at_gap from (p ∷ ps) page zero d o b h =
    let u = h (omega arith) in at-other p ps page (omega arith) ∙ at_none (p.last + 1) ps page o.3 (omega arith)
at_gap from (p ∷ ps) page (suc i) d o b h =
    let u = b 0 (omega arith) in
    at-other p ps page (omega arith)
    ∙ at_gap (p.last + 1) ps page i d o.3 (λ k m. b (suc k) (omega arith)) (λ l. h (omega arith))

-- pieces that follow on are in order
in_use : (p : Piece) (ps : List Piece) → p.state ≢ Free → Touches p ps → ⊥
in_use p [] n t = t
in_use p (q ∷ ps) n t = n (free_state p.state t.0)

pub follow_ordered : (from : ℕ) (ps : List Piece) (end : ℕ) → FollowOn from ps end → IsOrdered from ps
follow_ordered from [] end f = tt
follow_ordered from (p ∷ ps) end f = (omega arith, f.1, in_use p ps f.2, follow_ordered (p.last + 1) ps end f.3)

-- pieces in order end in order
ends_rise : (from : ℕ) (ps : List Piece) → IsOrdered from ps → IsNonDecreasingBy (λ p. p.last) ps
ends_rise from ps o i j d h l = rise from ps i j d o h l
  where
    rise : (from : ℕ) (ps : List Piece) (i j : ℕ) (d : Piece) → IsOrdered from ps → i ≤ j → j < length ps
        → (get_or ps i d).last ≤ (get_or ps j d).last
    rise from [] i j d o h l = absurd (omega arith)
    rise from (p ∷ ps) zero zero d o h l = omega arith
    rise from (p ∷ ps) zero (suc j) d o h l = omega (arith, from_le (p.last + 1) ps j d o.3 (omega arith))
    rise from (p ∷ ps) (suc i) zero d o h l = absurd (omega arith)
    rise from (p ∷ ps) (suc i) (suc j) d o h l = rise (p.last + 1) ps i j d o.3 (omega arith) (omega arith)

-- those that end below the page come first
pub ends_parted : (from : ℕ) (ps : List Piece) (page : ℕ) → IsOrdered from ps → IsPartitionedBy (λ p. nat_lt p.last page) ps
ends_parted from ps page o = IsPartitionedBy-ltb (λ p. p.last) ps page (ends_rise from ps o)

in_got : (ps : List Piece) (i : ℕ) (q : Piece) → slice_get ps i ≡ Some q → IsIn q ps
in_got [] i q e = absurd (cc)
in_got (p ∷ ps) zero q e = inl (cc)
in_got (p ∷ ps) (suc i) q e = inr (in_got ps i q e)

-- how many end below the page
abbrev pub EndsPart : List Piece → ℕ → ℕ → Type 0
EndsPart ps page i = IsPartitionPoint (λ p. nat_lt p.last page ≡ true) (λ p. nat_lt p.last page ≡ false) ps i

pub at_point : (from : ℕ) (ps : List Piece) (page i : ℕ) (q : Piece) → IsOrdered from ps → EndsPart ps page i → i < length ps
    → q ≡ get_or ps i q → q.first ≤ page → piece_at ps page ≡ Some q
at_point from ps page i q o e l is h =
    let past = ltb-false (get_or ps i q).last page (e.1 i q (omega arith) l) in
    let f = ap (λ p. p.last) is in
    at_of from q ps page o (in_got ps i q (cc (slice_get-get_or ps i q l))) h (omega arith)

pub none_at_point : (from : ℕ) (ps : List Piece) (page i : ℕ) (d : Piece) → IsOrdered from ps → EndsPart ps page i
    → (i < length ps → page < (get_or ps i d).first) → piece_at ps page ≡ None
none_at_point from ps page i d o e h =
    at_gap from ps page i d o (λ k m. ltb-true (get_or ps k d).last page (e.0 k d (omega arith) m)) h

-- ---- by the last piece

pub at_last : (from : ℕ) (ps : List Piece) (page n : ℕ) (q : Piece) → IsOrdered from ps → n + 1 ≡ length ps → slice_get ps n ≡ Some q
    → q.first ≤ page → page ≤ q.last → piece_at ps page ≡ Some q
at_last from ps page n q o k e h l = at_of from q ps page o (in_got ps n q e) h l

pub none_past_last : (from : ℕ) (ps : List Piece) (page n : ℕ) (q : Piece) → IsOrdered from ps → n + 1 ≡ length ps
    → slice_get ps n ≡ Some q → q.last < page → piece_at ps page ≡ None
none_past_last from ps page n q o k e l =
    let at : get_or ps n q ≡ q = cc (slice_get-get_or ps n q (omega arith)) in
    let f = ap (λ p. p.last) at in
    at_gap from ps page (n + 1) q o (λ i m. let r = ends_rise from ps o i n q (omega arith) (omega arith) in omega arith) (omega arith)
