-- Where a piece of the chain lies.
use Rattle.iova.proofs.Names.{◌≡◌, ℕ, zero, suc, ◌+◌, ◌-◌, ◌<◌, List, [], ◌∷◌, length, get_or, slice_get, Some, refl, ap, sym, ◌∙◌, subst}
use Rattle.iova.proofs.Names.{inl, arith, get_or-append_seam, IsIn, Ends, Live, Piece, FollowOn, IsAt, pages_as}
use Rattle.iova.proofs.Among.{in_append_right}

-- a piece that begins and ends with the pages lies at its place
pub at_place : (chain : List Piece) (place : ℕ) (p d : Piece) (pages : Ends) → place < length chain → p ≡ get_or chain place d
    → p.first ≡ pages.first → p.last ≡ pages.last → IsAt chain pages place
at_place [] place p d pages l is f g = absurd (omega arith)
at_place (q ∷ chain) zero p d pages l is f g =
    let first = ap (λ n. record { first = n; last = q.last; state = q.state }) (ap (λ (r : Piece). r.first) (sym is) ∙ f) in
    let last = ap (λ n. record { first = pages.first; last = n; state = q.state }) (ap (λ (r : Piece). r.last) (sym is) ∙ g) in
    ([], q.state, chain, ap (λ r. r ∷ chain) (first ∙ last), refl)
at_place (q ∷ chain) (suc place) p d pages l is f g =
    let r = at_place chain place p d pages (omega arith) is f g in (q ∷ r.0, r.1, r.2, ap (λ l. q ∷ l) r.3, ap suc r.4)

-- and it is live, if the piece at that place is
pub live_there : (chain : List Piece) (pages : Ends) (place : ℕ) (d : Piece) → IsAt chain pages place
    → (get_or chain place d).state ≡ Live → IsIn (pages_as pages Live) chain
live_there chain pages place d at live =
    let q : Piece = pages_as pages at.1 in
    let same : get_or chain place d ≡ q = cc (at.3, at.4, get_or-append_seam at.0 q at.2 d) in
    let state : at.1 ≡ Live = cc in
    subst (λ s. IsIn (pages_as pages s) chain) state
    (subst (λ l. IsIn q l) (sym at.3) (in_append_right q at.0 (q ∷ at.2) (inl refl)))

-- pieces that follow on end with the last one
follow_last : (from : ℕ) (chain : List Piece) (end n : ℕ) (q : Piece) → FollowOn from chain end → n + 1 ≡ length chain
    → slice_get chain n ≡ Some q → FollowOn from chain (q.last + 1)
follow_last from [] end n q f l g = absurd (omega arith)
follow_last from (r ∷ []) end zero q f l g = (f.0, f.1, f.2, cc)
follow_last from (r ∷ s ∷ chain) end zero q f l g = absurd (omega arith)
follow_last from (r ∷ chain) end (suc n) q f l g = (f.0, f.1, f.2, follow_last (r.last + 1) chain end n q f.3 (omega arith) g)

-- from the first of the first piece to the last of the last one
pub follow_got : (from : ℕ) (chain : List Piece) (end : ℕ) (p q : Piece) → FollowOn from chain end → slice_get chain 0 ≡ Some p
    → slice_get chain (length chain - 1) ≡ Some q → FollowOn p.first chain (q.last + 1) × (ps : List Piece) × (chain ≡ p ∷ ps)
follow_got from [] end p q f e g = absurd (cc)
follow_got from (r ∷ chain) end p q f e g =
    let same : r ≡ p = cc in
    let h = follow_last from (r ∷ chain) end (length (r ∷ chain) - 1) q f (omega arith) g in
    ((cc, h.1, h.2, h.3), chain, cc)

-- from a page on they end with one page
pub ends_alike : (from : ℕ) (chain : List Piece) (end other : ℕ) → FollowOn from chain end → FollowOn from chain other → end ≡ other
ends_alike from [] end other f g = sym f ∙ g
ends_alike from (p ∷ chain) end other f g = ends_alike (p.last + 1) chain end other f.3 g.3
