-- The first of the pieces that were carved are a run of retired pages, which comes free: then those behind it are carved.
use Rattle.iova.proofs.Names.{◌≡◌, ℕ, zero, suc, ◌+◌, ◌-◌, ◌<◌, ◌≤◌, List, [], ◌∷◌, ◌++◌, drop, length, take, Option, Some, None, slice_get}
use Rattle.iova.proofs.Names.{refl, ap, sym, ◌∙◌, inl, subst, arith, take-append-drop, Range, Ends, Stock, Retired, Piece, AreCarved}
use Rattle.iova.proofs.Names.{FollowOn, IsCarved, with_carved, with_pieces, FreesRun, IsRun, piece_of, Space, IsSpace, MayRetire}
use Rattle.iova.proofs.FreedRun.{frees_run, may_still_run}
use Rattle.iova.proofs.carvings.GivenBack.{less, less_is}
use Rattle.iova.proofs.carvings.InPlace.{follow_some}
use Rattle.iova.proofs.carvings.State.{carved_space, carving}

-- those up to one of them, and those behind it
parted_at : (from : ℕ) (chain : List Piece) (end n : ℕ) (q : Piece) → FollowOn from chain end → slice_get chain n ≡ Some q
    → FollowOn from (take (suc n) chain) (q.last + 1) × FollowOn (q.last + 1) (drop (suc n) chain) end × (0 < length (take (suc n) chain))
parted_at from [] end n q f e = absurd (cc)
parted_at from (p ∷ ps) end zero q f e =
    let same : p ≡ q = cc in
    ((f.0, f.1, f.2, ap (λ (r : Piece). r.last + 1) same), subst (λ (r : Piece). FollowOn (r.last + 1) ps end) same f.3, omega arith)
parted_at from (p ∷ ps) end (suc n) q f e = let r = parted_at (p.last + 1) ps end n q f.3 e in ((f.0, f.1, f.2, r.0), r.1, omega arith)

begins_at : (from : ℕ) (chain : List Piece) (end : ℕ) (p : Piece) → FollowOn from chain end → slice_get chain 0 ≡ Some p → p.first ≡ from
begins_at from [] end p f e = absurd (cc)
begins_at from (q ∷ ps) end p f e = cc

-- what a space is once the first pieces that it carved have come free
pub record Left (a old : Space) (now : List Piece) (stock : Option Stock) (range : Range) : Type 0 where
  pub carved : IsCarved a.pieces now stock
  pub spaces : IsSpace old × IsSpace (with_carved now a)
  pub freed : FreesRun old (with_carved now a) range Retired
  pub retirable : (other : Range) → MayRetire old.pieces other → MayRetire (with_pieces now a.pieces) other

-- so many at the front have just the pages of the range
front_freed : (a : Space) (sp : IsSpace a) (row behind : List Piece) (stock : Stock) (c : AreCarved a.pieces (row ++ behind) stock)
    (range : Range) → 0 < length row → c.from ≡ range.first → FollowOn c.from row (range.first + range.pages)
    → FollowOn (range.first + range.pages) behind c.end → IsRun (piece_of range Retired) (with_pieces (row ++ behind) a.pieces)
    → Left a (with_carved (row ++ behind) a) behind (Some stock) range
front_freed a sp row behind stock c range some from there back run =
    let here = subst (λ n. FollowOn n row (range.first + range.pages)) from there in
    let rest = less sp [] row behind c range some (inl refl) from here back in
    let is = less_is sp [] row behind c range some (inl refl) from here back Retired run in
    let old : Space = with_carved (row ++ behind) a in
    let new : Space = with_carved behind a in
    let so : IsSpace old = carved_space (carving sp c) in
    let sn : IsSpace new = carved_space (carving sp rest) in
    let f = frees_run old new range Retired so
    (omega (arith, follow_some range.first row (range.first + range.pages) here some)) run is in
    record { carved = rest; spaces = (so, sn); freed = f; retirable = λ other may. may_still_run old new range other so sn run f may }

pub run_left : (a old : Space) (chain now : List Piece) (stock : Option Stock) (pages : Ends) (count : ℕ) (range : Range) → IsSpace a
    → IsCarved a.pieces chain stock → with_carved chain a ≡ old → now ≡ drop count chain → pages.first ≡ range.first
    → pages.last ≡ range.first + range.pages - 1 → 1 ≤ range.pages → 0 < count
    → (p : Piece) × (slice_get chain 0 ≡ Some p) × (p.first ≡ pages.first)
    → (q : Piece) × (slice_get chain (count - 1) ≡ Some q) × (q.last ≡ pages.last) → IsRun (piece_of range Retired) old.pieces
    → Left a old now stock range
run_left a old chain now None pages count range sp c was is first last some one p q run =
    let g : slice_get [] 0 ≡ Some p.0 = cc in absurd (cc)
run_left a old chain now (Some stock) pages zero range sp c was is first last some one p q run = absurd (omega arith)
run_left a old chain now (Some stock) pages (suc n) range sp c was is first last some one p q run =
    let at : suc n - 1 ≡ n = omega arith in
    let whole = take-append-drop (suc n) chain in
    let view : with_carved (take (suc n) chain ++ drop (suc n) chain) a ≡ old = ap (λ l. with_carved l a) whole ∙ was in
    let k = subst (λ l. AreCarved a.pieces l stock) (sym whole) c in
    let follow = subst (λ l. FollowOn k.from l k.end) whole k.follow in
    let parts = parted_at k.from chain k.end n q.0 follow (subst (λ i. slice_get chain i ≡ Some q.0) at q.1) in
    let end : q.0.last + 1 ≡ range.first + range.pages = omega (arith, q.2) in
    rw (← view, is) (front_freed a sp (take (suc n) chain) (drop (suc n) chain) stock k range parts.2
    (sym (begins_at k.from chain k.end p.0 follow p.1) ∙ p.2 ∙ first)
    (subst (λ e. FollowOn k.from (take (suc n) chain) e) end parts.0) (subst (λ e. FollowOn e (drop (suc n) chain) k.end) end parts.1)
    (subst (λ (v : Space). IsRun (piece_of range Retired) v.pieces) (sym view) run))
