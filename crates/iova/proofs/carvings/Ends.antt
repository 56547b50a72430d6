-- The first of the pieces that were carved, or the last one, comes free.
use Rattle.iova.proofs.Names.{◌≡◌, ◌+◌, ◌-◌, ◌≤◌, ◌⊎◌, List, [], ◌∷◌, ◌++◌, refl, sym, ◌∙◌, inl, subst, arith, Option, None, Some, Range}
use Rattle.iova.proofs.Names.{IsIn, Ends, Stock, PageState, Live, Piece, AreCarved, FollowOn, IsCarved, LosesEnd, with_carved, with_pieces}
use Rattle.iova.proofs.Names.{Frees, FreesLive, FreesRun, IsRun, piece_of, Space, IsSpace, MayRetire, pages_as}
use Rattle.iova.proofs.Among.{in_append_right}
use Rattle.iova.proofs.Freed.{frees, one_run}
use Rattle.iova.proofs.FreedLive.{frees_live}
use Rattle.iova.proofs.FreedRun.{frees_run}
use Rattle.iova.proofs.searches.Holding.{may_whole}
use Rattle.iova.proofs.carvings.GivenBack.{less, less_is}
use Rattle.iova.proofs.carvings.InPlace.{follow_parts}
use Rattle.iova.proofs.carvings.State.{carved_space, carving, chain_there}

-- the pages of a range as a piece
pub as_piece : (pages : Ends) (range : Range) (s : PageState) → pages.first ≡ range.first → pages.last ≡ range.first + range.pages - 1
    → pages_as pages s ≡ piece_of range s
as_piece pages range s f l = cc

-- what a space is once a piece at an end of the chain has come free
pub record EndFreed (a old : Space) (now : List Piece) (stock : Option Stock) (range : Range) : Type 0 where
  pub carved : IsCarved a.pieces now stock
  pub spaces : IsSpace old × IsSpace (with_carved now a)
  pub freed : (s : PageState) → IsIn (piece_of range s) old.pieces → Frees old (with_carved now a) range s
  pub freed_run : (s : PageState) → IsRun (piece_of range s) old.pieces → FreesRun old (with_carved now a) range s
  pub freed_live : MayRetire old.pieces range → FreesLive old (with_carved now a) range

-- a piece that was carved, with those before it and behind it
end_freed : (a : Space) (sp : IsSpace a) (stock : Stock) (before : List Piece) (pages : Ends) (st : PageState) (behind : List Piece)
    (c : AreCarved a.pieces (before ++ pages_as pages st ∷ behind) stock) (range : Range) → pages.first ≡ range.first
    → pages.last ≡ range.first + range.pages - 1 → 1 ≤ range.pages → (before ≡ []) ⊎ (behind ≡ [])
    → EndFreed a (with_carved (before ++ pages_as pages st ∷ behind) a) (before ++ behind) (Some stock) range
end_freed a sp stock before pages st behind c range first last some side =
    let e : Piece = pages_as pages st in
    let view : Space = with_carved (before ++ e ∷ behind) a in
    let now : Space = with_carved (before ++ behind) a in
    let sv : IsSpace view = carved_space (carving sp c) in
    let parts = follow_parts c.from before (e ∷ behind) c.end c.follow in
    let front : FollowOn c.from before range.first = subst (λ n. FollowOn c.from before n) (omega (arith, parts.2.0)) parts.1 in
    let here : FollowOn range.first (e ∷ []) (range.first + range.pages) = (first, parts.2.1, parts.2.2, omega arith) in
    let back : FollowOn (range.first + range.pages) behind c.end = subst (λ n. FollowOn n behind c.end) (omega arith) parts.2.3 in
    let rest = less sp before (e ∷ []) behind c range (omega arith) side front here back in
    let there : IsIn (piece_of range st) view.pieces = subst (λ p. IsIn p view.pieces) (as_piece pages range st first last)
    (chain_there (carving sp c) e (in_append_right e before (e ∷ behind) (inl refl))) in
    let run = one_run (piece_of range st) view.pieces there in
    let is = less_is sp before (e ∷ []) behind c range (omega arith) side front here back st run in
    record {
      carved = rest;
      spaces = (sv, carved_space (carving sp rest));
      freed = λ s i. frees view now range s sv some i is;
      freed_run = λ s run. frees_run view now range s sv some run is;
      freed_live = λ may. frees_live view range sv some may now is;
    }

pub not_empty : (before : List Piece) (e : Piece) (behind : List Piece) → [] ≡ before ++ e ∷ behind → ⊥
not_empty [] e behind h = cc
not_empty (x ∷ before) e behind h = cc

pub end_freed_in : (a old : Space) (chain now : List Piece) (stock : Option Stock) (pages : Ends) (range : Range) → IsSpace a
    → IsCarved a.pieces chain stock → with_carved chain a ≡ old → LosesEnd chain now pages → pages.first ≡ range.first
    → pages.last ≡ range.first + range.pages - 1 → 1 ≤ range.pages → EndFreed a old now stock range
end_freed_in a old chain now None pages range sp k was w first last some = absurd (not_empty w.0 (pages_as pages w.1) w.2 (sym k ∙ w.3))
end_freed_in a old chain now (Some stock) pages range sp k was w first last some =
    let c = subst (λ l. AreCarved a.pieces l stock) w.3 k in
    rw (← was, w.5, w.3) (end_freed a sp stock w.0 pages w.1 w.2 c range first last some w.4)

-- a live piece of the chain may be retired
pub live_may : (a old : Space) (chain : List Piece) (stock : Option Stock) (pages : Ends) (range : Range) → IsSpace a
    → IsCarved a.pieces chain stock → with_carved chain a ≡ old → IsIn (pages_as pages Live) chain → pages.first ≡ range.first
    → pages.last ≡ range.first + range.pages - 1 → 1 ≤ range.pages → MayRetire old.pieces range
live_may a old chain None pages range sp k was m first last some = absurd (subst (λ l. IsIn (pages_as pages Live) l) k m)
live_may a old chain (Some stock) pages range sp k was m first last some =
    let can = carving sp k in
    rw (← was) (may_whole range (with_pieces chain a.pieces) (carved_space can).ordered some
    (subst (λ p. IsIn p (with_pieces chain a.pieces)) (as_piece pages range Live first last) (chain_there can (pages_as pages Live) m)))
