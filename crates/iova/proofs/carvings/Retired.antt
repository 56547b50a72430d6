-- One of the pieces that were carved is retired.
use Rattle.iova.proofs.Names.{◌≡◌, ℕ, ◌+◌, ◌-◌, ◌≤◌, List, ◌∷◌, ◌++◌, length, refl, ap, sym, ◌∙◌, subst, arith, append_assoc, length-append}
use Rattle.iova.proofs.Names.{Option, None, Some, Range, Ends, Stock, PageState, Retired, Piece, AreCarved, FollowOn, IsAt, IsCarved}
use Rattle.iova.proofs.Names.{with_carved, with_pieces, Retires, IsOrdered, piece_of, with_piece, Space, IsSpace, MayRetire, rest_below}
use Rattle.iova.proofs.Names.{pages_as, IsIn}
use Rattle.iova.proofs.Taken.{retires}
use Rattle.iova.proofs.parts.Over.{with_alike}
use Rattle.iova.proofs.carvings.Ends.{as_piece, not_empty}
use Rattle.iova.proofs.carvings.InPlace.{follow_both, follow_parts, follow_some, free_piece, row_is, before as front, behind as back}
use Rattle.iova.proofs.carvings.State.{carved_space, carving, recarved}

-- pieces of which one has another state follow on one another as before
pub follow_state : (from : ℕ) (before : List Piece) (p : Piece) (behind : List Piece) (end : ℕ) → FollowOn from (before ++ p ∷ behind) end
    → FollowOn from (before ++ record p { state = Retired } ∷ behind) end
follow_state from before p behind end f =
    let r = follow_parts from before (p ∷ behind) end f in
    follow_both from before (record p { state = Retired } ∷ behind) r.0 end r.1 (r.2.0, r.2.1, (λ h. absurd (cc)), r.2.3)

-- what a space is once a piece of the chain is retired
pub record NowRetired (a old : Space) (now : List Piece) (stock : Option Stock) (range : Range) : Type 0 where
  pub carved : IsCarved a.pieces now stock
  pub spaces : IsSpace old × IsSpace (with_carved now a)
  pub retired : MayRetire old.pieces range → Retires old (with_carved now a) range

-- the list, with any piece of these pages
listed : {a : Space} (sp : IsSpace a) (stock : Stock) (there : IsIn (free_piece stock.pages.first stock.pages.last) a.pieces)
    (before : List Piece) (p : Piece) (behind : List Piece) (from end : ℕ) → stock.pages.first ≤ from
    → FollowOn from (before ++ p ∷ behind) end → end ≤ stock.pages.last
    → with_pieces (before ++ p ∷ behind) a.pieces
    ≡ ((front sp stock.pages.first stock.pages.last there ++ rest_below from (free_piece stock.pages.first stock.pages.last)) ++ before)
    ++ p ∷ (behind ++ free_piece end stock.pages.last ∷ back sp stock.pages.first stock.pages.last there)
listed sp stock there before p behind from end low f left =
    let first = stock.pages.first in
    let last = stock.pages.last in
    let R : List Piece = free_piece end last ∷ back sp first last there in
    let some = follow_some from (before ++ p ∷ behind) end f (omega (arith, length-append before (p ∷ behind))) in
    let all = row_is sp first last there (before ++ p ∷ behind) from end low f some left in
    let apart = append_assoc (front sp first last there ++ rest_below from (free_piece first last)) before (p ∷ (behind ++ R)) in
    cc (append_assoc before (p ∷ behind) R)

one_retired : (a : Space) (sp : IsSpace a) (stock : Stock) (before : List Piece) (pages : Ends) (st : PageState) (behind : List Piece)
    (c : AreCarved a.pieces (before ++ pages_as pages st ∷ behind) stock) (range : Range) → pages.first ≡ range.first
    → pages.last ≡ range.first + range.pages - 1 → 1 ≤ range.pages
    → NowRetired a (with_carved (before ++ pages_as pages st ∷ behind) a) (before ++ pages_as pages Retired ∷ behind) (Some stock) range
one_retired a sp stock before pages st behind c range first last some =
    let e : Piece = pages_as pages st in
    let gone : Piece = pages_as pages Retired in
    let follow = follow_state c.from before e behind c.end c.follow in
    let old = listed sp stock c.there before e behind c.from c.end (omega (arith, c.low)) c.follow c.left in
    let new = listed sp stock c.there before gone behind c.from c.end (omega (arith, c.low)) follow c.left in
    let still : AreCarved a.pieces (before ++ gone ∷ behind) stock = recarved c (before ++ gone ∷ behind) c.from c.end c.low follow c.left
    (omega (arith, ap length old, ap length new, length-append {A = Piece}, c.few)) in
    let sv : IsSpace (with_carved (before ++ e ∷ behind) a) = carved_space (carving sp c) in
    let X : List Piece = (front sp stock.pages.first stock.pages.last c.there
    ++ rest_below c.from (free_piece stock.pages.first stock.pages.last)) ++ before in
    let Y : List Piece = behind ++ free_piece c.end stock.pages.last ∷ back sp stock.pages.first stock.pages.last c.there in
    let again : with_piece (piece_of range Retired) (with_pieces (before ++ e ∷ behind) a.pieces)
    ≡ with_pieces (before ++ gone ∷ behind) a.pieces =
    cc (as_piece pages range Retired first last, old, new, with_alike 1 X e Y gone (subst (λ l. IsOrdered 1 l) old sv.ordered) refl refl) in
    record {
      carved = still;
      spaces = (sv, carved_space (carving sp still));
      retired = λ may. retires (with_carved (before ++ e ∷ behind) a) (with_carved (before ++ gone ∷ behind) a) range sv some may.live
          (ap (λ (l : List Piece). record a { pieces = l }) (sym again));
    }

pub retired_at : (a old : Space) (chain now : List Piece) (stock : Option Stock) (pages : Ends) (place : ℕ) (range : Range) → IsSpace a
    → IsCarved a.pieces chain stock → with_carved chain a ≡ old → IsAt chain pages place
    → ((before : List Piece) (p : Ends) (s : PageState) (behind : List Piece) → chain ≡ before ++ pages_as p s ∷ behind
    → place ≡ length before → now ≡ before ++ pages_as p Retired ∷ behind)
    → pages.first ≡ range.first → pages.last ≡ range.first + range.pages - 1 → 1 ≤ range.pages → NowRetired a old now stock range
retired_at a old chain now None pages place range sp k was w set first last some =
    absurd (not_empty w.0 (pages_as pages w.1) w.2 (sym k ∙ w.3))
retired_at a old chain now (Some stock) pages place range sp k was w set first last some =
    let c = subst (λ l. AreCarved a.pieces l stock) w.3 k in
    rw (← was, set w.0 pages w.1 w.2 w.3 w.4, w.3) (one_retired a sp stock w.0 pages w.1 w.2 c range first last some)
