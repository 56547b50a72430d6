use Rattle.iova.proofs.Names.{◌≡◌, ℕ, ◌+◌, List, ◌∷◌, ◌++◌, drop, length, get_or, slice_set, ap, ◌∙◌, get_or-append_seam}
use Rattle.iova.proofs.Names.{set-append_seam, drop-set-add, get_or-drop, Ends, PageState, Retired, Piece, pages_as}
use Rattle.iova.proofs.chain.Chain.retire.Goals as goal

-- the piece at a place behind the first few is made retired
retired : (all : List Piece) (begin place : ℕ) (p : Piece) (before : List Piece) (pages : Ends) (state : PageState) (behind : List Piece)
    → p ≡ get_or all (begin + place) p → drop begin all ≡ before ++ pages_as pages state ∷ behind → place ≡ length before
    → drop begin (slice_set all (begin + place) (record p { state = Retired })) ≡ before ++ pages_as pages Retired ∷ behind
retired all begin place p before pages state behind is parts at =
    let q = pages_as pages state in
    let new : Piece = record p { state = Retired } in
    let same : p ≡ q = cc (get_or-drop begin all place p, get_or-append_seam before q behind p) in
    let now = ap (λ (r : Piece). before ++ record r { state = Retired } ∷ behind) same in
    cc (drop-set-add begin all place new, set-append_seam before q behind new)

pub returns : goal.returns
returns c before pages state behind e p =
    retired c.self.inside.pieces.items c.self.inside.begin c.args.place c.index_mut.result.now before pages state behind
    c.index_mut.ensures.value (c.self.view_is ∙ e) p
