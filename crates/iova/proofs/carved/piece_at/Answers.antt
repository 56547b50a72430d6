use Rattle.iova.proofs.Names.{◌∙◌, ◌-◌, ◌≡◌, List, [], ◌∷◌, None, Some, get_or, length, slice_get, refl, ap, sym, arith, slice_get-get_or}
use Rattle.iova.proofs.Names.{option_copied, Piece, piece_at}
use Rattle.iova.proofs.carvings.PieceAt.{at_last, none_past_last, follow_ordered}
use Rattle.iova.proofs.searches.Found.{at-nil}
use Rattle.iova.proofs.carved.piece_at.Goals as goal

-- pieces without a last one are none
no_last : (ps : List Piece) → slice_get ps (length ps - 1) ≡ None → ps ≡ []
no_last [] e = refl
no_last (p ∷ ps) e =
    let n = length (p ∷ ps) - 1 in
    let is : Some (get_or (p ∷ ps) n p) ≡ None = sym (slice_get-get_or (p ∷ ps) n p (omega arith)) ∙ e in absurd (cc)

pub returns-in_err-last : goal.returns-in_err-last
returns-in_err-last c =
    let none = no_last c.args.pieces.now (sym c.last.ensures.value ∙ ap (λ o. option_copied o) c.in_err-last.was) in
    c.from_residual.ensures ∙ sym (ap (λ l. piece_at l c.args.page) none ∙ at-nil c.args.page)

pub returns-then-last-page : goal.returns-then-last-page
returns-then-last-page c =
    let o = follow_ordered c.requires.0 c.args.pieces.now c.requires.1 c.requires.2 in
    sym (none_past_last c.requires.0 c.args.pieces.now c.args.page (length c.args.pieces.now - 1) c.in_ok-last.last.now o
    (omega (arith, c.in_ok-last.ensures.item)) (sym c.in_ok-last.ensures.value) c.if-last-page.true)

pub returns-then-last-page-2 : goal.returns-then-last-page-2
returns-then-last-page-2 c =
    let o = follow_ordered c.requires.0 c.args.pieces.now c.requires.1 c.requires.2 in
    sym (at_last c.requires.0 c.args.pieces.now c.args.page (length c.args.pieces.now - 1) c.in_ok-last.last.now o
    (omega (arith, c.in_ok-last.ensures.item)) (sym c.in_ok-last.ensures.value) c.if-last-page-2.true
    (omega (arith, c.if-last-page.false)))
