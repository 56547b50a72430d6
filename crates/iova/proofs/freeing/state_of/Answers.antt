use Rattle.iova.proofs.Names.{◌∙◌, ap, refl, sym}
use Rattle.iova.proofs.Shown.{state_inside, state_outside}
use Rattle.iova.proofs.parts.Filled.{its_state, state_is}
use Rattle.iova.proofs.freeing.state_of.Goals as goal

pub returns-then-came_free : goal.returns-then-came_free
returns-then-came_free c =
    let s = c.requires.space in
    let k = c.if-came_free.ensures.free refl in
    sym (state_inside s.0 c.args.tree.now s.1 c.args.freed c.requires.freed k.0 c.args.page k.1 k.2 k.3)

pub returns-in_err-piece : goal.returns-in_err-piece
returns-in_err-piece c =
    let s = c.requires.space in
    let ps = c.args.tree.now in
    c.from_residual.ensures ∙ ap its_state c.in_err-piece.ensures.piece ∙ state_is ps c.args.page
    ∙ sym (state_outside s.0 ps s.1 c.args.freed c.requires.freed c.args.page (c.if-came_free.ensures.other refl))

pub returns : goal.returns
returns c =
    let s = c.requires.space in
    let ps = c.args.tree.now in
    ap its_state c.in_ok-piece.ensures.piece ∙ state_is ps c.args.page
    ∙ sym (state_outside s.0 ps s.1 c.args.freed c.requires.freed c.args.page (c.if-came_free.ensures.other refl))
