use Rattle.iova.proofs.Names.{arith, ◌≡◌, ◌≢◌, ◌∙◌, IfNone, Some, None, refl, sym, ap, subst, Live, state_at, shown}
use Rattle.iova.proofs.Among.{in_state}
use Rattle.iova.proofs.Shown.{live_shown, state_inside, state_outside}
use Rattle.iova.proofs.parts.Filled.{its_state, state_is}
use Rattle.iova.proofs.searches.CutAt.{at_in}
use Rattle.iova.proofs.freeing.live_at.Goals as goal

pub returns-then-came_free-clause-none : goal.returns-then-came_free-clause-none
returns-then-came_free-clause-none c live =
    let s = c.requires.space in
    let k = c.if-came_free.ensures.free refl in
    let free = state_inside s.0 c.args.tree.now s.1 c.args.freed c.requires.freed k.0 c.args.page k.1 k.2 k.3 in
    cc

pub returns-in_err-piece-clause-none : goal.returns-in_err-piece-clause-none
returns-in_err-piece-clause-none c =
    let s = c.requires.space in
    let ps = c.args.tree.now in
    let out = state_outside s.0 ps s.1 c.args.freed c.requires.freed c.args.page (c.if-came_free.ensures.other refl) in
    subst (λ o. IfNone o (state_at (shown c.args.freed ps) c.args.page ≢ Some Live)) (sym c.from_residual.ensures)
    (λ live.
    let none : None ≡ Some Live = ap its_state c.in_err-piece.ensures.piece ∙ state_is ps c.args.page ∙ sym out ∙ live in absurd (cc))

pub returns-in-Live-clause-live : goal.returns-in-Live-clause-live
returns-in-Live-clause-live c =
    let s = c.requires.space in
    let ps = c.args.tree.now in
    let out = state_outside s.0 ps s.1 c.args.freed c.requires.freed c.args.page (c.if-came_free.ensures.other refl) in
    let i = at_in ps c.args.page c.in_ok-piece.piece (sym c.in_ok-piece.ensures.piece) in (
      live_shown s.0 ps s.1 c.args.freed c.requires.freed c.in_ok-piece.piece c.args.page i.0 i.1 c.in-Live.is out,
      i.1,
      c.in-Live.is,
    )

pub returns-in-Free : goal.returns-in-Free
returns-in-Free c =
    let s = c.requires.space in
    let ps = c.args.tree.now in
    let p = c.in_ok-piece.piece in
    let out = state_outside s.0 ps s.1 c.args.freed c.requires.freed c.args.page (c.if-came_free.ensures.other refl) in
    let i = at_in ps c.args.page p (sym c.in_ok-piece.ensures.piece) in
    let here = in_state 1 p ps c.args.page s.1.ordered i.0 i.1.0 i.1.1 in
    let is = c.in-Free.is in record { live = tt; none = λ e. absurd (grind arith) }
