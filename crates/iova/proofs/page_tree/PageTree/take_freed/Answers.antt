use Rattle.iova.proofs.Names.{arith, ◌≡◌, ◌∙◌, ◌+◌, ◌-◌, ◌<◌, ap, subst, sym, Range, Live, Piece, NUMBERS_END, with_piece, Takes}
use Rattle.iova.proofs.Names.{NoneFreeBelow, pages_as, piece_of, Space, IsTooMany, AreLive, shown, stored}
use Rattle.iova.proofs.Keep.{in_narrow}
use Rattle.iova.proofs.Shown.{few_shown, put_again, space_shown, taken_back}
use Rattle.iova.proofs.Taken.{takes}
use Rattle.iova.proofs.page_tree.PageTree.take_freed.Goals as goal

pub low_behind-self-inside-requires-clause-narrow : goal.low_behind-self-inside-requires-clause-narrow
low_behind-self-inside-requires-clause-narrow c =
    let a = c.self.inside in
    let there = subst (λ f. AreLive f a.tree) c.in_ok-fit.ensures.freed c.self.invariant.2 in
    let narrow = in_narrow (stored a.last a.tree) (pages_as c.in_ok-fit.fit.pages Live) c.self.invariant.0 there in
    subst (λ (p : Piece). p.last < NUMBERS_END) (sym c.in_state.ensures) narrow

pub invariant_of-self : goal.invariant_of-self
invariant_of-self c =
    let a = c.self.inside in
    let p = pages_as c.in_ok-fit.fit.pages Live in
    let there = subst (λ f. AreLive f a.tree) c.in_ok-fit.ensures.freed c.self.invariant.2 in
    let o = c.self.invariant.0.ordered in (
      c.self.invariant.0,
      subst (λ l. NoneFreeBelow c.low_behind-self-inside.result l)
          (ap (λ q. with_piece q a.tree) c.in_state.ensures ∙ put_again 1 p a.tree o there)
          (c.low_behind-self-inside.ensures.low a.tree o c.in_ok-fit.ensures.low),
      tt,
      there,
    )

pub returns-clause-taken : goal.returns-clause-taken
returns-clause-taken c =
    let t = c.self.inside in
    let pages = c.in_ok-fit.fit.pages in
    let range : Range = record { first = pages.first; pages = c.args.pages } in
    let is = c.in_ok-fit.ensures.freed in
    let back = taken_back (stored t.last t.tree) pages c.self.invariant.0 (subst (λ f. AreLive f t.tree) is c.self.invariant.2) in
    let last : pages.last ≡ pages.first + c.args.pages - 1 = omega (arith, c.in_ok-fit.ensures.pages) in
    let same : t.tree ≡ with_piece (piece_of range Live) (shown t.freed t.tree) = cc (ap (λ f. shown f t.tree) is, back, last) in
    subst (λ v. Takes v (stored t.last t.tree) range) c.self.view_is
    (takes (stored t.last (shown t.freed t.tree)) (stored t.last t.tree) range
    (space_shown t.last t.tree c.self.invariant.0 t.freed c.self.invariant.2) c.requires.some_pages c.in_ok-fit.ensures.lowest.fit.free
    (ap (λ l. stored t.last l) same))

pub returns-clause-few : goal.returns-clause-few
returns-clause-few c =
    let a = c.self.inside in
    let fewer = few_shown a.last a.tree c.self.invariant.0 a.freed c.self.invariant.2 in
    subst (λ (v : Space). IsTooMany v.pieces (record { first = c.in_ok-fit.fit.pages.first; pages = c.args.pages }) → ⊥) c.self.view_is
    (λ t. omega (arith, t.1, c.in_ok-fit.ensures.few))
