use Rattle.iova.proofs.Names.{◌≡◌, ◌∙◌, ℕ, ap, arith, subst, sym, Live, Ends, free_end, free_start, pages_as, Space, AreLive, TakesPlace}
use Rattle.iova.proofs.Names.{stored, widened, with_piece, Free}
use Rattle.iova.proofs.Among.{in_le, put_piece}
use Rattle.iova.proofs.Keep.{in_narrow}
use Rattle.iova.proofs.Shown.{freed_place, space_shown_free}
use Rattle.iova.proofs.freeing.freed_ends.Goals as goal

-- the same two ends
same : (ends : Ends) (first last : ℕ) → ends.first ≡ first → ends.last ≡ last → record { first = first; last = last } ≡ ends
same ends first last a b = ap (λ n. record { first = n; last = last }) (sym a) ∙ ap (λ n. record { first = ends.first; last = n }) (sym b)

pub free_ends_at-requires-clause-some : goal.free_ends_at-requires-clause-some
free_ends_at-requires-clause-some c =
    let i = subst (λ f. AreLive f c.args.tree.now) c.in-Some.is c.requires.freed in
    (in_le 1 (pages_as c.in-Some.pages Live) c.args.tree.now c.requires.space.1.ordered i).0

pub free_ends_at-requires-clause-narrow : goal.free_ends_at-requires-clause-narrow
free_ends_at-requires-clause-narrow c =
    let s = c.requires.space in
    let i = subst (λ f. AreLive f c.args.tree.now) c.in-Some.is c.requires.freed in
    in_narrow (stored s.0 c.args.tree.now) (pages_as c.in-Some.pages Live) s.1 i

pub returns-in-Some-clause-place : goal.returns-in-Some-clause-place
returns-in-Some-clause-place c =
    let a : Space = stored c.requires.space.0 c.args.tree.now in
    let pages = c.in-Some.pages in
    let ends = c.free_ends_at in
    let i = subst (λ f. AreLive f c.args.tree.now) c.in-Some.is c.requires.freed in
    subst (λ e. TakesPlace e a.pieces)
    (same ends.result (free_start a.pieces pages.first) (free_end a.pieces pages.last) ends.ensures.first ends.ensures.last)
    (freed_place a pages c.requires.space.1 i)

pub returns-in-Some-clause-narrow : goal.returns-in-Some-clause-narrow
returns-in-Some-clause-narrow c =
    let a : Space = stored c.requires.space.0 c.args.tree.now in
    let i = subst (λ f. AreLive f c.args.tree.now) c.in-Some.is c.requires.freed in
    let pages = c.in-Some.pages in
    let whole = widened (pages_as pages Live) a.pieces in
    let there = put_piece whole.first whole.last Free a.pieces in
    let new = space_shown_free a pages c.requires.space.1 i in
    omega (arith, c.free_ends_at.ensures.last, in_narrow (stored a.last (with_piece whole a.pieces)) whole new there)
