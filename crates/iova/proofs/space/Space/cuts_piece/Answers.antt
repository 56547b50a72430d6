use Rattle.iova.proofs.Names.{◌≡◌, ◌+◌, ◌-◌, Option, Some, IfSome, subst, arith, Piece}
use Rattle.iova.proofs.searches.CutAt.{cut_by_first, cut_by_last}
use Rattle.iova.proofs.space.Space.cuts_piece.Goals as goal

some_of : (o : Option Piece) (p : Piece) (P : Piece → Type 0) → o ≡ Some p → IfSome o P → P p
some_of o p P e i = subst (λ x. IfSome x P) e i

pub returns-then-low-first : goal.returns-then-low-first
returns-then-low-first c =
    let low = some_of c.live_at.result c.unwrap-low.result _ c.unwrap-low.ensures c.live_at.ensures.live in
    cut_by_first c.args.self.now.pieces (record { first = c.args.first; pages = c.args.pages }) c.unwrap-low.result c.requires.some_pages
    (low.0, low.1) c.if-low-first.true

pub returns-else-low-first : goal.returns-else-low-first
returns-else-low-first c =
    let low = some_of c.live_at.result c.unwrap-low.result _ c.unwrap-low.ensures c.live_at.ensures.live in
    let high = some_of c.live_at-2.result c.unwrap-high.result _ c.unwrap-high.ensures c.live_at-2.ensures.live in
    cut_by_last c.args.self.now.pieces (record { first = c.args.first; pages = c.args.pages }) (c.args.first + c.args.pages - 1)
    c.unwrap-low.result c.unwrap-high.result c.live_at.ensures.space.ordered c.requires.some_pages (omega (arith, c.requires.some_pages))
    (low.0, low.1) (high.0, high.1) c.if-low-first.false
