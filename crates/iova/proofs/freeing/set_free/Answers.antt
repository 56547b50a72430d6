use Rattle.iova.proofs.Names.{◌≡◌, ℕ, ◌≤◌, ◌∙◌, List, IsSome, length, ap, arith, subst, sym, Free, Piece, MOST_PIECES, free_end}
use Rattle.iova.proofs.Names.{free_start, widened, with_free, with_piece, piece_at, Ends, NoneFreeBelow, pages_as, IsPageTo, IsSpace}
use Rattle.iova.proofs.Names.{stored}
use Rattle.iova.proofs.FreeRange.{free_end_ge, start_least}
use Rattle.iova.proofs.LowestFree.{none_below_less, none_below_put}
use Rattle.iova.proofs.Partition.{put_lies, put_page}
use Rattle.iova.proofs.freeing.set_free.Goals as goal

-- the pages with the free ones that they touch
module _ {last : ℕ} {ps : List Piece} {pages : Ends} (sp : IsSpace (stored last ps))
    (new : IsSpace (stored last (with_free (pages_as pages Free) ps))) (some : pages.first ≤ pages.last) where
  abbrev whole : Piece
  whole = widened (pages_as pages Free) ps

  around : (whole.first ≤ pages.first) × (pages.last ≤ whole.last)
  around = (start_least 1 pages.first ps sp.ordered, free_end_ge 1 pages.last ps sp.ordered)

  wide : whole.first ≤ whole.last
  wide = omega (arith, around, some)

  is_page : (page : ℕ) → whole.first ≤ page → page ≤ whole.last → IsPageTo last page
  is_page = put_page (stored last ps) sp whole new wide

  lies : (page : ℕ) → whole.first ≤ page → page ≤ whole.last → IsSome (piece_at ps page)
  lies = put_lies (stored last ps) sp whole new wide

pub free_ends_at-ends-requires-clause-some : goal.free_ends_at-ends-requires-clause-some
free_ends_at-ends-requires-clause-some c =
    let s = c.requires.space in
    let b = around s.1 s.2 c.requires.some in
    (is_page s.1 s.2 c.requires.some c.args.pages.first b.0 (omega (arith, b, c.requires.some))).0.0

pub free_ends_at-ends-requires-clause-narrow : goal.free_ends_at-ends-requires-clause-narrow
free_ends_at-ends-requires-clause-narrow c =
    let s = c.requires.space in
    let b = around s.1 s.2 c.requires.some in
    let p = is_page s.1 s.2 c.requires.some c.args.pages.last (omega (arith, b, c.requires.some)) b.1 in
    omega (arith, p.1, s.1.narrow)

pub lay-requires : goal.lay-requires
lay-requires c =
    let s = c.requires.space in
    let ps = c.args.tree.now in
    let e = c.free_ends_at-ends.ensures in
    let w = wide s.1 s.2 c.requires.some in
    let lies = lies s.1 s.2 c.requires.some in
    let is : c.in_state.result ≡ widened (pages_as c.args.pages Free) ps = cc (c.in_state.ensures, e.first, e.last) in
    record {
      first = subst (λ p. IsSome (piece_at ps p.first)) (sym is) (lies (free_start ps c.args.pages.first) (omega arith) w);
      last = subst (λ p. IsSome (piece_at ps p.last)) (sym is) (lies (free_end ps c.args.pages.last) w (omega arith));
      some = subst (λ p. p.first ≤ p.last) (sym is) w;
      room = subst (λ p. length (with_piece p ps) ≤ MOST_PIECES) (sym is) s.2.few;
    }

pub returns : goal.returns
returns c =
    let ps = c.args.tree.now in
    let s = c.requires.space in
    let e = c.free_ends_at-ends.ensures in
    let first = free_start ps c.args.pages.first in
    let last = free_end ps c.args.pages.last in
    let is : c.in_state.result ≡ widened (pages_as c.args.pages Free) ps = cc (c.in_state.ensures, e.first, e.last) in
    let tree = c.lay.ensures ∙ ap (λ p. with_piece p ps) is in
    let less = none_below_less c.min.result c.args.low ps (omega (arith, c.min.ensures)) c.requires.low in
    let low = none_below_put c.min.result first last Free ps s.1.ordered (wide s.1 s.2 c.requires.some) less
    (λ _. omega (arith, c.min.ensures, e.first)) in
    record { tree = tree; low = subst (λ l. NoneFreeBelow c.min.result l) (sym tree) low }
