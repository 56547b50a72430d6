use Rattle.std.proofs.Common.{arith, ℕ, List, Err, IsSome, ◌<◌, ◌≡◌, ◌∙◌, ◌^◌, ap, length, refl, subst, sym}
use Rattle.std.proofs.lemmas.Result.{err_from_is_err_and}
use Rattle.dmatypes.specs.Conditions.{total_pages}
use Rattle.dmatypes.specs.declared.call.Segment.{Segment}
use Rattle.dmatypes.specs.Page.{levels}
use Rattle.tables.specs.Pool.{Pool, memory}
use Rattle.tables.specs.Tree.{states}
use Rattle.tables.specs.declared.trees.Tree.{Tree}
use Rattle.engine.proofs.maps.Segments.{mapped_stated}
use Rattle.dmatypes.specs.declared.width.Width.{Width}
use Rattle.iova.specs.Refusals.{refusal_of_take}
use Rattle.iova.specs.Space.{IsFit, IsLowestFrom, IsTooMany}
use Rattle.iova.specs.declared.space.TakeError.{TakeError}
use Rattle.iova.specs.declared.space.TakeError.TheVariants as takes
use Rattle.engine.specs.contracts.domain.Domain.{the_view}
use Rattle.engine.specs.Domains.{Domain}
use Rattle.engine.specs.Placing.{IsCrowded, IsTaken, IsUnplaced, floor_of, frames_taken}
use Rattle.dmatypes.specs.Page.{Range}
use Rattle.engine.proofs.domain.Domain.map.Goals as goal

-- the floor of a take is that of the domain
floor_is : (floor : ℕ) (width : Width) (view now : Domain) → floor ≡ floor_of width → width ≡ now.width → view ≡ now
    → floor ≡ floor_of view.width
floor_is floor width view now exact of is = exact ∙ ap floor_of (of ∙ sym (ap (λ (d : Domain). d.width) is))

-- why the space refuses is why the pages aren't placed
unplaced : (pool : Pool) (d : Domain) (segments : List Segment) (order : ℕ) (error : TakeError)
    → (error ≡ takes.NoRange → (start : ℕ) → IsFit d.space.pieces (total_pages segments) (2 ^ order) start → ⊥)
    → (error ≡ takes.TooManyPieces → IsCrowded d (total_pages segments) order)
    → IsUnplaced pool d segments order (refusal_of_take error)
unplaced pool d segments order takes.NoRange f g = f refl
unplaced pool d segments order takes.TooManyPieces f g = g refl

pub returns-in_err-start-clause-refused : goal.returns-in_err-start-clause-refused
returns-in_err-start-clause-refused c =
    let floor = floor_is c.floor_of-floor.result c.width.result (the_view c.self.inside) c.args.self.now c.floor_of-floor.ensures.exact
    c.width.ensures c.self.view_is in
    let p = err_from_is_err_and c.from_residual.result c.from_residual.ensures.1 in
    rw (p.1, p.2, ← c.self.view_is) (unplaced c.args.pool.now (the_view c.self.inside) c.args.segments.now c.args.wanted.order
    c.in_err-start.field-0.0
    (λ e. rw (← c.requires.pages) (c.in_err-start.ensures.no_range.0 (ap Err e)))
    (λ e. rw (← c.requires.pages) (subst (λ f. (start : ℕ) × IsLowestFrom f c.self.inside.space.pieces c.args.wanted.pages
    (2 ^ c.args.wanted.order) start × IsTooMany c.self.inside.space.pieces (record { first = start; pages = c.args.wanted.pages })) floor
    (c.in_err-start.ensures.too_many.0 (ap Err e)))))

pub returns-in-Err-clause-refused : goal.returns-in-Err-clause-refused
returns-in-Err-clause-refused c =
    let floor = floor_is c.floor_of-floor.result c.width.result (the_view c.self.inside) c.args.self.now c.floor_of-floor.ensures.exact
    c.width.ensures c.self.view_is in
    let taken : IsTaken (the_view c.self.inside) c.args.wanted.pages c.args.wanted.order c.in_ok-start.start =
    record {
      lowest = subst (λ f. IsLowestFrom f c.self.inside.space.pieces c.args.wanted.pages (2 ^ c.args.wanted.order) c.in_ok-start.start)
          floor
          c.in_ok-start.ensures.lowest;
      room = λ many. let no = c.in_ok-start.ensures.too_many.1 (c.in_ok-start.start, c.in_ok-start.ensures.lowest, many) in cc;
    } in
    let short : length c.args.pool.now.free < frames_taken c.args.pool.now c.self.inside.tree.width c.self.inside.tree.root
    c.args.segments.now c.in_ok-start.start =
    c.in-Err.ensures.refused.0 refl in
    rw (← c.self.view_is) (
      c.in_ok-start.start,
      subst (λ n. IsTaken (the_view c.self.inside) n c.args.wanted.order c.in_ok-start.start) c.requires.pages taken,
      short,
    )

pub map_sized_list-requires-clause-fits : goal.map_sized_list-requires-clause-fits
map_sized_list-requires-clause-fits c = λ p inside.
    let space = c.in_ok-start.ensures.space.0 in
    let at = space.others p (rw (c.in_ok-start.ensures.taken.free p (inside.0, omega (arith, inside.1, c.requires.pages))) refl) in
    (at.0, omega (arith, at.1, c.self.invariant.0, space.some))

-- once the entries are written
pub invalidate_mapped-requires-clause-stated : goal.invalidate_mapped-requires-clause-stated
invalidate_mapped-requires-clause-stated c = λ p inside.
    let first : c.range_from-then-is_caching.result.first ≡ c.in_ok-start.start =
    ap (λ (r : Range). r.first) c.range_from-then-is_caching.ensures in
    let pages : c.range_from-then-is_caching.result.pages ≡ total_pages c.args.segments.now =
    ap (λ (r : Range). r.pages) c.range_from-then-is_caching.ensures ∙ c.requires.pages in
    subst (λ (tree : Tree). IsSome (states (memory c.map_sized_list.new.pool.words) (levels tree.width) tree.root p))
    (sym c.map_sized_list.ensures.root)
    (mapped_stated _ _ _ _ c.in_ok-start.start _ c.args.segments.now p c.in_default.ensures.maps
    (omega (arith, first, inside.0), omega (arith, first, pages, inside.1)))
