use Rattle.std.proofs.Common.{◌≡◌, ℕ, ◌+◌, ◌-◌, ◌*◌, ◌/◌, ◌%◌, ◌<◌, ◌≤◌, inr, ⊎_elim, false, List, [], refl, sym, ap, subst, ◌∙◌, arith}
use Rattle.std.proofs.lemmas.Bool.{cases_lt}
use Rattle.dmatypes.specs.declared.page.TheConstants.{SPAN_PAGES}
use Rattle.dmatypes.specs.Conditions.{total_pages}
use Rattle.dmatypes.specs.Rights.{bits_of}
use Rattle.dmatypes.specs.World.{placed}
use Rattle.dmatypes.specs.declared.call.Segment.{Segment}
use Rattle.tables.specs.declared.extent.Extent.{Extent}
use Rattle.tables.specs.Tree.{span}
use Rattle.tables.specs.Pool.{memory}
use Rattle.tables.specs.Changes.{MapsPages, MakesTables}
use Rattle.tables.specs.Segments.{is_large_at}
use Rattle.tables.specs.Lacks.{tables_lacking}
use Rattle.tables.specs.Extents.{extent_states, is_large}
use Rattle.tables.proofs.counts.ByExtents.{Placed, lacks_least, lacks_step, lacks_ended}
use Rattle.tables.proofs.maps.LargeExtents.{small_extent, short_extent}
use Rattle.tables.proofs.maps.TablesMade.{no_makes, makes_then}
use Rattle.tables.proofs.maps.Mapped.{no_moves, no_maps, moves_then, maps_then, maps_said}
use Rattle.tables.proofs.trails.Fills.{fills_after, no_fill}
use Rattle.tables.proofs.walks.Near.{span_pos}
use Rattle.tables.proofs.sums.OverSpans.{div_mono}
use Rattle.tables.proofs.maps.Placed.{none_passed, not_large, rest_below, still_passed}
use Rattle.tables.proofs.mapping.map_extents.Goals as goal

-- the pages are in one span of the root
in_span : (l from to p : ℕ) → 0 < to → from / span l ≡ (from + to - 1) / span l → from ≤ p → p < from + to → p / span l ≡ from / span l
in_span l from to p some one low high =
    let after : from / span l ≤ p / span l = div_mono from p (span l) (span_pos l) low in
    let before : p / span l ≤ (from + to - 1) / span l = div_mono p (from + to - 1) (span l) (span_pos l) (omega arith) in
    omega arith

-- where a large leaf begins, an extent can be one
flag : (segments : List Segment) (first place : ℕ) (x : Extent) → x.from ≡ place → is_large x ≡ is_large_at segments first place
    → (0 < place % SPAN_PAGES → is_large_at segments first (SPAN_PAGES * (place / SPAN_PAGES)) ≡ false)
    → is_large_at segments first (x.from / SPAN_PAGES * SPAN_PAGES) ≡ is_large x
flag segments first place x at large inner =
    ⊎_elim
    (λ (inside : 0 < place % SPAN_PAGES).
    let start : x.from / SPAN_PAGES * SPAN_PAGES ≡ SPAN_PAGES * (place / SPAN_PAGES) = omega arith in
    let small : is_large x ≡ false = small_extent x (omega arith) in
    ap (is_large_at segments first) start ∙ inner inside ∙ sym small)
    (λ (edge : place % SPAN_PAGES ≤ 0).
    let start : x.from / SPAN_PAGES * SPAN_PAGES ≡ place = omega arith in
    ap (is_large_at segments first) start ∙ sym large)
    (cases_lt 0 (place % SPAN_PAGES))

pub loop-extent-init : goal.loop-extent-init
loop-extent-init c = record {
  low = omega arith;
  high = omega arith;
  moves = no_moves c.args.pool.now c.args.level c.args.root;
  spelled = λ s. s;
  order = λ s. no_fill c.args.pool.now;
  maps = no_maps c.args.pool.now c.args.level c.args.root c.args.first (placed c.args.segments.now c.args.first (bits_of c.args.rights));
  count = refl;
  inner =
      λ inside.
      not_large c.args.segments.now c.args.first (SPAN_PAGES * (c.args.first / SPAN_PAGES))
      (rest_below c.args.segments.now c.args.first (SPAN_PAGES * (c.args.first / SPAN_PAGES)) (omega (arith, inside)));
  ended = λ e. absurd (omega (arith, e, c.requires.some));
  pool = λ some. absurd (omega (arith, some));
  passed = none_passed c.args.segments.now c.args.first c.requires.segments;
  makes = no_makes c.args.pool.now c.args.level c.args.root c.args.first (is_large_at c.args.segments.now c.args.first);
}

pub map_extent-requires-clause-absent : goal.map_extent-requires-clause-absent
map_extent-requires-clause-absent c p low high =
    let from : c.loop-extent.place ≤ p = omega (arith, c.in-Some.ensures.page) in
    let to : p < c.args.first + total_pages c.args.segments.now = omega (arith, c.in-Some.ensures.within) in
    let start : c.args.first ≤ p = omega (arith, c.loop-extent.invariant.low) in
    c.loop-extent.invariant.maps.elsewhere p
    (in_span c.args.level c.args.first (total_pages c.args.segments.now) p c.requires.some c.requires.one_span start to) (inr from)
    ∙ c.requires.absent p start to

pub map_extent-requires-clause-room : goal.map_extent-requires-clause-room
map_extent-requires-clause-room c =
    let end = c.args.first + total_pages c.args.segments.now in
    let least =
    lacks_least (memory c.loop-extent.pool.words) c.args.level c.args.root (is_large_at c.args.segments.now c.args.first)
    (is_large c.in-Some.extent) c.in-Some.extent.from (c.args.first + total_pages c.args.segments.now)
    (omega (arith, c.in-Some.extent.some, c.in-Some.ensures.within))
    (flag c.args.segments.now c.args.first c.loop-extent.place c.in-Some.extent c.in-Some.ensures.page c.in-Some.ensures.large
    c.loop-extent.invariant.inner) in
    let moved =
    ap (λ q.
    tables_lacking (memory c.loop-extent.pool.words) c.args.level c.args.root (is_large_at c.args.segments.now c.args.first) q
    (c.args.first + total_pages c.args.segments.now)) c.in-Some.ensures.page in
    omega (arith, least, moved, c.loop-extent.invariant.count, c.requires.room)

pub loop-extent-preserved : goal.loop-extent-preserved
loop-extent-preserved c =
    let x = c.in-Some.extent in
    let cur = c.loop-extent.pool in
    let new = c.map_extent.new.pool in
    let end : ℕ = c.args.first + total_pages c.args.segments.now in
    let large = is_large_at c.args.segments.now c.args.first in
    let at = c.in-Some.ensures.page in
    let says_it = placed c.args.segments.now c.args.first (bits_of c.args.rights) in
    let wide : (p : ℕ) → c.args.first ≤ p → p < c.args.first + total_pages c.args.segments.now
    → p / span c.args.level ≡ c.args.first / span c.args.level =
    λ p low high. in_span c.args.level c.args.first (total_pages c.args.segments.now) p c.requires.some c.requires.one_span low high in
    let far : c.in-Some.extent.to ≤ c.args.first + total_pages c.args.segments.now = c.in-Some.ensures.within in
    let near : c.args.first ≤ c.in-Some.extent.from = omega (arith, at, c.loop-extent.invariant.low) in
    let some : c.in-Some.extent.from < c.in-Some.extent.to = c.in-Some.extent.some in
    let before : MapsPages c.args.pool.now c.loop-extent.pool c.args.level c.args.root c.args.first c.in-Some.extent.from
    (placed c.args.segments.now c.args.first (bits_of c.args.rights)) =
    subst (λ q.
    MapsPages c.args.pool.now c.loop-extent.pool c.args.level c.args.root c.args.first q
    (placed c.args.segments.now c.args.first (bits_of c.args.rights)))
    (sym at) c.loop-extent.invariant.maps in
    let made : MakesTables c.args.pool.now c.loop-extent.pool c.args.level c.args.root c.args.first c.in-Some.extent.from
    (is_large_at c.args.segments.now c.args.first) =
    subst (λ q.
    MakesTables c.args.pool.now c.loop-extent.pool c.args.level c.args.root c.args.first q
    (is_large_at c.args.segments.now c.args.first))
    (sym at) c.loop-extent.invariant.makes in
    let here : Placed c.loop-extent.pool c.map_extent.new.pool c.args.level c.args.root c.in-Some.extent.from c.in-Some.extent.to
    (extent_states c.in-Some.extent) (is_large c.in-Some.extent) =
    record {
      maps = c.map_extent.ensures.maps;
      made = c.map_extent.ensures.made;
      some = c.in-Some.extent.some;
      one = c.in-Some.extent.one_span;
      short = λ inside. short_extent c.in-Some.extent inside;
    } in
    let step = lacks_step cur new c.args.level c.args.root x.from x.to end (extent_states x) large (is_large x) here far
    (λ p low high. wide p (omega arith) high ∙ sym (wide x.from near (omega arith)))
    (flag c.args.segments.now c.args.first c.loop-extent.place c.in-Some.extent c.in-Some.ensures.page c.in-Some.ensures.large
    c.loop-extent.invariant.inner) in
    let moved = ap (λ q. tables_lacking (memory cur.words) c.args.level c.args.root large q end) at in
    record {
      low = omega arith;
      high = far;
      moves = moves_then c.args.pool.now cur new c.args.level c.args.root [] [] c.loop-extent.invariant.moves c.map_extent.ensures.moves;
      spelled = λ s. c.map_extent.ensures.spelled (c.loop-extent.invariant.spelled s);
      order = λ s.
          fills_after c.args.pool.now cur new (c.loop-extent.invariant.order s)
          (c.map_extent.ensures.order (c.loop-extent.invariant.spelled s));
      maps =
          maps_then c.args.pool.now cur new c.args.level c.args.root c.args.first x.from x.to says_it near some
          (λ p low high. wide p low (omega arith)) c.loop-extent.invariant.moves before
          (maps_said cur new c.args.level c.args.root x.from x.to (extent_states x) says_it
          (λ p low high. sym (c.in-Some.ensures.placed p (omega (arith, at, low)) high)) c.map_extent.ensures.maps);
      count = omega (arith, step, moved, c.map_extent.ensures.count, c.loop-extent.invariant.count);
      inner = c.in-Some.ensures.inner;
      ended = λ e. lacks_ended cur new c.args.level c.args.root x.from x.to (extent_states x) large (is_large x) here;
      pool = λ _. c.map_extent.ensures.pool;
      passed =
          still_passed c.args.segments.now c.args.first c.loop-extent.place x.to _ (omega (arith, at, some)) c.in-Some.ensures.passed;
      makes =
          makes_then c.args.pool.now cur new c.args.level c.args.root c.args.first x.from x.to says_it (extent_states x) large (is_large x)
          near (λ p low high. wide p low (omega arith)) made before here
          (flag c.args.segments.now c.args.first c.loop-extent.place c.in-Some.extent c.in-Some.ensures.page c.in-Some.ensures.large
          c.loop-extent.invariant.inner)
          (λ inside. small_extent x inside) c.map_extent.ensures.spared;
    }
