use Rattle.std.proofs.Common.{◌≡◌, ℕ, ◌+◌, ◌-◌, ◌*◌, ◌/◌, ◌%◌, ◌<◌, ◌≤◌, ◌⊎◌, min, inl, inr, ⊎_elim, Bool, true, false, cond, ◌||◌, Option}
use Rattle.std.proofs.Common.{Some, None, IsSome, ◌++◌, length, length-append, refl, sym, ap, subst, ◌∙◌, arith}
use Rattle.std.proofs.lemmas.Bool.{cases_lt}
use Rattle.dmatypes.specs.declared.page.TheConstants.{SPAN_PAGES}
use Rattle.tables.specs.Tree.{LeafEntry, span, leaf_from, stated}
use Rattle.tables.specs.Pool.{memory}
use Rattle.tables.specs.Changes.{TakesAndGivesFrames, UnmapsPages}
use Rattle.tables.specs.Lacks.{leaves_splitting, splits_leaf}
use Rattle.tables.specs.Extents.{cut_of, extent_splits, was_split}
use Rattle.tables.proofs.maps.Mapped.{no_moves, moves_then}
use Rattle.tables.proofs.walks.Near.{span_pos}
use Rattle.tables.proofs.walks.Sizes.{leaf_ahead, extent_is}
use Rattle.tables.proofs.sums.OverSpans.{div_mono, split_so_far, split_so_far-start, split_so_far-step, split_so_far-end, split_so_far-most}
use Rattle.tables.proofs.unmaps.Unmapped.{no_unmaps, unmaps_then}
use Rattle.tables.specs.Trail.{GoesOn}
use Rattle.tables.proofs.trails.Steps.{after}
use Rattle.tables.proofs.trails.Through.{no_step}
use Rattle.tables.proofs.unmapping.unmap_extents.Goals as goal
use Rattle.tables.proofs.unmapping.unmap_extents.Goals.{After-min-next}

-- the pages are in one span of the root
wide : (l from to p : ℕ) → from / span l ≡ (to - 1) / span l → from ≤ p → p < to → p / span l ≡ from / span l
wide l from to p one low high =
    let after : from / span l ≤ p / span l = div_mono from p (span l) (span_pos l) low in
    let before : p / span l ≤ (to - 1) / span l = div_mono p (to - 1) (span l) (span_pos l) (omega arith) in
    omega arith

-- where an extent begins
edge_of : (place from to : ℕ) → place < to → (place % SPAN_PAGES ≡ 0) ⊎ ((place ≡ from) ⊎ (place ≡ to))
    → (place % SPAN_PAGES ≡ 0) ⊎ (place ≡ from)
edge_of place from to lt (inl h) = inl h
edge_of place from to lt (inr (inl h)) = inr h
edge_of place from to lt (inr (inr h)) = absurd (omega arith)

-- where it ends
one_of : (place to next : ℕ) → next ≡ min to ((place / SPAN_PAGES + 1) * SPAN_PAGES) → place < to
    → (place < next) × (next ≤ to) × (place / SPAN_PAGES ≡ (next - 1) / SPAN_PAGES) × ((next % SPAN_PAGES ≡ 0) ⊎ (next ≡ to))
one_of place to next e lt = (
  omega arith,
  omega arith,
  omega arith,
  ⊎_elim (λ (h : to < (place / SPAN_PAGES + 1) * SPAN_PAGES). inr (omega arith))
      (λ (h : (place / SPAN_PAGES + 1) * SPAN_PAGES ≤ to). inl (omega arith)) (cases_lt to ((place / SPAN_PAGES + 1) * SPAN_PAGES)),
)

stop_of : (next to from : ℕ) → (next % SPAN_PAGES ≡ 0) ⊎ (next ≡ to) → (next % SPAN_PAGES ≡ 0) ⊎ ((next ≡ from) ⊎ (next ≡ to))
stop_of next to from (inl h) = inl h
stop_of next to from (inr h) = inr (inr h)

true_false : true ≡ false → ⊥
true_false e = cc

-- a split more
splits_on : (old was new : Bool) (before extent here after : ℕ) → new ≡ (old || was) → after ≡ before + here → cond was 1 0 ≡ extent
    → extent ≡ here → (old ≡ true → 0 < before) → (old ≡ false → before ≡ 0) → (new ≡ true → 0 < after) × (new ≡ false → after ≡ 0)
splits_on true was new before extent here after e sum is same some_if none_if =
    let some : 0 < before = some_if refl in
    ((λ h. omega arith), (λ h. absurd (true_false (sym e ∙ h))))
splits_on false true new before extent here after e sum is same some_if none_if =
    ((λ h. omega arith), (λ h. absurd (true_false (sym e ∙ h))))
splits_on false false new before extent here after e sum is same some_if none_if =
    let none : before ≡ 0 = none_if refl in
    ((λ h. absurd (true_false (sym h ∙ e))), (λ h. omega arith))

pub loop-place-init : goal.loop-place-init
loop-place-init c = record {
  low = omega arith;
  high = omega (arith, c.requires.some);
  edge = inr (inl refl);
  moves =
      subst (λ xs. TakesAndGivesFrames c.args.pool.now c.args.pool.now c.args.level c.args.root xs) (sym c.none-cut.ensures.frames)
      (no_moves c.args.pool.now c.args.level c.args.root);
  spelled = λ s. s;
  unmaps =
      subst (λ xs. UnmapsPages c.args.pool.now c.args.pool.now c.args.level c.args.root c.args.from c.args.from xs)
      (sym c.none-cut.ensures.frames) (no_unmaps c.args.pool.now c.args.level c.args.root c.args.from);
  room = omega (arith, ap length c.none-cut.ensures.frames);
  count = omega (arith, split_so_far-start c.args.pool.now c.args.level c.args.root c.args.from c.args.to);
  split = λ e. absurd (true_false (sym e ∙ c.none-cut.ensures.split));
  none = λ e. split_so_far-start c.args.pool.now c.args.level c.args.root c.args.from c.args.to;
  pool = λ lt. absurd (omega (arith, lt));
  order = no_step GoesOn c.args.pool.now c.args.pool.now refl (refl, λ f. omega arith);
}

-- what was there is there yet
still : (p : ℕ) (x y : Option LeafEntry) → stated p x ≡ stated p y → IsSome y → IsSome x
still p None None e h = h
still p None (Some y) e h = cc
still p (Some x) y e h = refl

pub clear_extent-cleared-requires-clause-there : goal.clear_extent-cleared-requires-clause-there
clear_extent-cleared-requires-clause-there c p low high =
    let start : c.args.from ≤ p = omega (arith, low, c.loop-place.invariant.low) in
    let end : p < c.args.to =
    omega (arith, high, (one_of c.loop-place.place c.args.to c.min-next.result c.min-next.ensures c.loop-place-test.true).1) in
    still p (leaf_from (memory c.loop-place.pool.words) c.args.level c.args.root p)
    (leaf_from (memory c.args.pool.now.words) c.args.level c.args.root p)
    (c.loop-place.invariant.unmaps.elsewhere p (wide c.args.level c.args.from c.args.to p c.requires.one_span start end) (inr low))
    (c.requires.there p start end)

-- what the extent splits is what its span splits of the whole
its_splits : (c : After-min-next)
    → extent_splits (memory c.loop-place.pool.words) c.args.level c.args.root c.loop-place.place c.min-next.result
    ≡ splits_leaf (memory c.args.pool.now.words) c.args.level c.args.root c.args.from c.args.to
    (c.loop-place.place / SPAN_PAGES * SPAN_PAGES)
its_splits c =
    extent_is c.args.pool.now c.loop-place.pool c.args.level c.args.root c.args.from c.args.to c.loop-place.place c.min-next.result
    c.loop-place.invariant.low (one_of c.loop-place.place c.args.to c.min-next.result c.min-next.ensures c.loop-place-test.true).0
    (one_of c.loop-place.place c.args.to c.min-next.result c.min-next.ensures c.loop-place-test.true).1
    (one_of c.loop-place.place c.args.to c.min-next.result c.min-next.ensures c.loop-place-test.true).2
    (edge_of c.loop-place.place c.args.from c.args.to c.loop-place-test.true c.loop-place.invariant.edge)
    (one_of c.loop-place.place c.args.to c.min-next.result c.min-next.ensures c.loop-place-test.true).3
    (leaf_ahead c.args.pool.now c.loop-place.pool c.args.level c.args.root c.args.from c.loop-place.place c.loop-place.cut.frames
    c.loop-place.invariant.unmaps
    (edge_of c.loop-place.place c.args.from c.args.to c.loop-place-test.true c.loop-place.invariant.edge)
    (wide c.args.level c.args.from c.args.to c.loop-place.place c.requires.one_span c.loop-place.invariant.low
    c.loop-place-test.true)
    (c.requires.there c.loop-place.place c.loop-place.invariant.low c.loop-place-test.true))

-- and is added to what was split before it
added : (c : After-min-next)
    → split_so_far c.args.pool.now c.args.level c.args.root c.args.from c.args.to c.min-next.result
    ≡ split_so_far c.args.pool.now c.args.level c.args.root c.args.from c.args.to c.loop-place.place
    + splits_leaf (memory c.args.pool.now.words) c.args.level c.args.root c.args.from c.args.to
    (c.loop-place.place / SPAN_PAGES * SPAN_PAGES)
added c =
    split_so_far-step c.args.pool.now c.args.level c.args.root c.args.from c.args.to c.loop-place.place c.min-next.result
    c.loop-place.invariant.low (one_of c.loop-place.place c.args.to c.min-next.result c.min-next.ensures c.loop-place-test.true).0
    (one_of c.loop-place.place c.args.to c.min-next.result c.min-next.ensures c.loop-place-test.true).2
    (edge_of c.loop-place.place c.args.from c.args.to c.loop-place-test.true c.loop-place.invariant.edge)

pub clear_extent-cleared-requires-clause-room : goal.clear_extent-cleared-requires-clause-room
clear_extent-cleared-requires-clause-room c =
    let is = its_splits (goal.at.clear_extent-cleared-requires-clause-room c).After-min-next in
    let step = added (goal.at.clear_extent-cleared-requires-clause-room c).After-min-next in
    let most =
    split_so_far-most c.args.pool.now c.args.level c.args.root c.args.from c.args.to c.min-next.result
    (omega (
      arith,
      (one_of c.loop-place.place c.args.to c.min-next.result c.min-next.ensures c.loop-place-test.true).0,
      c.loop-place.invariant.low,
    ))
    (one_of c.loop-place.place c.args.to c.min-next.result c.min-next.ensures c.loop-place-test.true).1 in
    omega (arith, is, step, most, c.loop-place.invariant.count, c.requires.room)

pub loop-place-preserved : goal.loop-place-preserved
loop-place-preserved c =
    let cur = c.loop-place.pool in
    let new = c.clear_extent-cleared.new.pool in
    let next = c.min-next.result in
    let cut = c.loop-place.cut.frames in
    let more = cut_of c.clear_extent-cleared.result in
    let one = (one_of c.loop-place.place c.args.to c.min-next.result c.min-next.ensures c.loop-place-test.true) in
    let joined : c.note.new.self.frames ≡ c.loop-place.cut.frames ++ cut_of c.clear_extent-cleared.result = c.note.ensures.frames in
    let is = its_splits (goal.at.loop-place-preserved c).After-min-next in
    let step = added (goal.at.loop-place-preserved c).After-min-next in
    let split =
    splits_on c.loop-place.cut.split (was_split c.clear_extent-cleared.result) c.note.new.self.split _ _ _ _ c.note.ensures.split step
    c.clear_extent-cleared.ensures.split is c.loop-place.invariant.split c.loop-place.invariant.none in
    record {
      low = omega (arith, one.0, c.loop-place.invariant.low);
      high = one.1;
      edge = stop_of c.min-next.result c.args.to c.args.from one.3;
      moves =
          subst (λ xs. TakesAndGivesFrames c.args.pool.now new c.args.level c.args.root xs) (sym joined)
          (moves_then c.args.pool.now cur new c.args.level c.args.root cut more c.loop-place.invariant.moves
          c.clear_extent-cleared.ensures.moves);
      spelled = λ s. c.clear_extent-cleared.ensures.spelled (c.loop-place.invariant.spelled s);
      unmaps = subst (λ xs. UnmapsPages c.args.pool.now new c.args.level c.args.root c.args.from next xs) (sym joined)
          (unmaps_then c.args.pool.now cur new c.args.level c.args.root c.args.from c.loop-place.place next cut more
          c.loop-place.invariant.low one.0
          (edge_of c.loop-place.place c.args.from c.args.to c.loop-place-test.true c.loop-place.invariant.edge) c.requires.tree
          (λ p low high. wide c.args.level c.args.from c.args.to p c.requires.one_span low (omega (arith, high, one.1)))
          c.loop-place.invariant.moves c.clear_extent-cleared.ensures.moves c.loop-place.invariant.unmaps
          c.clear_extent-cleared.ensures.unmaps);
      room =
          omega (
            arith,
            ap length joined,
            length-append cut more,
            c.loop-place.invariant.room,
            c.clear_extent-cleared.ensures.cut,
            c.loop-place.invariant.low,
            one.0,
          );
      count = omega (arith, c.loop-place.invariant.count, c.clear_extent-cleared.ensures.count, step, is);
      split = split.0;
      none = split.1;
      pool = λ _. c.clear_extent-cleared.ensures.pool;
      order = after c.args.pool.now cur new c.loop-place.invariant.order c.clear_extent-cleared.ensures.order;
    }

pub returns-clause-count : goal.returns-clause-count
returns-clause-count c =
    let done : c.loop-place.place ≡ c.args.to = omega (arith, c.loop-place-test.false, c.loop-place.invariant.high) in
    let all = ap (split_so_far c.args.pool.now c.args.level c.args.root c.args.from c.args.to) done in
    omega (
      arith,
      c.loop-place.invariant.count,
      all,
      split_so_far-end c.args.pool.now c.args.level c.args.root c.args.from c.args.to c.requires.some,
    )

pub returns-clause-split : goal.returns-clause-split
returns-clause-split c =
    let done : c.loop-place.place ≡ c.args.to = omega (arith, c.loop-place-test.false, c.loop-place.invariant.high) in
    let all : split_so_far c.args.pool.now c.args.level c.args.root c.args.from c.args.to c.loop-place.place
    ≡ leaves_splitting (memory c.args.pool.now.words) c.args.level c.args.root c.args.from c.args.to =
    ap (split_so_far c.args.pool.now c.args.level c.args.root c.args.from c.args.to) done
    ∙ split_so_far-end c.args.pool.now c.args.level c.args.root c.args.from c.args.to c.requires.some in (
      (λ h. omega (arith, all, c.loop-place.invariant.split h)),
      (λ h. by_flag c.loop-place.cut.split (λ unset. omega (arith, all, h, c.loop-place.invariant.none unset))),
    )
  where
    by_flag : (b : Bool) → (b ≡ false → ⊥) → b ≡ true
    by_flag true never = refl
    by_flag false never = absurd (never refl)
