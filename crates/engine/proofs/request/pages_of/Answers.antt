use Rattle.std.proofs.Common.{inl, inr, arith}
use Rattle.engine.proofs.maps.Segments.{all_counted, none_counted, not_none, one_counted, some_page, unfit_stops}
use Rattle.engine.proofs.request.pages_of.Goals as goal
use Rattle.engine.proofs.request.pages_of.Goals.{then-segment-eq0-via-then-segment-eq0}
use Rattle.engine.proofs.request.pages_of.Goals.{then-segment-eq0-via-else-segment-eq0+then-segment-pages}
use Rattle.engine.proofs.request.pages_of.Goals.{then-segment-eq0-via-else-segment-eq0+else-segment-pages+then-segment}

pub loop-segment-init : goal.loop-segment-init
loop-segment-init c = none_counted c.args.segments.now

pub returns-then-segment-eq0-clause-none : goal.returns-then-segment-eq0-clause-none
returns-then-segment-eq0-clause-none c = elim c.then-segment-eq0.branch [
  | then-segment-eq0-via-then-segment-eq0 w ↦
      unfit_stops c.args.segments.now c.loop-segment.segment-index c.loop-segment.pages c.loop-segment-test.true c.loop-segment.invariant
      (inl w.if-segment-eq0.true)
  | then-segment-eq0-via-else-segment-eq0+then-segment-pages w ↦
      unfit_stops c.args.segments.now c.loop-segment.segment-index c.loop-segment.pages c.loop-segment-test.true c.loop-segment.invariant
      (inr (inl (omega (arith, w.if-segment-pages.true, c.loop-segment.invariant.few))))
  | then-segment-eq0-via-else-segment-eq0+else-segment-pages+then-segment w ↦
      unfit_stops c.args.segments.now c.loop-segment.segment-index c.loop-segment.pages c.loop-segment-test.true c.loop-segment.invariant
      (inr (inr (omega (arith, w.if-segment.true, w.if-segment-pages.false))))
]

pub loop-segment-preserved : goal.loop-segment-preserved
loop-segment-preserved c =
    one_counted c.args.segments.now c.loop-segment.segment-index c.loop-segment.pages c.loop-segment-test.true c.loop-segment.invariant
    (λ unfit. elim unfit [
      | inl none ↦ c.if-segment-eq0.false none
      | inr (inl many) ↦ omega (arith, many, c.if-segment-pages.false, c.loop-segment.invariant.few)
      | inr (inr high) ↦ omega (arith, high, c.if-segment.false, c.if-segment-pages.false)
    ])

pub returns-then-pages-eq0-clause-none : goal.returns-then-pages-eq0-clause-none
returns-then-pages-eq0-clause-none c are =
    let all =
    all_counted c.args.segments.now c.loop-segment.segment-index c.loop-segment.pages c.loop-segment-test.false
    c.loop-segment.invariant in
    omega (arith, all.0, c.if-pages-eq0.true, some_page c.args.segments.now are)

pub returns-clause-some : goal.returns-clause-some
returns-clause-some c =
    let all =
    all_counted c.args.segments.now c.loop-segment.segment-index c.loop-segment.pages c.loop-segment-test.false
    c.loop-segment.invariant in (
      all.0,
      record {
        some = not_none c.args.segments.now c.loop-segment.pages all.0 c.if-pages-eq0.false;
        each = all.1;
        few = omega (arith, all.0, all.2);
      },
    )
