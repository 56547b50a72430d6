use Rattle.std.proofs.Common.{◌+◌, ◌<◌, ◌≤◌, ◌⊎◌, inl, inr, drop, get_or, sym, ap, subst, ◌∙◌, arith}
use Rattle.dmatypes.specs.Conditions.{total_pages}
use Rattle.tables.specs.Segments.{rest_at, AreSegments}
use Rattle.tables.proofs.maps.Placed.{drop_ended, drop_at, rest_in, rest_out, rest-nil, total-cons}
use Rattle.tables.proofs.segments.rest_at.Goals as goal

pub returns-then-page-end : goal.returns-then-page-end
returns-then-page-end c =
    let ss = c.args.segments.now in
    let i = c.loop-segment.segment-index in
    let s = get_or c.args.segments.now c.loop-segment.segment-index (record { frame = 0; pages = 0 }) in
    sym (c.loop-segment.invariant.rest
    ∙ ap (λ xs. rest_at xs c.loop-segment.start c.args.page) (drop_at ss i (record { frame = 0; pages = 0 }) c.loop-segment-test.true)
    ∙ rest_in s (drop (i + 1) ss) c.loop-segment.start c.args.page c.if-start-page.true c.if-page-end.true)

pub loop-segment-preserved : goal.loop-segment-preserved
loop-segment-preserved c =
    let ss = c.args.segments.now in
    let i = c.loop-segment.segment-index in
    let s = get_or c.args.segments.now c.loop-segment.segment-index (record { frame = 0; pages = 0 }) in
    let cut = drop_at ss i (record { frame = 0; pages = 0 }) c.loop-segment-test.true in
    let out : (c.args.page < c.loop-segment.start) ⊎ (c.loop-segment.start + s.pages ≤ c.args.page) =
    elim c.else-start-page.either [ inl h ↦ inr h.1 | inr h ↦ inl h ] in
    record {
      rest =
          c.loop-segment.invariant.rest ∙ ap (λ xs. rest_at xs c.loop-segment.start c.args.page) cut
          ∙ rest_out s (drop (i + 1) ss) c.loop-segment.start c.args.page out;
      segments = (subst (λ xs. AreSegments xs) cut c.loop-segment.invariant.segments).2;
      end = omega (arith, c.loop-segment.invariant.end, ap (λ xs. total_pages xs) cut, total-cons s (drop (i + 1) ss));
    }

pub returns : goal.returns
returns c =
    sym (c.loop-segment.invariant.rest
    ∙ ap (λ xs. rest_at xs c.loop-segment.start c.args.page)
    (drop_ended c.args.segments.now c.loop-segment.segment-index c.loop-segment-test.false) ∙ rest-nil c.loop-segment.start c.args.page)
