use Rattle.std.proofs.Common.{◌≡◌, ◌-◌, ◌*◌, ◌/◌, ◌++◌, ◌∙◌, Some, ap, arith, length, refl, subst, sym, true, false}
use Rattle.std.specs.Prelude.{slice_get}
use Rattle.std.proofs.lemmas.Option.{slice_get_read}
use Rattle.dmatypes.specs.declared.page.TheConstants.{SPAN_PAGES}
use Rattle.std.proofs.lemmas.List.{append_assoc, length-append}
use Rattle.std.proofs.lemmas.List.Elements.{All-append}
use Rattle.engine.specs.Domains.{domain_at}
use Rattle.engine.specs.Walkable.{table_at}
use Rattle.driven.specs.Effects.{IsForTables}
use Rattle.driven.proofs.Spans.{lowest_more, same_table, stay_more, told_more}
use Rattle.driven.proofs.telling.bring_lowest.Goals as goal
use Rattle.driven.proofs.telling.bring_lowest.Goals.{else-not-is_kept, then-not-is_kept}

pub table_after-now-requires-clause-stays : goal.table_after-now-requires-clause-stays
table_after-now-requires-clause-stays c =
    λ less f had.
    let (more, (items, few, begun, for_memory, lowest, told, stay)) = c.loop-span.invariant in
    let here : c.max-from.result / SPAN_PAGES ≡ c.loop-span.span = omega (arith, c.max-from.ensures, begun, c.loop-span-test.true) in
    c.requires.stay c.max-from.result f (omega (arith, c.max-from.ensures))
    (omega (arith, c.max-from.ensures, c.requires.pages.0, c.loop-span-test.true))
    (λ covered. omega (arith, less, covered, here, c.max-from.ensures, c.min-to.ensures))
    (ap (λ n. slice_get c.args.before.now.items (n - c.args.first / SPAN_PAGES)) here
    ∙ subst (λ xs. slice_get xs (c.loop-span.span - c.args.first / SPAN_PAGES) ≡ Some c.index-as_slice-span.result) c.as_slice.ensures.value
    (slice_get_read c.as_slice.result.now (length c.as_slice.result.now) (c.loop-span.span - c.args.first / SPAN_PAGES)
    c.index-as_slice-span.result refl
    (omega (arith, ap length c.as_slice.ensures.value, c.requires.before, c.loop-span-test.true, begun)) c.index-as_slice-span.is)
    ∙ ap (λ o. Some o) had)

pub loop-span-preserved : goal.loop-span-preserved
loop-span-preserved c =
    let (more, (items, few, begun, for_memory, lowest, told, stay)) = c.loop-span.invariant in
    let (next, second, two, brings) = c.bring_table.ensures in
    let stood : slice_get c.args.before.now.items (c.loop-span.span - c.args.first / SPAN_PAGES) ≡ Some c.index-as_slice-span.result =
    subst (λ xs. slice_get xs (c.loop-span.span - c.args.first / SPAN_PAGES) ≡ Some c.index-as_slice-span.result) c.as_slice.ensures.value
    (slice_get_read c.as_slice.result.now (length c.as_slice.result.now) (c.loop-span.span - c.args.first / SPAN_PAGES)
    c.index-as_slice-span.result refl
    (omega (arith, ap length c.as_slice.ensures.value, c.requires.before, c.loop-span-test.true, begun)) c.index-as_slice-span.is) in
    let is : c.table_after-now.result
    ≡ table_at c.args.state.now.pool (domain_at c.args.state.now.domains c.args.domain) (c.loop-span.span * SPAN_PAGES) 1 =
    c.table_after-now.ensures
    ∙ same_table c.args.state.now.pool (domain_at c.args.state.now.domains c.args.domain) c.max-from.result (c.loop-span.span * SPAN_PAGES)
    (omega (arith, c.max-from.ensures, begun, c.loop-span-test.true)) in (
      more ++ next,
      (
        second ∙ ap (λ xs. xs ++ next) items ∙ append_assoc c.args.effects.now.items more next,
        omega (arith, few, two, length-append more next),
        omega (arith, begun),
        All-append IsForTables more next for_memory brings.for_memory,
        lowest_more c.args.state.now.pool (domain_at c.args.state.now.domains c.args.domain) c.args.first c.args.last
            c.args.before.now.items
            more c.loop-span.span c.max-from.result c.min-to.result c.index-as_slice-span.result c.table_after-now.result next lowest stood
            is (omega (arith, c.max-from.ensures, begun, c.loop-span-test.true))
            (omega (arith, c.max-from.ensures)) (omega (arith, c.max-from.ensures, c.requires.pages.0, c.loop-span-test.true)) brings,
        told_more c.args.state.now.pool (domain_at c.args.state.now.domains c.args.domain) c.args.first c.args.last c.args.before.now.items
            more c.loop-span.span c.max-from.result c.min-to.result c.index-as_slice-span.result c.table_after-now.result next told
            (omega (arith, begun)) stood is
            (λ p low here. omega (arith, c.max-from.ensures, low, here)) (λ p high here. omega (arith, c.min-to.ensures, high, here))
            brings,
        (λ yes. elim c.if-not-is_kept.branch [
          | then-not-is_kept w ↦ absurd (let clash : true ≡ false = sym yes ∙ w.stay-is in cc)
          | else-not-is_kept w ↦
              let (f, (had, has)) = c.is_kept.ensures w.if-not-is_kept.false in
              stay_more c.args.state.now.pool (domain_at c.args.state.now.domains c.args.domain) c.args.first c.args.last
              c.args.before.now.items c.loop-span.span f c.index-as_slice-span.result c.table_after-now.result (stay (sym w.stay-is ∙ yes))
              stood is had has
        ]),
      ),
    )
