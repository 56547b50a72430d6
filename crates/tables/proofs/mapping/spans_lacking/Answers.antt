use Rattle.std.proofs.Common.{◌≡◌, ◌+◌, ◌/◌, Bool, cond, sym, ap, ◌∙◌, arith}
use Rattle.tables.proofs.sums.OverSpans.{so_far-start, so_far-test, so_far-end, lacking_at, few_more, last_span}
use Rattle.tables.proofs.mapping.spans_lacking.Goals as goal
use Rattle.tables.proofs.mapping.spans_lacking.Goals.{then-lacks_table, else-lacks_table}

pub loop-number-init : goal.loop-number-init
loop-number-init c = record {
  sum =
      sym (so_far-start (lacking_at c.args.pool.now c.args.level c.args.root c.args.segments.now c.args.first c.args.wanted)
      (c.span_of-width.result) c.args.first);
  few = omega arith;
}

counted : (c : goal.Joined-lacks_table) → c.if-lacks_table.count ≡ c.loop-number.count + cond c.lacks_table.result 1 0
counted c = elim c.if-lacks_table.branch [
  | then-lacks_table w ↦ w.count-is ∙ ap (λ (b : Bool). c.loop-number.count + cond b 1 0) (sym w.if-lacks_table.true)
  | else-lacks_table w ↦
      w.count-is ∙ (let e : c.loop-number.count ≡ c.loop-number.count + 0 = omega arith in e)
      ∙ ap (λ (b : Bool). c.loop-number.count + cond b 1 0) (sym w.if-lacks_table.false)
]

pub loop-number-preserved : goal.loop-number-preserved
unfolding lacking_at
loop-number-preserved c =
    let more = counted c in
    record {
      sum =
          so_far-test (lacking_at c.args.pool.now c.args.level c.args.root c.args.segments.now c.args.first c.args.wanted)
          (c.span_of-width.result) c.args.first c.loop-number.number c.loop-number.count c.if-lacks_table.count c.lacks_table.result
          c.loop-number.auto.number c.loop-number.invariant.sum c.lacks_table.ensures more;
      few =
          few_more c.loop-number.count c.if-lacks_table.count c.loop-number.number (c.args.first / c.span_of-width.result)
          c.lacks_table.result c.loop-number.auto.number more c.loop-number.invariant.few;
    }

pub returns-clause-value : goal.returns-clause-value
unfolding lacking_at
returns-clause-value c =
    c.loop-number.invariant.sum
    ∙ so_far-end (lacking_at c.args.pool.now c.args.level c.args.root c.args.segments.now c.args.first c.args.wanted) (c.args.wanted)
    (c.span_of-width.result) c.args.first c.args.end c.loop-number.number c.span_of-width.ensures.exact
    (last_span c.args.first c.args.end (c.span_of-width.result) c.loop-number.number c.span_of-width.ensures.some c.requires.some
    c.loop-number-test.false c.loop-number.auto.number-end)
