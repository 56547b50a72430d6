use Rattle.std.proofs.Common.{◌≡◌, ◌+◌, ◌/◌, Bool, cond, sym, ap, ◌∙◌, arith}
use Rattle.dmatypes.specs.declared.page.TheConstants.{SPAN_PAGES}
use Rattle.tables.proofs.sums.OverSpans.{so_far-start, so_far-test, so_far-end, splitting_at, few_more, last_span}
use Rattle.tables.specs.Lacks.{leaves_splitting}
use Rattle.tables.proofs.walks.Steps.{span-one}
use Rattle.tables.proofs.unmapping.leaves_splitting.Goals as goal
use Rattle.tables.proofs.unmapping.leaves_splitting.Goals.{then-splits_leaf, else-splits_leaf}

pub loop-number-init : goal.loop-number-init
loop-number-init c = record {
  sum = sym (so_far-start (splitting_at c.args.pool.now c.args.level c.args.root c.args.from c.args.to) (SPAN_PAGES) c.args.from);
  few = omega arith;
}

counted : (c : goal.Joined-splits_leaf) → c.if-splits_leaf.count ≡ c.loop-number.count + cond c.splits_leaf.result 1 0
counted c = elim c.if-splits_leaf.branch [
  | then-splits_leaf w ↦ w.count-is ∙ ap (λ (b : Bool). c.loop-number.count + cond b 1 0) (sym w.if-splits_leaf.true)
  | else-splits_leaf w ↦
      w.count-is ∙ (let e : c.loop-number.count ≡ c.loop-number.count + 0 = omega arith in e)
      ∙ ap (λ (b : Bool). c.loop-number.count + cond b 1 0) (sym w.if-splits_leaf.false)
]

pub loop-number-preserved : goal.loop-number-preserved
unfolding splitting_at
loop-number-preserved c =
    let more = counted c in
    record {
      sum =
          so_far-test (splitting_at c.args.pool.now c.args.level c.args.root c.args.from c.args.to) (SPAN_PAGES) c.args.from
          c.loop-number.number c.loop-number.count c.if-splits_leaf.count c.splits_leaf.result c.loop-number.auto.number
          c.loop-number.invariant.sum c.splits_leaf.ensures more;
      few =
          few_more c.loop-number.count c.if-splits_leaf.count c.loop-number.number (c.args.from / SPAN_PAGES) c.splits_leaf.result
          c.loop-number.auto.number more c.loop-number.invariant.few;
    }

pub returns : goal.returns
unfolding splitting_at leaves_splitting
returns c =
    c.loop-number.invariant.sum
    ∙ so_far-end (splitting_at c.args.pool.now c.args.level c.args.root c.args.from c.args.to) (1) (SPAN_PAGES) c.args.from c.args.to
    c.loop-number.number (sym span-one) (last_span c.args.from c.args.to (SPAN_PAGES) c.loop-number.number (omega arith) c.requires.some
    c.loop-number-test.false c.loop-number.auto.number-end)
