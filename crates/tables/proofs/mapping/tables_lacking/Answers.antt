use Rattle.std.proofs.Common.{◌≡◌, suc, ◌+◌, ◌-◌, sym, ap, ◌∙◌, arith}
use Rattle.tables.specs.Tree.{sum_below}
use Rattle.tables.specs.Lacks.{tables_lacking}
use Rattle.tables.proofs.sums.OverSpans.{level_lacking, lacking_at, level_at}
use Rattle.tables.proofs.sums.Firsts.{sum_below-zero, sum_below-suc}
use Rattle.tables.proofs.mapping.tables_lacking.Goals as goal

pub loop-wanted-init : goal.loop-wanted-init
loop-wanted-init c = record {
  sum = sym (sum_below-zero (level_lacking c.args.pool.now c.args.level c.args.root c.args.segments.now c.args.first c.args.end));
  small = omega arith;
}

pub loop-wanted-preserved : goal.loop-wanted-preserved
loop-wanted-preserved c =
    let g = level_lacking c.args.pool.now c.args.level c.args.root c.args.segments.now c.args.first c.args.end in
    let next : sum_below g (c.loop-wanted.wanted + 1 - 1) ≡ sum_below g (c.loop-wanted.wanted - 1) + g (c.loop-wanted.wanted - 1) =
    ap (sum_below g) (let e : c.loop-wanted.wanted + 1 - 1 ≡ suc (c.loop-wanted.wanted - 1) = omega (arith, c.loop-wanted.auto.wanted) in e)
    ∙ sum_below-suc g (c.loop-wanted.wanted - 1) in
    let here : c.spans_lacking-count.result ≡ g (c.loop-wanted.wanted - 1) =
    level_at c.args.pool.now c.args.level c.args.root c.args.segments.now c.args.first c.args.end (c.loop-wanted.wanted - 1)
    c.loop-wanted.wanted c.spans_lacking-count.result (omega (arith, c.loop-wanted.auto.wanted))
    c.spans_lacking-count.ensures.value in
    record {
      sum = omega (arith, next, here, c.loop-wanted.invariant.sum);
      small = omega (arith, c.loop-wanted.invariant.small, c.spans_lacking-count.ensures.small, c.loop-wanted.auto.wanted);
    }

pub returns : goal.returns
unfolding tables_lacking level_lacking lacking_at
returns c =
    c.loop-wanted.invariant.sum
    ∙ ap (sum_below (level_lacking c.args.pool.now c.args.level c.args.root c.args.segments.now c.args.first c.args.end))
    (let e : c.loop-wanted.wanted - 1 ≡ c.args.level - 1 =
    omega (arith, c.loop-wanted-test.false, c.loop-wanted.auto.wanted-end, c.requires.low) in
    e)
