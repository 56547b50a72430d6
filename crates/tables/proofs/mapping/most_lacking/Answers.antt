use Rattle.std.proofs.Common.{◌≡◌, suc, ◌+◌, ◌-◌, ◌/◌, ◌≤◌, ap, ◌∙◌, arith}
use Rattle.std.proofs.Math.Nat.{div-le_self}
use Rattle.tables.specs.Tree.{span, sum_below}
use Rattle.tables.specs.Lacks.{tables_lacking}
use Rattle.tables.proofs.sums.OverSpans.{level_lacks, level_few, lacks_levels}
use Rattle.tables.proofs.sums.Firsts.{sum_below-zero, sum_below-suc}
use Rattle.tables.proofs.mapping.most_lacking.Goals as goal

pub loop-wanted-init : goal.loop-wanted-init
loop-wanted-init c = record {
  enough = λ m root large. omega (arith, sum_below-zero (level_lacks m c.args.level root large c.args.first c.args.end));
  small = omega arith;
}

pub loop-wanted-preserved : goal.loop-wanted-preserved
loop-wanted-preserved c = record {
  enough = λ m root large.
      let g = level_lacks m c.args.level root large c.args.first c.args.end in
      let next : sum_below g (c.loop-wanted.wanted + 1 - 1) ≡ sum_below g (c.loop-wanted.wanted - 1) + g (c.loop-wanted.wanted - 1) =
      ap (sum_below g) (let e : c.loop-wanted.wanted + 1 - 1 ≡ suc (c.loop-wanted.wanted - 1) = omega (arith, c.loop-wanted.auto.wanted) in
      e)
      ∙ sum_below-suc g (c.loop-wanted.wanted - 1) in
      let width : c.span_of-width.result ≡ span (c.loop-wanted.wanted - 1 + 1) =
      c.span_of-width.ensures.exact
      ∙ ap span (let e : c.loop-wanted.wanted ≡ c.loop-wanted.wanted - 1 + 1 = omega (arith, c.loop-wanted.auto.wanted) in e) in
      omega (
        arith,
        next,
        c.loop-wanted.invariant.enough m root large,
        level_few m c.args.level root large c.args.first c.args.end (c.loop-wanted.wanted - 1) c.span_of-width.result width,
      );
  small =
      let below : (c.args.end - 1) / c.span_of-width.result ≤ c.args.end - 1 = div-le_self (c.args.end - 1) c.span_of-width.result in
      omega (arith, below, c.loop-wanted.invariant.small, c.requires.within, c.requires.some, c.loop-wanted.auto.wanted);
}

pub returns : goal.returns
returns c m root large =
    let e : c.loop-wanted.wanted - 1 ≡ c.args.level - 1 =
    omega (arith, c.loop-wanted-test.false, c.loop-wanted.auto.wanted-end, c.requires.low) in
    let all : tables_lacking m c.args.level root large c.args.first c.args.end
    ≡ sum_below (level_lacks m c.args.level root large c.args.first c.args.end) (c.loop-wanted.wanted - 1) =
    lacks_levels m c.args.level root large c.args.first c.args.end (c.loop-wanted.wanted - 1) e in
    omega (arith, all, c.loop-wanted.invariant.enough m root large)
