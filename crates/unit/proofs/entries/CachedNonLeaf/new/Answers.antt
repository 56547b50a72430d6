use Rattle.std.proofs.Common.{arith}
use Rattle.tables.specs.Tree.{span}
use Rattle.tables.proofs.walks.Near.{span_grows}
use Rattle.unit.proofs.entries.CachedNonLeaf.new.Goals as goal

pub invariant_of-result : goal.invariant_of-result
unfolding span
invariant_of-result c = record {
  first = omega (arith, c.requires.page);
  pages = omega (arith, c.span_of-pages.ensures.exact, span_grows c.args.level 3 c.requires.high);
  low = c.requires.low;
  high = c.requires.high;
}
