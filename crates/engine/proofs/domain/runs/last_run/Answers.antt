use Rattle.std.proofs.Common.{arith}
use Rattle.engine.proofs.flushes.Together.{range_before}
use Rattle.engine.proofs.domain.runs.last_run.Goals as goal

pub loop-start-preserved : goal.loop-start-preserved
loop-start-preserved c = record {
  less = omega (arith, c.loop-start.invariant.less);
  of = range_before c.args.records.now c.loop-start.start c.index-records-start-in-loop-start.result c.loop-start.range c.in-Some.longer
      c.loop-start-test.true c.loop-start.invariant.less c.in-Some.ensures c.loop-start.invariant.of;
}
