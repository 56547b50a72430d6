use Rattle.piece_tree.proofs.Names.{arith}
use Rattle.piece_tree.proofs.shapes.Rising.{rising_end, rising-here, rising-on, rising_start}
use Rattle.piece_tree.proofs.way.step_above.Goals as goal

pub loop-depth-init : goal.loop-depth-init
loop-depth-init c = rising_start c.args.way.now c.args.steps

pub returns-then-way-depth-clause-some : goal.returns-then-way-depth-clause-some
returns-then-way-depth-clause-some c path s =
    rising-here c.args.way.now c.loop-depth.depth path (c.loop-depth.invariant.1 path s) c.loop-depth-test.true c.if-way-depth.true

pub loop-depth-preserved : goal.loop-depth-preserved
loop-depth-preserved c = (
  omega (arith, c.loop-depth.invariant.0),
  (λ path s. rising-on c.args.way.now c.loop-depth.depth path (c.loop-depth.invariant.1 path s) c.loop-depth-test.true
      c.if-way-depth.false),
)

pub returns-clause-none : goal.returns-clause-none
returns-clause-none c path s = rising_end c.args.way.now c.loop-depth.depth path (c.loop-depth.invariant.1 path s) (omega arith)
