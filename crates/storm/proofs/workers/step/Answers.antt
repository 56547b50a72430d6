use Rattle.storm.proofs.workers.step.Goals as goal

pub loop-made-preserved : goal.loop-made-preserved
loop-made-preserved g c = c.make.ensures c.loop-made.made c.loop-made.invariant
