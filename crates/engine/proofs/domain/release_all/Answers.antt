use Rattle.std.proofs.Common.{◌∙◌}
use Rattle.engine.proofs.flushes.Together.{releasing_among, releasing_last}
use Rattle.engine.proofs.domain.release_all.Goals as goal

pub release_last-requires-clause-invalidated : goal.release_last-requires-clause-invalidated
release_last-requires-clause-invalidated c r inside =
    c.requires.invalidated r (releasing_among c.args.pool.now c.loop-id.pool c.args.space.now c.loop-id.space c.args.records.now.items
    c.loop-id.records.items c.loop-id.invariant.0 r inside)

pub loop-id-preserved : goal.loop-id-preserved
loop-id-preserved c = (
  releasing_last c.args.pool.now c.loop-id.pool c.release_last.new.pool c.args.space.now c.loop-id.space c.release_last.new.space
      c.args.records.now.items c.loop-id.records.items c.release_last.new.records.items c.loop-id.invariant.0
      c.release_last.ensures.released,
  c.release_last.ensures.room ∙ c.loop-id.invariant.1,
)
