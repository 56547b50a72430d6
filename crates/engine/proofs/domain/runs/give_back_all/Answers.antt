use Rattle.std.proofs.Common.{arith}
use Rattle.engine.proofs.flushes.Together.{gives_held, gives_more, gives_once}
use Rattle.engine.proofs.domain.runs.give_back_all.Goals as goal

pub give_back-requires-clause-once : goal.give_back-requires-clause-once
give_back-requires-clause-once c =
    rw (c.frames.ensures.all) (gives_once c.args.pool.now c.loop-record.pool c.args.records.now c.loop-record.record-index
    c.record-item.result
    c.loop-record.invariant c.loop-record-test.true c.record-item.is c.requires.once)

pub give_back-requires-clause-within : goal.give_back-requires-clause-within
give_back-requires-clause-within c =
    rw (c.frames.ensures.all) (λ f some. let less = c.requires.within f (gives_held c.args.pool.now c.loop-record.pool c.args.records.now
    c.loop-record.record-index c.record-item.result c.loop-record.invariant c.loop-record-test.true c.record-item.is f some) in
    omega (arith, less, c.loop-record.invariant.frames))

pub loop-record-preserved : goal.loop-record-preserved
loop-record-preserved c =
    gives_more c.args.pool.now c.loop-record.pool c.args.records.now c.loop-record.record-index c.record-item.result
    c.loop-record.invariant c.loop-record-test.true c.record-item.is c.give_back.new.self
    (rw (← c.frames.ensures.all) c.give_back.ensures.free) (omega (arith, c.give_back.ensures.count))
    c.give_back.ensures.words c.give_back.ensures.trail c.give_back.ensures.frames
