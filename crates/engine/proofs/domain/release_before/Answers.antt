use Rattle.std.proofs.Common.{◌∙◌, rules, arith, ap, length, subst}
use Rattle.engine.specs.Ending.{ReleasesAll}
use Rattle.engine.proofs.flushes.ReleasedBefore.{before_end, before_goes, before_one, before_start, before_stays}
use Rattle.engine.proofs.domain.release_before.Goals.{then-record-ticket, else-record-ticket}
use Rattle.engine.proofs.domain.release_before.Goals as goal

pub loop-record-init : goal.loop-record-init
loop-record-init c = before_start c.args.ticket.now.number c.args.pool.now c.args.space.now c.args.records.now c.requires.can

pub release_by-requires-clause-can : goal.release_by-requires-clause-can
release_by-requires-clause-can c =
    before_one c.args.ticket.now.number c.args.pool.now c.args.space.now c.args.records.now c.loop-record.record-index c.loop-record.pool
    c.loop-record.space c.loop-record.released c.loop-record.invariant c.record-item.result c.loop-record-test.true c.record-item.is

pub overflow_add-released : goal.overflow_add-released
overflow_add-released c = let few = c.loop-record.invariant.few in search rules

pub loop-record-preserved : goal.loop-record-preserved
loop-record-preserved c = elim c.if-record-ticket.branch [
  | then-record-ticket w ↦
      rw (w.space-is, w.pool-is, w.released-is) (before_goes c.args.ticket.now.number c.args.pool.now c.args.space.now c.args.records.now
      c.loop-record.record-index c.loop-record.pool c.loop-record.space c.loop-record.released c.loop-record.invariant c.record-item.result
      c.loop-record-test.true c.record-item.is w.release_by.new.pool w.release_by.new.space w.if-record-ticket.true
      w.release_by.ensures.released w.release_by.ensures.retirable w.release_by.ensures.more)
  | else-record-ticket w ↦
      rw (w.space-is, w.pool-is, w.released-is) (before_stays c.args.ticket.now.number c.args.pool.now c.args.space.now c.args.records.now
      c.loop-record.record-index c.loop-record.pool c.loop-record.space c.loop-record.released c.loop-record.invariant c.record-item.result
      c.loop-record-test.true c.record-item.is w.if-record-ticket.false)
]

pub returns-clause-released : goal.returns-clause-released
returns-clause-released c =
    subst (λ rs. ReleasesAll c.args.pool.now c.args.space.now rs c.loop-record.pool c.loop-record.space)
    (before_end c.args.ticket.now.number c.args.records.now c.loop-record.record-index
    (omega (arith, c.loop-record-test.false, c.loop-record.auto.record-index-end))) c.loop-record.invariant.so_far

pub returns-clause-count : goal.returns-clause-count
returns-clause-count c =
    c.loop-record.invariant.count
    ∙ ap length (before_end c.args.ticket.now.number c.args.records.now c.loop-record.record-index
    (omega (arith, c.loop-record-test.false, c.loop-record.auto.record-index-end)))
