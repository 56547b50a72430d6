use Rattle.std.proofs.Common.{◌≡◌, ◌∙◌, ◌+◌, ◌++◌, ◌∷◌, [], ap, sym, length, arith}
use Rattle.std.proofs.lemmas.List.{length-append}
use Rattle.queue.specs.Ring.{Ring, with_last}
use Rattle.unit.specs.Caches.{UnitState}
use Rattle.vtdbits.specs.declared.descriptor.Descriptor.TheVariants.{Wait}
use Rattle.engine.proofs.caches.WorkedOff.{few_steps, first_stage, last_stage, next_stage, submitted, taken_before}
use Rattle.engine.proofs.iommu.work_off.Goals as goal

pub loop-unit-init : goal.loop-unit-init
loop-unit-init c =
    let one : c.submit.new.self ≡ with_last c.args.descriptor c.args.ring.now =
    submitted c.submit.result (length c.args.ring.now.waiting) c.submit.ensures.full.0 (omega (arith, c.requires.room))
    c.submit.ensures.ok in
    let few : length c.submit.new.self.waiting ≡ length c.args.ring.now.waiting + 1 =
    ap (λ (q : Ring). length q.waiting) one ∙ length-append c.args.ring.now.waiting (c.args.descriptor ∷ []) in
    let two : c.submit-2.new.self ≡ with_last (Wait c.args.status) c.submit.new.self =
    submitted c.submit-2.result (length c.submit.new.self.waiting) c.submit-2.ensures.full.0 (omega (arith, few, c.requires.room))
    c.submit-2.ensures.ok in
    first_stage c.args.descriptor c.args.status c.args.ring.now c.submit.new.self c.submit-2.new.self c.args.unit.now
    (omega (arith, c.requires.room)) one two

pub step-requires : goal.step-requires
step-requires c =
    let made = length-append c.args.ring.now.waiting (c.args.descriptor ∷ []) in
    omega (
      arith,
      made,
      few_steps (c.args.ring.now.waiting ++ c.args.descriptor ∷ []) c.args.status c.args.ring.now.status
          (taken_before c.args.ring.now.waiting c.args.descriptor c.args.status c.args.ring.now.taken) c.args.unit.now c.loop-unit.ring
          c.loop-unit.unit c.loop-unit.invariant (λ is. c.loop-unit-test.true (c.status.ensures ∙ is)),
      c.requires.steps,
    )

pub loop-unit-smaller : goal.loop-unit-smaller
loop-unit-smaller c =
    (next_stage (c.args.ring.now.waiting ++ c.args.descriptor ∷ []) c.args.status c.args.ring.now.status
    (taken_before c.args.ring.now.waiting c.args.descriptor c.args.status c.args.ring.now.taken) c.args.unit.now c.loop-unit.ring
    c.step.new.ring
    c.loop-unit.unit c.step.new.self c.loop-unit.invariant (λ is. c.loop-unit-test.true (c.status.ensures
    ∙ is)) c.step.ensures.ring c.step.ensures.unit).1

pub loop-unit-preserved : goal.loop-unit-preserved
loop-unit-preserved c =
    (next_stage (c.args.ring.now.waiting ++ c.args.descriptor ∷ []) c.args.status c.args.ring.now.status
    (taken_before c.args.ring.now.waiting c.args.descriptor c.args.status c.args.ring.now.taken) c.args.unit.now c.loop-unit.ring
    c.step.new.ring
    c.loop-unit.unit c.step.new.self c.loop-unit.invariant (λ is. c.loop-unit-test.true (c.status.ensures
    ∙ is)) c.step.ensures.ring c.step.ensures.unit).0

pub returns-clause-ring : goal.returns-clause-ring
returns-clause-ring c =
    (last_stage c.args.ring.now.waiting c.args.descriptor c.args.status c.args.ring.now.status
    (taken_before c.args.ring.now.waiting c.args.descriptor c.args.status c.args.ring.now.taken) c.args.unit.now c.loop-unit.ring
    c.loop-unit.unit
    c.requires.others c.requires.no_wait c.requires.fresh c.loop-unit.invariant (sym c.status.ensures ∙ c.loop-unit-test.false)).0

pub returns-clause-caches : goal.returns-clause-caches
returns-clause-caches c =
    ap (λ (u : UnitState). u.caches) (last_stage c.args.ring.now.waiting c.args.descriptor c.args.status c.args.ring.now.status
    (taken_before c.args.ring.now.waiting c.args.descriptor c.args.status c.args.ring.now.taken) c.args.unit.now c.loop-unit.ring
    c.loop-unit.unit
    c.requires.others c.requires.no_wait c.requires.fresh c.loop-unit.invariant (sym c.status.ensures ∙ c.loop-unit-test.false)).1

pub returns-clause-steps : goal.returns-clause-steps
returns-clause-steps c =
    ap (λ (u : UnitState). u.steps) (last_stage c.args.ring.now.waiting c.args.descriptor c.args.status c.args.ring.now.status
    (taken_before c.args.ring.now.waiting c.args.descriptor c.args.status c.args.ring.now.taken) c.args.unit.now c.loop-unit.ring
    c.loop-unit.unit
    c.requires.others c.requires.no_wait c.requires.fresh c.loop-unit.invariant (sym c.status.ensures ∙ c.loop-unit-test.false)).1

pub returns-clause-each : goal.returns-clause-each
returns-clause-each c =
    ap (λ (u : UnitState). u.done) (last_stage c.args.ring.now.waiting c.args.descriptor c.args.status c.args.ring.now.status
    (taken_before c.args.ring.now.waiting c.args.descriptor c.args.status c.args.ring.now.taken) c.args.unit.now c.loop-unit.ring
    c.loop-unit.unit
    c.requires.others c.requires.no_wait c.requires.fresh c.loop-unit.invariant (sym c.status.ensures ∙ c.loop-unit-test.false)).1

pub returns-clause-caching : goal.returns-clause-caching
returns-clause-caching c =
    ap (λ (u : UnitState). u.caching) (last_stage c.args.ring.now.waiting c.args.descriptor c.args.status c.args.ring.now.status
    (taken_before c.args.ring.now.waiting c.args.descriptor c.args.status c.args.ring.now.taken) c.args.unit.now c.loop-unit.ring
    c.loop-unit.unit
    c.requires.others c.requires.no_wait c.requires.fresh c.loop-unit.invariant (sym c.status.ensures ∙ c.loop-unit-test.false)).1
