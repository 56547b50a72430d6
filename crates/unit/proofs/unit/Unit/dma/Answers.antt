use Rattle.std.proofs.Common.{inl, inr, ap, subst, refl, arith, List, Err}
use Rattle.dmatypes.specs.Page.{IsBeyond, addresses_end}
use Rattle.dmatypes.specs.declared.refusal.Fault.TheVariants as faults
use Rattle.tables.specs.Pool.{memory}
use Rattle.unit.specs.Answers.{AnswersRequest, IsContextOf, HasNoContext}
use Rattle.unit.specs.Caches.{CachedContext, UnitState, caches}
use Rattle.dmatypes.specs.World.{IsIn}
use Rattle.unit.proofs.caches.Remembered.{told_remembered}
use Rattle.unit.proofs.unit.Unit.dma.Goals as goal

pub returns-in_default-clause-answers : goal.returns-in_default-clause-answers
returns-in_default-clause-answers c =
    let without : HasNoContext c.args.contexts.now c.self.inside.contexts.items c.args.whim.look c.args.device =
    c.in_default.ensures.none in
    subst (λ (u : UnitState).
    AnswersRequest (memory c.args.pool.now.words) c.args.contexts.now c.args.whim.look c.args.whim.fill u.caching c.args.device
    c.args.address c.args.access u.caches (caches c.self.inside.leaves c.self.inside.non_leaves.items c.context_of.new.cached.items
    c.self.inside.faults.items) (Err faults.NotAttached))
    c.self.view_is
    (inl (
      without,
      refl,
      ap (λ (xs : List CachedContext). caches c.self.inside.leaves c.self.inside.non_leaves.items xs
          c.self.inside.faults.items) c.in_default.ensures.unchanged,
    ))

pub returns-then-address-end-clause-answers : goal.returns-then-address-end-clause-answers
returns-then-address-end-clause-answers c =
    let serves : IsContextOf c.args.contexts.now c.self.inside.contexts.items c.args.whim.look c.args.device c.in-Some.context =
    c.in-Some.ensures.some in
    let wide = ap (λ (x : CachedContext). addresses_end x.width) c.context.view_is in
    let beyond : IsBeyond c.in-Some.context.width c.args.address = omega (arith, wide, c.addresses_end-end.ensures) in
    subst (λ (u : UnitState).
    AnswersRequest (memory c.args.pool.now.words) c.args.contexts.now c.args.whim.look c.args.whim.fill u.caching c.args.device
    c.args.address c.args.access u.caches (caches c.self.inside.leaves c.self.inside.non_leaves.items c.context_of.new.cached.items
    c.self.inside.faults.items)
    (Err faults.BeyondWidth))
    c.self.view_is
    (inr (c.in-Some.context, serves, c.in-Some.ensures.gains, inl (beyond, refl, refl)))

pub returns-clause-answers : goal.returns-clause-answers
returns-clause-answers c =
    let serves : IsContextOf c.args.contexts.now c.self.inside.contexts.items c.args.whim.look c.args.device c.in-Some.context =
    c.in-Some.ensures.some in
    let wide = ap (λ (x : CachedContext). addresses_end x.width) c.context.view_is in
    let within : IsBeyond c.in-Some.context.width c.args.address → ⊥ = λ b. absurd (omega (arith, b, wide, c.addresses_end-end.ensures)) in
    subst (λ (u : UnitState).
    AnswersRequest (memory c.args.pool.now.words) c.args.contexts.now c.args.whim.look c.args.whim.fill u.caching c.args.device
    c.args.address c.args.access u.caches
    (caches c.translation_of-to.new.leaves c.translation_of-to.new.tables.items c.context_of.new.cached.items
    c.translation_of-to.new.faults.items) c.tell.result)
    c.self.view_is
    (inr (
      c.in-Some.context,
      serves,
      c.in-Some.ensures.gains,
      inr (within, (c.translation_of-to.result, c.translation_of-to.ensures.read, c.tell.ensures)),
    ))

pub returns-clause-remembered : goal.returns-clause-remembered
returns-clause-remembered c = λ fill.
    let serves : IsContextOf c.args.contexts.now c.self.inside.contexts.items c.args.whim.look c.args.device c.in-Some.context =
    c.in-Some.ensures.some in
    let there : IsIn c.in-Some.context c.context_of.new.cached.items = c.in-Some.ensures.remembered fill in
    told_remembered c.translation_of-to.result c.args.address c.args.access c.tell.result
    (caches c.translation_of-to.new.leaves c.translation_of-to.new.tables.items c.context_of.new.cached.items
    c.translation_of-to.new.faults.items) c.in-Some.context
    c.args.device
    c.tell.ensures there serves.0 (c.translation_of-to.ensures.remembered fill)
