use Rattle.std.proofs.Common.{◌+◌, ap, refl}
use Rattle.dmatypes.specs.declared.call.Call.TheVariants as calls
use Rattle.dmatypes.specs.declared.reply.Reply.TheVariants.{Done}
use Rattle.unit.specs.Caches.{UnitState}
use Rattle.engine.specs.contracts.state.State.{the_view}
use Rattle.engine.specs.State.{State}
use Rattle.engine.specs.Steps.{Does}
use Rattle.engine.proofs.requests.Stepped.{evict_does}
use Rattle.engine.proofs.states.Refused.{whole_quiet}
use Rattle.engine.proofs.state.State.evict.Goals as goal

abbrev after : goal.After-evict → State
after c = record (the_view c.self.inside) {
  iommu = record c.self.inside.iommu { unit = c.evict.new.self };
  calls = c.self.inside.calls + 1;
}

does : (c : goal.After-evict) → Does (the_view c.self.inside) (calls.Evict c.args.kind c.args.place) Done (after c)
does c =
    evict_does (the_view c.self.inside) (after c) c.args.kind c.args.place (ap
    (λ (u : UnitState). record (the_view c.self.inside)
    { iommu = record c.self.inside.iommu { unit = u }; calls = c.self.inside.calls + 1 })
    c.evict.ensures)

pub returns : goal.returns
returns c = rw (← c.self.view_is) (does c)

pub invariant_of-self : goal.invariant_of-self
invariant_of-self c = (
  whole_quiet (the_view c.self.inside) (after c) (calls.Evict c.args.kind c.args.place) Done c.self.invariant.0
      (does c) refl refl
      refl refl (ap (λ (u : UnitState). u.steps) c.evict.ensures),
  c.self.invariant.1,
)
