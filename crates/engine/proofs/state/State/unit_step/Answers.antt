use Rattle.std.proofs.Common.{◌≡◌, ◌+◌, ap}
use Rattle.dmatypes.specs.declared.call.Call.TheVariants as calls
use Rattle.dmatypes.specs.declared.reply.Reply.TheVariants.{Stepped}
use Rattle.engine.specs.contracts.state.State.{the_view}
use Rattle.engine.specs.declared.iommu.Iommu.{Iommu}
use Rattle.engine.specs.State.{State}
use Rattle.engine.specs.Steps.{Does}
use Rattle.engine.proofs.tickets.UnitDoes.{stepped, unit_does, whole_stepped}
use Rattle.engine.proofs.state.State.unit_step.Goals as goal

abbrev after : goal.After-step → State
after c = record (the_view c.self.inside) { iommu = c.step.new.self; calls = c.self.inside.calls + 1 }

same : (c : goal.After-step) → after c ≡ stepped (the_view c.self.inside)
same c = ap (λ (x : Iommu). record (the_view c.self.inside) { iommu = x; calls = c.self.inside.calls + 1 }) c.step.ensures.steps

does : (c : goal.After-step) → Does (the_view c.self.inside) calls.Unit (Stepped c.step.result) (after c)
does c = unit_does (the_view c.self.inside) (after c) c.step.result c.step.ensures.idle (same c)

pub returns : goal.returns
returns c = rw (← c.self.view_is) (does c)

pub invariant_of-self : goal.invariant_of-self
invariant_of-self c = (
  whole_stepped (the_view c.self.inside) (after c) c.step.result c.self.invariant.0 (does c) (same c),
  c.self.invariant.1,
)
