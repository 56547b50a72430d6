use Rattle.std.proofs.Common.{arith, ◌≡◌, ◌≤◌, ◌<◌, ⊎_elim, List, None, Some, refl, slice_get, slice_set, subst}
use Rattle.std.proofs.lemmas.Bool.{cases_lt}
use Rattle.std.proofs.lemmas.List.{length-set}
use Rattle.dmatypes.specs.declared.call.Call.TheVariants as calls
use Rattle.dmatypes.specs.declared.reply.Reply.TheVariants.{Done}
use Rattle.vtdbits.specs.declared.context.ContextEntry.TheVariants.{Absent, Present}
use Rattle.vtdbits.specs.declared.descriptor.Descriptor.TheVariants.{ContextDevice}
use Rattle.vtdbits.specs.declared.context.ContextEntry.{ContextEntry}
use Rattle.engine.specs.contracts.state.State.{the_view}
use Rattle.engine.specs.declared.iommu.Iommu.{Iommu}
use Rattle.engine.specs.Ending.{Invalidates}
use Rattle.engine.specs.Steps.{Does}
use Rattle.engine.proofs.devices.Detached.{detach_does, detach_no_device, detach_not_attached, detached}
use Rattle.engine.proofs.caches.Sent.{whole_sends}
use Rattle.engine.proofs.caches.ReadyToSend.{ready_to_send}
use Rattle.engine.proofs.state.State.detach.Goals as goal
use Rattle.dmatypes.specs.declared.limits.TheConstants.{DEVICES}

pub returns-in_default : goal.returns-in_default
returns-in_default c =
    let big : DEVICES ≤ c.args.device =
    ⊎_elim (λ (small : c.args.device < DEVICES). let some = c.in_default.ensures.some.1 (omega (arith, small)) in absurd cc)
    (λ (big : DEVICES ≤ c.args.device). big) (cases_lt c.args.device DEVICES) in
    rw (← c.self.view_is) (detach_no_device _ _ c.args.device refl big)

pub returns-in_default-get : goal.returns-in_default-get
returns-in_default-get c =
    rw (← c.self.view_is)
    (detach_not_attached _ _ c.args.device Absent refl (let low = c.in-Some.ensures.some.0 refl in omega (arith, low))
    c.in_default-get.ensures refl)

-- the row with no entry of the device
abbrev cleared : goal.After-forget_context → Iommu
cleared c = record c.self.inside.iommu { contexts = slice_set c.self.inside.iommu.contexts c.args.device Absent }

sent : (c : goal.After-forget_context) → Invalidates (cleared c) (ContextDevice c.in-Present.domain c.args.device) None
    c.forget_context.new.self
sent c =
    subst (λ (row : List ContextEntry).
    Invalidates (record c.self.inside.iommu { contexts = row }) (ContextDevice c.in-Present.domain c.args.device) None
    c.forget_context.new.self)
    c.clear.ensures (rw (← c.in-Some.ensures.value) c.forget_context.ensures)

does : (c : goal.After-forget_context)
    → Does (the_view c.self.inside) (calls.Detach c.args.device) Done (detached (the_view c.self.inside) c.forget_context.new.self)
does c =
    let at : slice_get c.self.inside.iommu.contexts c.args.device ≡ Some
    (Present c.in-Present.root c.in-Present.width c.in-Present.domain) =
    c.in-Present.ensures in
    detach_does (the_view c.self.inside) c.args.device c.in-Present.root c.in-Present.domain c.in-Present.width c.forget_context.new.self
    (let low = c.in-Some.ensures.some.0 refl in omega (arith, low))
    c.self.invariant.0.devices at (sent c)

pub invariant_of-self-2 : goal.invariant_of-self-2
invariant_of-self-2 c = (
  whole_sends (the_view c.self.inside) (detached (the_view c.self.inside) c.forget_context.new.self)
      (calls.Detach c.args.device) Done
      (ContextDevice c.in-Present.domain c.args.device) (slice_set c.self.inside.iommu.contexts c.args.device Absent) c.self.invariant.0
      (does c) refl (length-set c.self.inside.iommu.contexts c.args.device Absent) (sent c),
  c.self.invariant.1,
)

pub returns : goal.returns
returns c = rw (← c.self.view_is) (does c)

pub forget_context-requires-clause-ready : goal.forget_context-requires-clause-ready
forget_context-requires-clause-ready c = ready_to_send (the_view c.self.inside) _ c.self.invariant.0 (rw (← c.self.view_is) at c.requires)
