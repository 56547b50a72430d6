use Rattle.std.proofs.Common.{◌≡◌, ◌+◌, ◌∙◌, Some, ap, length, refl, slice_set}
use Rattle.dmatypes.specs.declared.call.Call.TheVariants as calls
use Rattle.dmatypes.specs.declared.reply.Reply.TheVariants.{Done}
use Rattle.std.proofs.lemmas.List.{length-set}
use Rattle.vtdbits.specs.declared.context.ContextEntry.TheVariants.{Present}
use Rattle.engine.specs.contracts.state.State.{the_view}
use Rattle.engine.specs.State.{State}
use Rattle.engine.specs.Steps.{Does}
use Rattle.engine.proofs.devices.Attached.{attach_no_device, attach_no_domain, attach_busy, attaches}
use Rattle.engine.proofs.domains.OneChanged.{no_id_no_domain}
use Rattle.engine.proofs.domains.Found.{finds}
use Rattle.engine.proofs.states.Refused.{whole_quiet}
use Rattle.engine.proofs.state.State.attach.Goals as goal

pub returns-then-device-ge-DEVICES : goal.returns-then-device-ge-DEVICES
returns-then-device-ge-DEVICES c = rw (← c.self.view_is) (attach_no_device _ _ c.args.device c.args.domain refl c.if-device-ge-DEVICES.true)

pub returns-in_default : goal.returns-in_default
returns-in_default c =
    rw (← c.self.view_is) (attach_no_domain _ _ c.args.device c.args.domain refl c.if-device-ge-DEVICES.false
    (no_id_no_domain c.self.inside.domains.items c.args.domain c.self.invariant.0.places
    (λ id. let some = c.in_default.ensures.some.1 id in absurd cc)))

pub returns-in_default-index : goal.returns-in_default-index
returns-in_default-index c =
    let found =
    finds c.self.invariant.0 c.in-Some.ensures.value c.place_of.ensures.place c.place_of.ensures.low c.index.ensures
    c.in_default-index.is in
    rw (← c.self.view_is) (attach_no_domain _ _ c.args.device c.args.domain refl c.if-device-ge-DEVICES.false found.there)

pub returns-in_default-get : goal.returns-in_default-get
returns-in_default-get c =
    let found =
    finds c.self.invariant.0 c.in-Some.ensures.value c.place_of.ensures.place c.place_of.ensures.low c.index.ensures
    c.in-Some-index.is in
    rw (← c.self.view_is)
    (attach_busy _ _ c.args.device c.args.domain c.in-Some-index.domain c.get.result refl c.if-device-ge-DEVICES.false found.there
    c.get.ensures
    c.in_default-get.not-Absent)

abbrev after : goal.After-set → State
after c = record (the_view c.self.inside) {
  iommu = record c.self.inside.iommu { contexts = c.set.new.self };
  calls = c.self.inside.calls + 1;
}

does : (c : goal.After-set) → Does (the_view c.self.inside) (calls.Attach c.args.device c.args.domain) Done (after c)
does c =
    let found =
    finds c.self.invariant.0 c.in-Some.ensures.value c.place_of.ensures.place c.place_of.ensures.low c.index.ensures
    c.in-Some-index.is in
    let row : c.set.new.self
    ≡ slice_set c.self.inside.iommu.contexts c.args.device (Present c.in-Some-index.domain.root c.in-Some-index.domain.width
    c.args.domain) =
    rw (← c.root.ensures, ← c.width.ensures, ← c.in-Some.ensures.value) c.set.ensures in
    attaches (the_view c.self.inside) (after c) c.args.device c.args.domain c.in-Some-index.domain c.if-device-ge-DEVICES.false
    c.self.invariant.0.devices
    found.there
    (c.get.ensures ∙ ap Some c.in-Absent.is)
    (ap (λ r. record (the_view c.self.inside) { iommu = record c.self.inside.iommu { contexts = r }; calls = c.self.inside.calls + 1 }) row)

pub returns : goal.returns
returns c = rw (← c.self.view_is) (does c)

pub invariant_of-self-2 : goal.invariant_of-self-2
invariant_of-self-2 c = (
  whole_quiet (the_view c.self.inside) (after c) (calls.Attach c.args.device c.args.domain) Done c.self.invariant.0
      (does c) refl
      (ap length c.set.ensures ∙ length-set c.self.inside.iommu.contexts c.args.device
      (Present c.root.result c.width.result c.in-Some.id)) refl refl
      refl,
  c.self.invariant.1,
)
