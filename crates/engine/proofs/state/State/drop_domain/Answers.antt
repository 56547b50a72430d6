use Rattle.std.proofs.Common.{◌∙◌, ℕ, ◌≡◌, List, [], ◌∷◌, None, Some, ap, arith, inl, inr, map, refl, slice_get, sym}
use Rattle.dmatypes.specs.declared.call.Call.TheVariants as calls
use Rattle.dmatypes.specs.declared.reply.Reply.TheVariants.{Done}
use Rattle.dmatypes.specs.Conditions.{SomeHas}
use Rattle.dmatypes.specs.World.{IsIn}
use Rattle.engine.specs.declared.ticket.Ticket.{Ticket}
use Rattle.engine.specs.contracts.state.State.{the_view}
use Rattle.engine.specs.Ending.{Closes}
use Rattle.engine.specs.State.{operands_in}
use Rattle.engine.specs.Domains.{domain_at}
use Rattle.engine.specs.Quarantine.{ticket_there}
use Rattle.vtdbits.specs.Context.{attached}
use Rattle.engine.proofs.domains.OneChanged.{count_set, no_id_no_domain}
use Rattle.engine.proofs.domains.Found.{Finds, finds, keeps_found, put_back}
use Rattle.engine.proofs.flushes.Steps.{Did, drop_attached, drop_did, drop_no_domain, drop_open}
use Rattle.engine.proofs.flushes.MayRelease.{can_unmap}
use Rattle.engine.proofs.caches.Sent.{changed}
use Rattle.engine.proofs.states.RecordsMade.{domain_in}
use Rattle.engine.proofs.caches.ReadyToSend.{ready_to_send}
use Rattle.engine.proofs.state.State.drop_domain.Goals as goal

pub returns-in_default : goal.returns-in_default
returns-in_default c =
    rw (← c.self.view_is) (drop_no_domain _ _ c.args.domain refl
    (no_id_no_domain c.self.inside.domains.items c.args.domain c.self.invariant.0.places
    (λ id. let some = c.in_default.ensures.some.1 id in absurd cc)))

pub returns-then-is_attached : goal.returns-then-is_attached
returns-then-is_attached c =
    rw (← c.self.view_is) (drop_attached _ _ c.args.domain c.self.invariant.0.of_world refl
    (rw (← c.in-Some.ensures.value) (c.if-is_attached.ensures.some refl)))

pub returns-in_default-take : goal.returns-in_default-take
returns-in_default-take c =
    let found =
    finds c.self.invariant.0 c.in-Some.ensures.value c.place_of.ensures.place c.place_of.ensures.low c.index_mut.ensures.value
    (sym c.in_default-take.ensures.value) in
    rw (← c.self.view_is, c.take.ensures.after) (drop_no_domain _ _ c.args.domain (put_back found) found.there)

pub invariant_of-self-in_default-take : goal.invariant_of-self-in_default-take
invariant_of-self-in_default-take c =
    let found =
    finds c.self.invariant.0 c.in-Some.ensures.value c.place_of.ensures.place c.place_of.ensures.low c.index_mut.ensures.value
    (sym c.in_default-take.ensures.value) in
    rw c.take.ensures.after
    (keeps_found c.self.invariant found (drop_no_domain _ _ c.args.domain (put_back found) found.there))

pub close-room-requires-clause-can : goal.close-room-requires-clause-can
close-room-requires-clause-can c =
    let found =
    finds c.self.invariant.0 c.in-Some.ensures.value c.place_of.ensures.place c.place_of.ensures.low c.index_mut.ensures.value
    (sym c.in-Some-take.ensures.value) in
    can_unmap _ c.args.domain c.in-Some-take.domain c.self.invariant.0.of_world c.self.invariant.0.places found.there

pub close-room-requires-clause-made : goal.close-room-requires-clause-made
close-room-requires-clause-made c =
    let found =
    finds c.self.invariant.0 c.in-Some.ensures.value c.place_of.ensures.place c.place_of.ensures.low c.index_mut.ensures.value
    (sym c.in-Some-take.ensures.value) in
    c.self.invariant.0.made c.in-Some-take.domain (domain_in _ c.args.domain c.in-Some-take.domain found.there)

found_by : (c : goal.After-push_reserved) → Finds (the_view c.self.inside) c.args.domain c.place_of.result (Some c.in-Some-take.domain)
found_by c =
    finds c.self.invariant.0 c.in-Some.ensures.value c.place_of.ensures.place c.place_of.ensures.low c.index_mut.ensures.value
    (sym c.in-Some-take.ensures.value)

did : (c : goal.After-push_reserved) → Did (the_view c.self.inside) (calls.Drop c.args.domain) Done
    (changed (the_view c.self.inside) c.place_of.result c.close-room.new.pool None c.close-room.new.iommu)
did c =
    let found = found_by c in
    let nobody : (v : ℕ) → attached (slice_get c.self.inside.iommu.contexts v) ≡ Some c.args.domain → ⊥ =
    rw (← c.in-Some.ensures.value) (c.if-is_attached.ensures.none refl) in
    let closes : Closes (operands_in (the_view c.self.inside) c.in-Some-take.domain) c.args.domain c.close-room.new.pool
    c.close-room.new.iommu =
    rw (← c.in-Some.ensures.value) c.close-room.ensures in
    let untold : (x : Ticket) → IsIn x c.self.inside.tickets.items → x.domain ≡ c.args.domain → ⊥ =
    (λ x inside same. c.if-has_ticket.ensures.none refl x (rw c.as_slice.ensures.value inside) (same ∙ sym c.in-Some.ensures.value)) in
    drop_did (the_view c.self.inside) c.args.domain c.place_of.result c.in-Some-take.domain c.close-room.new.pool
    c.close-room.new.iommu c.self.invariant.0 found.less found.id found.there nobody untold closes

pub push_reserved-requires : goal.push_reserved-requires
push_reserved-requires c =
    let found =
    finds c.self.invariant.0 c.in-Some.ensures.value c.place_of.ensures.place c.place_of.ensures.low c.index_mut.ensures.value
    (sym c.in-Some-take.ensures.value) in
    let fewer = count_set c.self.inside.domains.items c.place_of.result (Some c.in-Some-take.domain) None found.at in
    omega (arith, fewer, c.self.invariant.1.count, c.self.invariant.1.roomy)

pub invariant_of-self-2 : goal.invariant_of-self-2
invariant_of-self-2 c =
    let fewer = count_set c.self.inside.domains.items c.place_of.result (Some c.in-Some-take.domain) None (found_by c).at in
    rw c.take.ensures.after (
      (did c).whole,
      record {
        count = omega (arith, fewer, c.self.invariant.1.count, c.push_reserved.ensures.len);
        roomy = omega (arith, c.self.invariant.1.roomy, c.push_reserved.ensures.capacity);
      },
    )

pub returns : goal.returns
returns c = rw (← c.self.view_is, c.take.ensures.after) (did c).does

pub close-room-requires-clause-ready : goal.close-room-requires-clause-ready
close-room-requires-clause-ready c =
    ready_to_send (the_view c.self.inside) c.self.inside.iommu.contexts c.self.invariant.0 (rw (← c.self.view_is) at c.requires)

told_of : (x : Ticket) (d : ℕ) (ts : List Ticket) → IsIn x ts → x.domain ≡ d → SomeHas (λ t. t.domain ≡ d) (map ticket_there ts)
told_of x d [] inside same = absurd inside
told_of x d (y ∷ ts) (inl is) same = inl (sym (ap (λ (z : Ticket). z.domain) is) ∙ same)
told_of x d (y ∷ ts) (inr rest) same = inr (told_of x d ts rest same)

pub returns-then-has_ticket : goal.returns-then-has_ticket
returns-then-has_ticket c =
    let told = c.if-has_ticket.ensures.some refl in
    let inside : IsIn told.0 c.self.inside.tickets.items = rw (← c.as_slice.ensures.value) told.1 in
    let same : told.0.domain ≡ c.args.domain = told.2 ∙ c.in-Some.ensures.value in
    let begun = c.self.invariant.0.tickets.begun told.0 inside in
    rw (← c.self.view_is) (drop_open _ _ c.args.domain begun.0 refl (ap (domain_at c.self.inside.domains.items) (sym same) ∙ begun.1)
    (told_of told.0 c.args.domain c.self.inside.tickets.items inside same))
