use Rattle.std.proofs.Common.{Some, refl}
use Rattle.dmatypes.specs.declared.call.Call.TheVariants as calls
use Rattle.dmatypes.specs.declared.reply.Reply.TheVariants.{Flushed}
use Rattle.engine.specs.contracts.state.State.{the_view}
use Rattle.engine.specs.Domains.{operands_of}
use Rattle.engine.specs.Ending.{Flushes}
use Rattle.engine.specs.State.{operands_in}
use Rattle.engine.proofs.domains.OneChanged.{no_id_no_domain}
use Rattle.engine.proofs.domains.Found.{Finds, finds, keeps_found, keeps_rooms, put_back}
use Rattle.engine.proofs.flushes.Steps.{Did, flush_did, flush_no_domain}
use Rattle.engine.proofs.flushes.MayRelease.{can_unmap}
use Rattle.engine.proofs.caches.Sent.{changed}
use Rattle.engine.proofs.states.RecordsMade.{domain_in}
use Rattle.engine.proofs.caches.ReadyToSend.{ready_to_send}
use Rattle.engine.proofs.state.State.flush.Goals as goal

pub returns-in_default : goal.returns-in_default
returns-in_default c =
    rw (← c.self.view_is) (flush_no_domain _ _ c.args.domain refl
    (no_id_no_domain c.self.inside.domains.items c.args.domain c.self.invariant.0.places
    (λ id. let some = c.in_default.ensures.some.1 id in absurd cc)))

pub returns-in_default-index_mut : goal.returns-in_default-index_mut
returns-in_default-index_mut c =
    let found =
    finds c.self.invariant.0 c.in-Some.ensures.value c.place_of.ensures.place c.place_of.ensures.low c.index_mut.ensures.value
    c.in_default-index_mut.is in
    rw (← c.self.view_is, c.in_default-index_mut.is) (flush_no_domain _ _ c.args.domain (put_back found) found.there)

pub invariant_of-self-in_default-index_mut : goal.invariant_of-self-in_default-index_mut
invariant_of-self-in_default-index_mut c =
    let found =
    finds c.self.invariant.0 c.in-Some.ensures.value c.place_of.ensures.place c.place_of.ensures.low c.index_mut.ensures.value
    c.in_default-index_mut.is in
    rw c.in_default-index_mut.is
    (keeps_found c.self.invariant found (flush_no_domain _ _ c.args.domain (put_back found) found.there))

pub flush-requires-clause-can : goal.flush-requires-clause-can
flush-requires-clause-can c =
    let found =
    finds c.self.invariant.0 c.in-Some.ensures.value c.place_of.ensures.place c.place_of.ensures.low c.index_mut.ensures.value
    c.in-Some-index_mut.is in
    can_unmap _ c.args.domain c.in-Some-index_mut.domain c.self.invariant.0.of_world c.self.invariant.0.places found.there

pub flush-requires-clause-made : goal.flush-requires-clause-made
flush-requires-clause-made c =
    let found =
    finds c.self.invariant.0 c.in-Some.ensures.value c.place_of.ensures.place c.place_of.ensures.low c.index_mut.ensures.value
    c.in-Some-index_mut.is in
    c.self.invariant.0.made c.in-Some-index_mut.domain (domain_in _ c.args.domain c.in-Some-index_mut.domain found.there)

found_by : (c : goal.After-self-2-1) → Finds (the_view c.self.inside) c.args.domain c.place_of.result (Some c.in-Some-index_mut.domain)
found_by c =
    finds c.self.invariant.0 c.in-Some.ensures.value c.place_of.ensures.place c.place_of.ensures.low c.index_mut.ensures.value
    c.in-Some-index_mut.is

did : (c : goal.After-self-2-1) → Did (the_view c.self.inside) (calls.Flush c.args.domain) (Flushed c.flush.result)
    (changed (the_view c.self.inside) c.place_of.result c.flush.new.pool (Some c.flush.new.self) c.flush.new.iommu)
did c =
    let found = found_by c in
    let flushes : Flushes (operands_in (the_view c.self.inside) c.in-Some-index_mut.domain) c.args.domain
    (operands_of c.flush.new.pool c.flush.new.self c.flush.new.iommu) =
    rw (← c.in-Some.ensures.value) c.flush.ensures.flushes in
    flush_did (the_view c.self.inside) c.args.domain c.place_of.result c.in-Some-index_mut.domain c.flush.new.pool
    c.flush.new.iommu c.self.invariant.0 found.less found.id found.there c.flush.new.self c.flush.result c.flush.ensures.count flushes

pub invariant_of-self-2 : goal.invariant_of-self-2
invariant_of-self-2 c = ((did c).whole, keeps_rooms (found_by c) c.flush.new.self c.self.invariant.1)

pub returns : goal.returns
returns c = rw (← c.self.view_is) (did c).does

pub flush-requires-clause-ready : goal.flush-requires-clause-ready
flush-requires-clause-ready c =
    ready_to_send (the_view c.self.inside) c.self.inside.iommu.contexts c.self.invariant.0 (rw (← c.self.view_is) at c.requires)
