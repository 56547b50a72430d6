use Rattle.std.proofs.Common.{◌≡◌, ◌∙◌, ◌+◌, ◌<◌, ◌≤◌, List, Some, filter, not, refl, rules, slice_set, subst, sym}
use Rattle.std.proofs.lemmas.Option.{none-some}
use Rattle.arrayvec.proofs.ArrayVecLemmas.{filter-from_retain}
use Rattle.dmatypes.specs.World.{IsIn}
use Rattle.dmatypes.specs.declared.call.Call.TheVariants as calls
use Rattle.dmatypes.specs.declared.reply.Reply.TheVariants.{Reaped}
use Rattle.engine.specs.contracts.state.State.{the_view}
use Rattle.engine.specs.declared.ticket.Ticket.{Ticket}
use Rattle.engine.specs.Ready.{last_done}
use Rattle.engine.specs.State.{State, is_ticket}
use Rattle.engine.proofs.domains.Found.{Finds, finds, keeps_rooms}
use Rattle.engine.proofs.flushes.MayRelease.{can_unmap}
use Rattle.engine.proofs.flushes.ReapSteps.{reap_did, reap_pending, reap_refused}
use Rattle.engine.proofs.flushes.Steps.{Did}
use Rattle.engine.proofs.state.State.reap.Goals as goal

pub returns-in_default : goal.returns-in_default
returns-in_default c =
    rw (← c.self.view_is) (reap_refused (the_view c.self.inside) _ c.args.domain c.args.number refl
    (rw c.as_slice.ensures.value at c.in_default.ensures.none))

pub returns-then-last_done-ticket : goal.returns-then-last_done-ticket
returns-then-last_done-ticket c =
    let found = c.in-Some.ensures.some in
    let inside : IsIn c.in-Some.ticket c.self.inside.tickets.items = rw (← c.as_slice.ensures.value) found.0 in
    let ahead : last_done c.self.inside.iommu < c.in-Some.ticket.wait = rw c.last_done.ensures at c.if-last_done-ticket.true in
    rw (← c.self.view_is, ← found.1, ← found.2) (reap_pending (the_view c.self.inside) _ c.in-Some.ticket refl inside ahead)

pub unreachable-requires : goal.unreachable-requires
unreachable-requires c =
    let inside : IsIn c.in-Some.ticket c.self.inside.tickets.items = rw (← c.as_slice.ensures.value) c.in-Some.ensures.some.0 in
    let begun = c.self.invariant.0.tickets.begun c.in-Some.ticket inside in
    let found =
    finds c.self.invariant.0 refl c.place_of.ensures.place c.place_of.ensures.low c.index_mut.ensures.value
    c.in_default-index_mut.is in
    none-some begun.0 (sym found.there ∙ begun.1)

pub reap-released-requires-clause-can : goal.reap-released-requires-clause-can
reap-released-requires-clause-can c =
    let found =
    finds c.self.invariant.0 refl c.place_of.ensures.place c.place_of.ensures.low c.index_mut.ensures.value
    c.in-Some-index_mut.is in
    can_unmap _ c.in-Some.ticket.domain c.in-Some-index_mut.domain c.self.invariant.0.of_world c.self.invariant.0.places found.there

found_by : (c : goal.After-retain) → Finds (the_view c.self.inside) c.in-Some.ticket.domain c.place_of.result
    (Some c.in-Some-index_mut.domain)
found_by c =
    finds c.self.invariant.0 refl c.place_of.ensures.place c.place_of.ensures.low c.index_mut.ensures.value
    c.in-Some-index_mut.is

-- the tickets that are left
left : (c : goal.After-retain) → c.retain.new.self.items
    ≡ filter (λ x. not (is_ticket c.in-Some.ticket.domain c.in-Some.ticket.number x)) c.self.inside.tickets.items
left c =
    filter-from_retain _ (λ x. not (is_ticket c.in-Some.ticket.domain c.in-Some.ticket.number x)) _ (λ x b f' y k. search rules) _ _
    c.retain.ensures.filtered

abbrev after : (c : goal.After-retain) → List Ticket → State
after c tickets = record {
  pool = c.reap-released.new.pool;
  domains = slice_set c.self.inside.domains.items c.place_of.result (Some c.reap-released.new.self);
  iommu = c.self.inside.iommu;
  tickets = tickets;
  calls = c.self.inside.calls + 1;
}

did : (c : goal.After-retain) → Did (the_view c.self.inside) (calls.Reap c.in-Some.ticket.domain c.in-Some.ticket.number)
    (Reaped c.reap-released.result) (after c c.retain.new.self.items)
did c =
    let found = found_by c in
    let inside : IsIn c.in-Some.ticket c.self.inside.tickets.items = rw (← c.as_slice.ensures.value) c.in-Some.ensures.some.0 in
    let past : c.in-Some.ticket.wait ≤ last_done c.self.inside.iommu = rw c.last_done.ensures at c.if-last_done-ticket.false in
    subst (λ ts. Did (the_view c.self.inside) (calls.Reap c.in-Some.ticket.domain c.in-Some.ticket.number) (Reaped c.reap-released.result)
    (after c ts)) (sym (left c))
    (reap_did (the_view c.self.inside) c.in-Some.ticket c.place_of.result c.in-Some-index_mut.domain c.reap-released.new.self
    c.reap-released.new.pool c.reap-released.result c.self.invariant.0 inside past found.less found.id found.there
    c.reap-released.ensures.reaps c.reap-released.ensures.count)

pub invariant_of-self-2 : goal.invariant_of-self-2
invariant_of-self-2 c = ((did c).whole, keeps_rooms (found_by c) c.reap-released.new.self c.self.invariant.1)

pub returns : goal.returns
returns c =
    let asked = c.in-Some.ensures.some in rw (← c.self.view_is, ← asked.1, ← asked.2) (did c).does
