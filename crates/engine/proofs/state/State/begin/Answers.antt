use Rattle.std.proofs.Common.{◌+◌, ◌<◌, Some, ap, arith, length, refl, slice_set}
use Rattle.dmatypes.specs.declared.call.Call.TheVariants as calls
use Rattle.dmatypes.specs.declared.limits.TheConstants.{MOST_TICKETS}
use Rattle.dmatypes.specs.declared.reply.Reply.TheVariants as Reply
use Rattle.engine.specs.contracts.state.State.{the_view}
use Rattle.engine.specs.Ending.{Begins}
use Rattle.engine.specs.State.{State}
use Rattle.engine.proofs.domains.OneChanged.{no_id_no_domain}
use Rattle.engine.proofs.domains.Found.{Finds, finds, keeps_found, keeps_rooms, put_back}
use Rattle.engine.proofs.flushes.Steps.{Did}
use Rattle.engine.proofs.caches.ReadyToSend.{waiting_few}
use Rattle.engine.proofs.states.RecordsMade.{domain_in}
use Rattle.engine.proofs.tickets.BeginDoes.{begin_no_domain, begin_too_many, begins_flush}
use Rattle.engine.proofs.state.State.begin.Goals as goal

pub returns-in_default : goal.returns-in_default
returns-in_default c =
    rw (← c.self.view_is) (begin_no_domain _ _ c.args.domain refl
    (no_id_no_domain c.self.inside.domains.items c.args.domain c.self.invariant.0.places
    (λ id. let some = c.in_default.ensures.some.1 id in absurd cc)))

pub returns-in_default-index_mut : goal.returns-in_default-index_mut
returns-in_default-index_mut c =
    let found =
    finds c.self.invariant.0 c.in-Some.ensures.value c.place_of.ensures.place c.place_of.ensures.low c.index_mut.ensures.value
    c.in_default-index_mut.is in
    rw (← c.self.view_is, c.in_default-index_mut.is) (begin_no_domain _ _ c.args.domain (put_back found) found.there)

pub invariant_of-self-in_default-index_mut : goal.invariant_of-self-in_default-index_mut
invariant_of-self-in_default-index_mut c =
    let found =
    finds c.self.invariant.0 c.in-Some.ensures.value c.place_of.ensures.place c.place_of.ensures.low c.index_mut.ensures.value
    c.in_default-index_mut.is in
    rw c.in_default-index_mut.is
    (keeps_found c.self.invariant found (begin_no_domain _ _ c.args.domain (put_back found) found.there))

pub returns-then-len-ge-TICKETS : goal.returns-then-len-ge-TICKETS
returns-then-len-ge-TICKETS c =
    let found =
    finds c.self.invariant.0 c.in-Some.ensures.value c.place_of.ensures.place c.place_of.ensures.low c.index_mut.ensures.value
    c.in-Some-index_mut.is in
    rw (← c.self.view_is) (begin_too_many _ _ c.args.domain c.in-Some-index_mut.domain (put_back found) found.there
    (omega (arith, c.len.ensures.value, c.if-len-ge-TICKETS.true)))

pub invariant_of-self-then-len-ge-TICKETS : goal.invariant_of-self-then-len-ge-TICKETS
invariant_of-self-then-len-ge-TICKETS c =
    let found =
    finds c.self.invariant.0 c.in-Some.ensures.value c.place_of.ensures.place c.place_of.ensures.low c.index_mut.ensures.value
    c.in-Some-index_mut.is in
    keeps_found c.self.invariant found (begin_too_many _ _ c.args.domain c.in-Some-index_mut.domain (put_back found) found.there
    (omega (arith, c.len.ensures.value, c.if-len-ge-TICKETS.true)))

pub begin-number-requires : goal.begin-number-requires
begin-number-requires c =
    let found =
    finds c.self.invariant.0 c.in-Some.ensures.value c.place_of.ensures.place c.place_of.ensures.low c.index_mut.ensures.value
    c.in-Some-index_mut.is in
    let few = c.self.invariant.0.begun c.in-Some-index_mut.domain (domain_in _ c.args.domain c.in-Some-index_mut.domain found.there) in
    let calls = ap (λ (x : State). x.calls) c.self.view_is in
    omega (arith, few, c.self.invariant.0.sent, calls, c.requires)

pub begin-wait-requires-clause-room : goal.begin-wait-requires-clause-room
begin-wait-requires-clause-room c =
    let few = waiting_few (the_view c.self.inside) c.self.invariant.0.tickets in
    omega (arith, few, c.self.invariant.0.tickets.few)

found_by : (c : goal.After-push) → Finds (the_view c.self.inside) c.args.domain c.place_of.result (Some c.in-Some-index_mut.domain)
found_by c =
    finds c.self.invariant.0 c.in-Some.ensures.value c.place_of.ensures.place c.place_of.ensures.low c.index_mut.ensures.value
    c.in-Some-index_mut.is

abbrev after : goal.After-push → State
after c = record {
  pool = c.self.inside.pool;
  domains = slice_set c.self.inside.domains.items c.place_of.result (Some c.begin-number.new.self);
  iommu = c.begin-wait.new.self;
  tickets = c.push.new.self.items;
  calls = c.self.inside.calls + 1;
}

did : (c : goal.After-push) → Did (the_view c.self.inside) (calls.Begin c.args.domain) (Reply.Ticket c.args.domain c.begin-number.result)
    (after c)
did c =
    let found = found_by c in
    let room : length c.self.inside.tickets.items < MOST_TICKETS = omega (arith, c.len.ensures.value, c.if-len-ge-TICKETS.false) in
    let sends : Begins c.self.inside.iommu c.args.domain c.begin-wait.new.self =
    rw (← c.in-Some.ensures.value) c.begin-wait.ensures.begins in
    begins_flush (the_view c.self.inside) c.args.domain c.place_of.result c.begin-number.result c.in-Some.id c.begin-wait.result
    c.in-Some-index_mut.domain c.begin-number.new.self c.begin-wait.new.self c.push.new.self.items c.self.invariant.0 found.less found.id
    found.there room sends c.begin-number.ensures.begins c.begin-number.ensures.number c.in-Some.ensures.value c.begin-wait.ensures.number
    c.push.ensures.items

pub invariant_of-self-2 : goal.invariant_of-self-2
invariant_of-self-2 c = ((did c).whole, keeps_rooms (found_by c) c.begin-number.new.self c.self.invariant.1)

pub returns : goal.returns
returns c = rw (← c.self.view_is) (did c).does
