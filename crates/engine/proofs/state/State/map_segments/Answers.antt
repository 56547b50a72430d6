use Rattle.std.proofs.Common.{Err, ◌*◌, ◌+◌, Some, ap, length, refl, slice_set, subst}
use Rattle.dmatypes.specs.Conditions.{total_pages}
use Rattle.dmatypes.specs.declared.call.Call.TheVariants as calls
use Rattle.dmatypes.specs.declared.page.TheConstants.{PAGE_BYTES}
use Rattle.dmatypes.specs.declared.reply.Reply.TheVariants.{Mapped, Refused}
use Rattle.std.proofs.lemmas.List.{length-set}
use Rattle.std.proofs.lemmas.Result.{err_from_is_err_and}
use Rattle.engine.specs.contracts.state.State.{the_view}
use Rattle.engine.specs.declared.iommu.Iommu.{Iommu}
use Rattle.engine.specs.Ending.{SendsForMap}
use Rattle.engine.specs.Judged.{AreOwned, IsJudged}
use Rattle.engine.specs.State.{State}
use Rattle.engine.specs.Steps.{Does}
use Rattle.engine.proofs.domains.OneChanged.{can_place, no_id_no_domain}
use Rattle.engine.proofs.domains.Found.{Finds, finds, keeps_found, keeps_rooms, put_back}
use Rattle.engine.proofs.maps.Mapped.{map_no_domain, map_judged, map_refused, map_done}
use Rattle.engine.proofs.caches.ReadyToSend.{ready_to_send}
use Rattle.engine.proofs.caches.Sent.{whole_mapped}
use Rattle.engine.proofs.states.Refused.{whole_quiet}
use Rattle.engine.proofs.state.State.map_segments.Goals as goal
use Rattle.engine.proofs.state.State.map_segments.Goals.{In_ok-first}

pub returns-in_default-clause-does : goal.returns-in_default-clause-does
returns-in_default-clause-does c =
    rw (← c.self.view_is) (map_no_domain _ _ c.args.domain c.args.order c.args.rights (record { items = c.args.segments.now }) refl
    (no_id_no_domain c.self.inside.domains.items c.args.domain c.self.invariant.0.places
    (λ id. let some = c.in_default.ensures.some.1 id in absurd cc)))

pub returns-in_default-index_mut-clause-does : goal.returns-in_default-index_mut-clause-does
returns-in_default-index_mut-clause-does c =
    let found =
    finds c.self.invariant.0 c.in-Some.ensures.value c.place_of.ensures.place c.place_of.ensures.low c.index_mut.ensures.value
    c.in_default-index_mut.is in
    rw (← c.self.view_is, c.in_default-index_mut.is) (map_no_domain _ _ c.args.domain c.args.order c.args.rights
    (record { items = c.args.segments.now }) (put_back found) found.there)

pub invariant_of-self-in_default-index_mut : goal.invariant_of-self-in_default-index_mut
invariant_of-self-in_default-index_mut c =
    let found =
    finds c.self.invariant.0 c.in-Some.ensures.value c.place_of.ensures.place c.place_of.ensures.low c.index_mut.ensures.value
    c.in_default-index_mut.is in
    rw c.in_default-index_mut.is (keeps_found c.self.invariant found (map_no_domain _ _ c.args.domain c.args.order c.args.rights
    (record { items = c.args.segments.now }) (put_back found) found.there))

-- ---- a map that is refused for what it asks

pub returns-in_err-wanted-clause-does : goal.returns-in_err-wanted-clause-does
returns-in_err-wanted-clause-does c =
    let found =
    finds c.self.invariant.0 c.in-Some.ensures.value c.place_of.ensures.place c.place_of.ensures.low c.index_mut.ensures.value
    c.in-Some-index_mut.is in
    let p = err_from_is_err_and c.from_residual.result c.from_residual.ensures.1 in
    rw (p.1, p.2, ← c.self.view_is) (map_judged _ _ c.args.domain c.args.order c.args.rights (record { items = c.args.segments.now })
    c.in-Some-index_mut.domain c.in_err-wanted.field-0.0 (put_back found) found.there
    (subst (λ n. IsJudged n c.args.segments.now c.args.order c.args.rights (Err c.in_err-wanted.field-0.0)) c.frames.ensures
    c.in_err-wanted.ensures))

pub invariant_of-self-in_err-wanted : goal.invariant_of-self-in_err-wanted
invariant_of-self-in_err-wanted c =
    let found =
    finds c.self.invariant.0 c.in-Some.ensures.value c.place_of.ensures.place c.place_of.ensures.low c.index_mut.ensures.value
    c.in-Some-index_mut.is in
    keeps_found c.self.invariant found
    (map_judged _ _ c.args.domain c.args.order c.args.rights (record { items = c.args.segments.now }) c.in-Some-index_mut.domain
    c.in_err-wanted.field-0.0 (put_back found) found.there
    (subst (λ n. IsJudged n c.args.segments.now c.args.order c.args.rights (Err c.in_err-wanted.field-0.0)) c.frames.ensures
    c.in_err-wanted.ensures))

pub map-requires-clause-can : goal.map-requires-clause-can
map-requires-clause-can c =
    let found =
    finds c.self.invariant.0 c.in-Some.ensures.value c.place_of.ensures.place c.place_of.ensures.low c.index_mut.ensures.value
    c.in-Some-index_mut.is in
    can_place _ c.args.domain c.in-Some-index_mut.domain c.self.invariant.0.of_world c.self.invariant.0.places found.there

pub map-requires-clause-ready : goal.map-requires-clause-ready
map-requires-clause-ready c =
    ready_to_send (the_view c.self.inside) c.self.inside.iommu.contexts c.self.invariant.0 (rw (← c.self.view_is) at c.requires.counts)

-- ---- a map that is refused for its place

found_full : (c : goal.After-from_residual-in_err-first)
    → Finds (the_view c.self.inside) c.args.domain c.place_of.result (Some c.in-Some-index_mut.domain)
found_full c =
    finds c.self.invariant.0 c.in-Some.ensures.value c.place_of.ensures.place c.place_of.ensures.low c.index_mut.ensures.value
    c.in-Some-index_mut.is

abbrev refused : goal.After-from_residual-in_err-first → State
refused c = record (the_view c.self.inside) {
  pool = c.map.new.pool;
  domains = slice_set c.self.inside.domains.items c.place_of.result (Some c.map.new.self);
  iommu = c.map.new.iommu;
  calls = c.self.inside.calls + 1;
}

refuses : (c : goal.After-from_residual-in_err-first)
    → Does (the_view c.self.inside) (calls.MapList c.args.domain c.args.order c.args.rights (record { items = c.args.segments.now }))
    (Refused c.in_err-first.field-0.0) (refused c)
refuses c =
    map_refused (the_view c.self.inside) (refused c) c.args.domain c.args.order c.args.rights c.place_of.result
    (record { items = c.args.segments.now }) c.in-Some-index_mut.domain c.map.new.self c.map.new.pool
    c.map.new.iommu c.in_ok-wanted.wanted c.in_err-first.field-0.0 (found_full c).at (found_full c).there c.in_ok-wanted.ensures.0
    (subst (λ n. AreOwned n c.args.segments.now → ⊥) c.frames.ensures c.in_ok-wanted.ensures.1) c.in_ok-wanted.ensures.2
    c.in_err-first.ensures.refused c.in_err-first.ensures.pool c.in_err-first.ensures.domain c.in_err-first.ensures.quiet refl

pub returns-in_err-first-clause-does : goal.returns-in_err-first-clause-does
returns-in_err-first-clause-does c =
    let p = err_from_is_err_and c.from_residual-in_err-first.result c.from_residual-in_err-first.ensures.1 in
    rw (p.1, p.2, ← c.self.view_is) (refuses c)

pub invariant_of-self-in_err-first : goal.invariant_of-self-in_err-first
invariant_of-self-in_err-first c = (
  whole_quiet (the_view c.self.inside) (refused c)
      (calls.MapList c.args.domain c.args.order c.args.rights (record { items = c.args.segments.now })) (Refused c.in_err-first.field-0.0)
      c.self.invariant.0 (refuses c)
      (length-set c.self.inside.domains.items c.place_of.result (Some c.map.new.self))
      (ap (λ (x : Iommu). length x.contexts) c.in_err-first.ensures.quiet) (ap (λ (x : Iommu). x.ring) c.in_err-first.ensures.quiet)
      (ap (λ (x : Iommu). x.sent) c.in_err-first.ensures.quiet) (ap (λ (x : Iommu). x.unit.steps) c.in_err-first.ensures.quiet),
  keeps_rooms (found_full c) c.map.new.self c.self.invariant.1,
)

-- ---- a map

found_by : (c : In_ok-first) → Finds (the_view c.self.inside) c.args.domain c.place_of.result (Some c.in-Some-index_mut.domain)
found_by c =
    finds c.self.invariant.0 c.in-Some.ensures.value c.place_of.ensures.place c.place_of.ensures.low c.index_mut.ensures.value
    c.in-Some-index_mut.is

abbrev after : In_ok-first → State
after c = record (the_view c.self.inside) {
  pool = c.map.new.pool;
  domains = slice_set c.self.inside.domains.items c.place_of.result (Some c.map.new.self);
  iommu = c.map.new.iommu;
  calls = c.self.inside.calls + 1;
}

sends : (c : In_ok-first)
    → SendsForMap c.self.inside.iommu.unit.caching c.self.inside.iommu c.args.domain c.in-Some-index_mut.domain.root
    (record { first = c.in_ok-first.first; pages = total_pages c.args.segments.now }) c.map.new.iommu
sends c = rw (← c.in-Some.ensures.value) c.in_ok-first.ensures.sends

does : (c : In_ok-first)
    → Does (the_view c.self.inside) (calls.MapList c.args.domain c.args.order c.args.rights (record { items = c.args.segments.now }))
    (Mapped (PAGE_BYTES * c.in_ok-first.first)) (after c)
does c =
    let found = found_by c in
    map_done (the_view c.self.inside) (after c) c.args.domain c.args.order c.args.rights c.place_of.result c.in_ok-first.first
    (record { items = c.args.segments.now }) c.in-Some-index_mut.domain c.map.new.self
    c.map.new.pool c.map.new.iommu c.in_ok-wanted.wanted c.self.invariant.0.places found.less found.id found.there c.in_ok-wanted.ensures.0
    (subst (λ n. AreOwned n c.args.segments.now → ⊥) c.frames.ensures c.in_ok-wanted.ensures.1) c.in_ok-wanted.ensures.2
    c.in_ok-first.ensures.placed (sends c) refl

pub returns-clause-does : goal.returns-clause-does
returns-clause-does c = rw (← c.self.view_is) (does c)

pub invariant_of-self-2 : goal.invariant_of-self-2
invariant_of-self-2 c = (
  whole_mapped (the_view c.self.inside) (after c)
      (calls.MapList c.args.domain c.args.order c.args.rights (record { items = c.args.segments.now }))
      (Mapped (PAGE_BYTES * c.in_ok-first.first)) c.args.domain c.in-Some-index_mut.domain.root
      (record { first = c.in_ok-first.first; pages = total_pages c.args.segments.now }) c.self.inside.iommu.unit.caching
      c.self.invariant.0 (does c) (length-set c.self.inside.domains.items c.place_of.result (Some c.map.new.self)) (sends c),
  keeps_rooms (found_by c) c.map.new.self c.self.invariant.1,
)
