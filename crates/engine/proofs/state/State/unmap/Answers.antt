use Rattle.std.proofs.Common.{◌≡◌, Some, Result, Ok, Err, IfOk, ap, subst, refl, sym}
use Rattle.dmatypes.specs.Conditions.{IsBadUnmap}
use Rattle.dmatypes.specs.Page.{Fits, Range, range_at}
use Rattle.dmatypes.specs.declared.call.Mode.{Mode}
use Rattle.dmatypes.specs.declared.refusal.Refusal.{Refusal}
use Rattle.engine.specs.contracts.state.State.{the_view}
use Rattle.engine.specs.declared.answer.Unmapped.{Unmapped}
use Rattle.engine.specs.Details.{mode_by}
use Rattle.engine.specs.Domains.{operands_of}
use Rattle.engine.specs.Ending.{IsUnmapped}
use Rattle.engine.specs.State.{State, operands_in}
use Rattle.engine.proofs.domains.OneChanged.{no_id_no_domain}
use Rattle.engine.proofs.domains.Found.{Finds, finds, keeps_found, keeps_rooms, put_back}
use Rattle.engine.proofs.flushes.MayRelease.{can_unmap}
use Rattle.engine.proofs.caches.Sent.{changed}
use Rattle.engine.proofs.states.RecordsMade.{domain_in}
use Rattle.engine.proofs.unmaps.ByPlace.{AnswersUnmap, unmap_answered, unmap_bad_range, unmap_no_domain}
use Rattle.engine.proofs.caches.ReadyToSend.{ready_to_send}
use Rattle.engine.proofs.state.State.unmap.Goals as goal

pub returns-in_default-clause-does : goal.returns-in_default-clause-does
returns-in_default-clause-does c =
    rw (← c.self.view_is) (unmap_no_domain _ _ c.args.domain c.args.address c.args.pages refl
    (no_id_no_domain c.self.inside.domains.items c.args.domain c.self.invariant.0.places
    (λ id. let some = c.in_default.ensures.some.1 id in absurd cc)))

pub returns-in_default-index_mut-clause-does : goal.returns-in_default-index_mut-clause-does
returns-in_default-index_mut-clause-does c =
    let found =
    finds c.self.invariant.0 c.in-Some.ensures.value c.place_of.ensures.place c.place_of.ensures.low c.index_mut.ensures.value
    c.in_default-index_mut.is in
    rw (← c.self.view_is, c.in_default-index_mut.is)
    (unmap_no_domain _ _ c.args.domain c.args.address c.args.pages (put_back found) found.there)

pub invariant_of-self-in_default-index_mut : goal.invariant_of-self-in_default-index_mut
invariant_of-self-in_default-index_mut c =
    let found =
    finds c.self.invariant.0 c.in-Some.ensures.value c.place_of.ensures.place c.place_of.ensures.low c.index_mut.ensures.value
    c.in_default-index_mut.is in
    rw c.in_default-index_mut.is (keeps_found c.self.invariant found
    (unmap_no_domain _ _ c.args.domain c.args.address c.args.pages (put_back found) found.there))

pub returns-in_default-range_at-clause-does : goal.returns-in_default-range_at-clause-does
returns-in_default-range_at-clause-does c =
    let found =
    finds c.self.invariant.0 c.in-Some.ensures.value c.place_of.ensures.place c.place_of.ensures.low c.index_mut.ensures.value
    c.in-Some-index_mut.is in
    rw (← c.self.view_is) (unmap_bad_range _ _ c.args.domain c.args.address c.args.pages c.in-Some-index_mut.domain (put_back found)
    found.there (subst (λ n. IsBadUnmap n c.args.address c.args.pages) c.width.ensures c.in_default-range_at.ensures.none))

pub invariant_of-self-in_default-range_at : goal.invariant_of-self-in_default-range_at
invariant_of-self-in_default-range_at c =
    let found =
    finds c.self.invariant.0 c.in-Some.ensures.value c.place_of.ensures.place c.place_of.ensures.low c.index_mut.ensures.value
    c.in-Some-index_mut.is in
    keeps_found c.self.invariant found (unmap_bad_range _ _ c.args.domain c.args.address c.args.pages c.in-Some-index_mut.domain
    (put_back found) found.there (subst (λ n. IsBadUnmap n c.args.address c.args.pages) c.width.ensures c.in_default-range_at.ensures.none))

pub unmap-requires-clause-can : goal.unmap-requires-clause-can
unmap-requires-clause-can c =
    let found =
    finds c.self.invariant.0 c.in-Some.ensures.value c.place_of.ensures.place c.place_of.ensures.low c.index_mut.ensures.value
    c.in-Some-index_mut.is in
    can_unmap _ c.args.domain c.in-Some-index_mut.domain c.self.invariant.0.of_world c.self.invariant.0.places found.there

pub unmap-requires-clause-made : goal.unmap-requires-clause-made
unmap-requires-clause-made c =
    let found =
    finds c.self.invariant.0 c.in-Some.ensures.value c.place_of.ensures.place c.place_of.ensures.low c.index_mut.ensures.value
    c.in-Some-index_mut.is in
    c.self.invariant.0.made c.in-Some-index_mut.domain (domain_in _ c.args.domain c.in-Some-index_mut.domain found.there)

-- ---- the domain answers

of_mode : (mode : Mode) (result : Result Unmapped Refusal) → IfOk result (λ unmapped. mode_by unmapped ≡ mode)
    → IfOk result (λ unmapped. Some mode ≡ Some (mode_by unmapped))
of_mode mode (Ok unmapped) is = ap Some (sym is)
of_mode mode (Err refusal) is = tt

found_by : (c : goal.After-self-2-1) → Finds (the_view c.self.inside) c.args.domain c.place_of.result (Some c.in-Some-index_mut.domain)
found_by c =
    finds c.self.invariant.0 c.in-Some.ensures.value c.place_of.ensures.place c.place_of.ensures.low c.index_mut.ensures.value
    c.in-Some-index_mut.is

abbrev after : goal.After-self-2-1 → State
after c = changed (the_view c.self.inside) c.place_of.result c.unmap.new.pool (Some c.unmap.new.self) c.unmap.new.iommu

answered : (c : goal.After-self-2-1)
    → AnswersUnmap (the_view c.self.inside) c.args.domain c.args.address c.args.pages c.unmap.result (after c)
answered c =
    let found = found_by c in
    let range = c.in-Some-range_at.ensures.some in
    let ended : IsUnmapped (operands_in (the_view c.self.inside) c.in-Some-index_mut.domain) c.args.domain
    (range_at c.args.address c.args.pages) c.unmap.result (operands_of c.unmap.new.pool c.unmap.new.self c.unmap.new.iommu) =
    rw (← c.in-Some.ensures.value, ← range.1) c.unmap.ensures.unmapped in
    unmap_answered (the_view c.self.inside) c.args.domain c.args.address c.args.pages c.place_of.result
    c.in-Some-index_mut.domain c.unmap.new.self c.unmap.new.pool c.unmap.new.iommu c.unmap.result c.self.invariant.0 found.less found.id
    found.at found.there range.0 (range.2, subst (Fits (range_at c.args.address c.args.pages)) c.width.ensures range.3) ended

pub invariant_of-self-2 : goal.invariant_of-self-2
invariant_of-self-2 c = ((answered c).whole, keeps_rooms (found_by c) c.unmap.new.self c.self.invariant.1)

pub returns-clause-does : goal.returns-clause-does
returns-clause-does c = rw (← c.self.view_is) (answered c).does

pub returns-clause-mode : goal.returns-clause-mode
returns-clause-mode c =
    rw (← c.self.view_is, (found_by c).there)
    (of_mode c.in-Some-index_mut.domain.mode c.unmap.result c.unmap.ensures.mode)

pub unmap-requires-clause-ready : goal.unmap-requires-clause-ready
unmap-requires-clause-ready c =
    ready_to_send (the_view c.self.inside) c.self.inside.iommu.contexts c.self.invariant.0 (rw (← c.self.view_is) at c.requires)

pub unmap-requires-clause-fits : goal.unmap-requires-clause-fits
unmap-requires-clause-fits c =
    let range = c.in-Some-range_at.ensures.some in
    subst (λ (r : Range). Fits r c.in-Some-index_mut.domain.width) (sym range.1)
    (subst (Fits (range_at c.args.address c.args.pages)) c.width.ensures range.3)
