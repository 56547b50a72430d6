-- A drop, a detach, and a map in Caching Mode: what their descriptors leave.
use Rattle.std.proofs.Common.{◌≡◌, inl, inr, ℕ, ◌/◌, ◌<◌, true, false, List, [], Some, None, refl, sym, ap, subst}
use Rattle.std.proofs.Common.{◌∙◌, arith, length, slice_get, slice_set}
use Rattle.std.proofs.lemmas.Bool.Decides.{nat_tests}
use Rattle.std.proofs.lemmas.List.Sums.{sum_by-cons}
use Rattle.std.proofs.lemmas.Option.{none-some, same_Some, slice_get_cases}
use Rattle.arrayvec.specs.ArrayVec.{ArrayVec}
use Rattle.dmatypes.specs.Block.{IsInBlock}
use Rattle.dmatypes.specs.Conditions.{SomeIsAttached, Stands, total_pages}
use Rattle.dmatypes.specs.Page.{IsWithin, Range}
use Rattle.dmatypes.specs.Step.{IsStep}
use Rattle.dmatypes.specs.World.{World}
use Rattle.dmatypes.specs.declared.call.Call.TheVariants as calls
use Rattle.dmatypes.specs.declared.call.Segment.{Segment}
use Rattle.dmatypes.specs.declared.page.TheConstants.{PAGE_BYTES}
use Rattle.dmatypes.specs.declared.reply.Reply.TheVariants.{Done, Mapped}
use Rattle.dmatypes.specs.declared.width.Width.{Width}
use Rattle.vtdbits.specs.Context.{attached}
use Rattle.vtdbits.specs.declared.context.ContextEntry.{ContextEntry}
use Rattle.vtdbits.specs.declared.context.ContextEntry.TheVariants.{Absent, Present}
use Rattle.vtdbits.specs.declared.descriptor.Descriptor.{Descriptor}
use Rattle.vtdbits.specs.declared.descriptor.Descriptor.TheVariants.{ContextDevice, IotlbDomain, IotlbPages}
use Rattle.tables.specs.Segments.{one_segment}
use Rattle.unit.specs.Caches.{CachedContext, CachedFault}
use Rattle.unit.specs.Filters.{drops_context, drops_fault}
use Rattle.engine.proofs.lists.Places.{get_set}
use Rattle.engine.specs.declared.iommu.Iommu.{Iommu}
use Rattle.engine.specs.Domains.{Domain, domain_at}
use Rattle.engine.specs.Ending.{Closes, Invalidates, IsSentForMap, SendsForMap, domain_shown}
use Rattle.engine.specs.Placing.{Placement, range_of}
use Rattle.engine.specs.State.{Becomes, BecomesMapped, State, operands_in}
use Rattle.moments.specs.Moments.{IsOldOrAbsent}
use Rattle.moments.proofs.Walks.{destroys_old_or_absent}
use Rattle.quiet.specs.Laws.{DetachesForget, DropsAreOldOrAbsent, DropsForget, MapsForgetFaults, MapsOfOneForgetFaults}
use Rattle.quiet.specs.Quiet.{IsDoneLast, IsOfRow}
use Rattle.quiet.proofs.Lazily.{no_table_left, none_left}
use Rattle.quiet.proofs.Sent.{sent_last}

-- ---- a drop

abbrev Closed : State → State → ℕ → Type 0
Closed m t d = (old : Domain) × Closes (operands_in m old) d t.pool t.iommu

closes : (m t : State) (d : ℕ) → Becomes m (calls.Drop d) Done t → Closed m t d
unfolding Becomes
closes m t d (old, here, does, is) = (old, does)

nobody : (w : World) (d : ℕ) → IsStep w (calls.Drop d) Done → SomeIsAttached w d → ⊥
unfolding IsStep Stands
nobody w d step some = step.0.1.0 (inl some)

pub no_fault_left : (d : ℕ) (x : Descriptor) (fault : CachedFault) → x ≡ IotlbDomain d → fault.domain ≡ d → drops_fault x fault ≡ false → ⊥
no_fault_left d x fault is here left =
    let kept : drops_fault (IotlbDomain d) fault ≡ false = ap (λ y. drops_fault y fault) (sym is) ∙ left in grind (arith, nat_tests)

pub drops_forget : DropsForget
drops_forget m t d x whole does last =
    let c = closes m t d does.becomes in
    let sends : Invalidates m.iommu (IotlbDomain d) (domain_shown m.pool c.0) t.iommu =
    subst (λ (y : Iommu). Invalidates m.iommu (IotlbDomain d) (domain_shown m.pool c.0) y) (sym c.1.quiet) c.1.flushes.invalidates in
    let is : x ≡ IotlbDomain d = sent_last m.iommu t.iommu (IotlbDomain d) x _ last.0 last.1 sends last.2 in
    let w = whole.of_world.0 in
    let q = whole.of_world.1 in
    let none : (k : CachedContext) → IsOfRow m k → k.domain ≡ d → ⊥ =
    λ k at same. nobody w d (does.steps w q).0
    (k.device, q.contexts.devices k.device ∙ ap attached at ∙ ap (λ n. Some n) same) in (
      λ leaf left here. none_left d x leaf is here left,
      λ table left here. no_table_left d x table is here left,
      λ fault left here. no_fault_left d x fault is here left,
      λ k at same. elim at [
        | inl before ↦ none k before same
        | inr after ↦ none k (ap (λ r. slice_get r k.device) (sym sends.contexts) ∙ after) same
      ],
    )

closes_own : (m t : State) (d : ℕ) (h : Domain) → Becomes m (calls.Drop d) Done t → domain_at m.domains d ≡ Some h
    → Closes (operands_in m h) d t.pool t.iommu
unfolding Becomes
closes_own m t d h (old, here, does, is) there =
    subst (λ (y : Domain). Closes (operands_in m y) d t.pool t.iommu) (same_Some old h (sym here ∙ there)) does

pub drops_old_or_absent : DropsAreOldOrAbsent
drops_old_or_absent m t d h reached page does there =
    let c = closes_own m t d h does.becomes there in
    let ended : IsOldOrAbsent c.flushed.pool.words t.pool.words reached c.flushed.domain.width c.flushed.domain.root page =
    destroys_old_or_absent c.flushed.pool t.pool c.flushed.domain.width c.flushed.domain.root reached page
    (record { free = c.destroys.free; zeroed = c.destroys.is_pool.zeroed }) in
    subst (λ ws. IsOldOrAbsent ws t.pool.words reached h.width h.root page) c.flushes.releases.words
    (subst (λ (y : Domain). IsOldOrAbsent c.flushed.pool.words t.pool.words reached y.width y.root page) c.flushes.same ended)

-- ---- a detach

abbrev Detached : State → State → ℕ → Type 0
Detached m t device =
    (domain : ℕ) × (root : ℕ) × (width : Width) × (slice_get m.iommu.contexts device ≡ Some (Present root width domain))
    × Invalidates (record m.iommu { contexts = slice_set m.iommu.contexts device Absent }) (ContextDevice domain device) None t.iommu

detaches : (m t : State) (device : ℕ) → Becomes m (calls.Detach device) Done t → Detached m t device
unfolding Becomes
detaches m t device (domain, root, width, at, sends, is) = (domain, root, width, at, sends)

no_context_left : (domain device : ℕ) (d : Descriptor) (x : CachedContext) → d ≡ ContextDevice domain device → x.device ≡ device
    → drops_context d x ≡ false → ⊥
no_context_left domain device d x is same left =
    let kept : drops_context (ContextDevice domain device) x ≡ false = ap (λ y. drops_context y x) (sym is) ∙ left in
    grind (arith, nat_tests)

no_entry : (root domain : ℕ) (width : Width) → Some Absent ≡ Some (Present root width domain) → ⊥
no_entry root domain width same = cc

some_place : (row : List ContextEntry) (i : ℕ) (e : ContextEntry) → slice_get row i ≡ Some e → i < length row
some_place row i e at = elim (slice_get_cases row i).1 [ inl x ↦ x.1 | inr x ↦ absurd (none-some e (sym x.1 ∙ at)) ]

pub detaches_forget : DetachesForget
detaches_forget m t device d x whole does last cached same =
    let c = detaches m t device does.becomes in
    let before : Iommu = record m.iommu { contexts = slice_set m.iommu.contexts device Absent } in
    let is : d ≡ ContextDevice c.0 device = sent_last before t.iommu (ContextDevice c.0 device) d _ last.0 last.1 c.4 last.2 in
    elim cached [
      | inl left ↦ no_context_left c.0 device d x is same left
      | inr row ↦ no_entry x.root x.domain x.width
          (sym (get_set m.iommu.contexts device Absent (some_place m.iommu.contexts device _ c.3))
          ∙ ap (λ r. slice_get r device) (sym c.4.contexts) ∙ ap (slice_get t.iommu.contexts) (sym same) ∙ row)
    ]

-- ---- a map in Caching Mode

no_page_left : (d : ℕ) (range : Range) (x : Descriptor) (fault : CachedFault) → IsSentForMap d range x → fault.domain ≡ d
    → IsWithin range fault.page → drops_fault x fault ≡ false → ⊥
no_page_left d range x fault (b, is, inl (small, same)) own inside left =
    let held : IsInBlock b fault.page = is.holds fault.page inside in
    let kept : drops_fault (IotlbPages d b false) fault ≡ false = rw same at left in
    let low = held.0 in
    let high = held.1 in
    grind (arith, nat_tests)
no_page_left d range x fault (b, is, inr (large, same)) own inside left =
    let kept : drops_fault (IotlbDomain d) fault ≡ false = rw same at left in grind (arith, nat_tests)

sends_for : (m t : State) (d : ℕ) (at : Placement) (x : Descriptor) (fault : CachedFault) → BecomesMapped m d at t
    → m.iommu.unit.caching ≡ true → IsDoneLast t x → fault.domain ≡ d → drops_fault x fault ≡ false → IsWithin (range_of at) fault.page → ⊥
sends_for m t d at x fault (old, new, here, places, sends, is) on last own left inside =
    let does : SendsForMap true m.iommu d old.root (range_of at) t.iommu =
    subst (λ b. SendsForMap b m.iommu d old.root (range_of at) t.iommu) on sends in
    let same : x ≡ does.0 = sent_last m.iommu t.iommu does.0 x _ last.0 last.1 does.2 last.2 in
    no_page_left d (range_of at) does.0 fault does.1 own inside (ap (λ y. drops_fault y fault) (sym same) ∙ left)

becomes_list : (m t : State) (d order rights address : ℕ) (segments : ArrayVec Segment)
    → Becomes m (calls.MapList d order rights segments) (Mapped address) t
    → BecomesMapped m d (record { segments = segments.items; order = order; rights = rights; first = address / PAGE_BYTES }) t
unfolding Becomes
becomes_list m t d order rights address segments does = does

becomes_one : (m t : State) (d frame pages order rights address : ℕ) → Becomes m (calls.Map d frame pages order rights) (Mapped address) t
    → BecomesMapped m d (record { segments = one_segment frame pages; order = order; rights = rights; first = address / PAGE_BYTES }) t
unfolding Becomes
becomes_one m t d frame pages order rights address does = does

pub list_forgets : MapsForgetFaults
list_forgets m t d order rights address segments x fault on does last own left inside =
    sends_for m t d (record { segments = segments.items; order = order; rights = rights; first = address / PAGE_BYTES }) x fault
    (becomes_list m t d order rights address segments does.becomes) on last own left inside

total_one : (frame pages : ℕ) → total_pages (one_segment frame pages) ≡ pages
total_one frame pages =
    omega (arith, sum_by-cons (λ (s : Segment). s.pages) (record { frame = frame; pages = pages }) [], none)
  where
    none : total_pages [] ≡ 0
    none = refl

pub one_forgets : MapsOfOneForgetFaults
one_forgets m t d frame pages order rights address x fault on does last own left inside =
    sends_for m t d (record { segments = one_segment frame pages; order = order; rights = rights; first = address / PAGE_BYTES }) x fault
    (becomes_one m t d frame pages order rights address does.becomes) on last own left
    (inside.0, omega (arith, inside.1, total_one frame pages))
