-- What becomes of the row of contexts.
use Rattle.std.proofs.Common.{ℕ, zero, suc, Some, List, [], ◌∷◌, refl, sym, slice_get}
use Rattle.std.proofs.lemmas.Option.{none-some}
use Rattle.vtdbits.specs.declared.context.ContextEntry.TheVariants.{Absent, Present}
use Rattle.driven.specs.Effects.{GoesFirst}
use Rattle.std.proofs.Common.{Option, None}
use Rattle.dmatypes.proofs.histories.Maps.{put_same}
use Rattle.vtdbits.specs.Context.{attached}
use Rattle.dmatypes.specs.Step.{next}
use Rattle.engine.specs.Steps.{Does}
use Rattle.quiet.specs.Quiet.{IsSound}
use Rattle.driven.specs.declared.effect.Half.TheVariants.{High, Low}
use Rattle.std.proofs.Common.{◌≡◌, ◌⊎◌, inl, inr, ℕ, Bool, true, false, ap, ◌∙◌, slice_set}
use Rattle.dmatypes.specs.Page.{Range, range_at}
use Rattle.dmatypes.specs.declared.call.Call.{Call}
use Rattle.dmatypes.specs.declared.call.Call.TheVariants as calls
use Rattle.dmatypes.specs.declared.call.Mode.{Mode}
use Rattle.dmatypes.specs.declared.call.Mode.TheVariants.{Lazy, Strict}
use Rattle.dmatypes.specs.declared.reply.Reply.{Reply}
use Rattle.dmatypes.specs.declared.reply.Reply.TheVariants.{Done, Flushed, Made, Mapped, Reaped, Refused, Stepped, Unmapped}
use Rattle.vtdbits.specs.declared.context.ContextEntry.{ContextEntry}
use Rattle.engine.specs.declared.iommu.Iommu.{Iommu}
use Rattle.engine.specs.Domains.{Domain, Operands}
use Rattle.engine.specs.Ending.{ByMode, MakesRoom, PutsOff, SendsForMap, UnmapsStrictly}
use Rattle.engine.specs.State.{Becomes, State, operands_in}

abbrev Same : State → State → Type 0
Same m t = t.iommu.contexts ≡ m.iommu.contexts

-- an attach and a detach change the entry of their device at most, and no other call changes one
abbrev pub Row : State → State → Call → Type 0
Row m t (calls.Attach device domain) = Same m t ⊎ ((e : ContextEntry) × (t.iommu.contexts ≡ slice_set m.iommu.contexts device e))
Row m t (calls.Detach device) = Same m t ⊎ ((e : ContextEntry) × (t.iommu.contexts ≡ slice_set m.iommu.contexts device e))
Row m t call = Same m t

for_map : (caching : Bool) (x y : Iommu) (id root : ℕ) (range : Range) → SendsForMap caching x id root range y → y.contexts ≡ x.contexts
for_map false x y id root range is = ap (λ (z : Iommu). z.contexts) is
for_map true x y id root range (d, sent, done) = done.contexts

module _ (m t : State) where
  kept : t.iommu ≡ m.iommu → Same m t
  kept is = ap (λ (z : Iommu). z.contexts) is

  roomy : (e released : ℕ) (h : Domain) (made : Operands) → MakesRoom (operands_in m h) e released made → t.iommu ≡ made.iommu → Same m t
  roomy e released h made (inl has) is = kept (is ∙ ap (λ (p : Operands). p.iommu) has.same)
  roomy e released h made (inr empties) is = ap (λ (z : Iommu). z.contexts) is ∙ empties.flushes.invalidates.contexts

  unmapped : (e released : ℕ) (h new : Domain) (range : Range) (mode : Mode)
      → ByMode mode ((released ≡ 0) × UnmapsStrictly (operands_in m h) e range (operands_in t new))
      (PutsOff (operands_in m h) e range released (operands_in t new)) → Same m t
  unmapped e released h new range Strict does = does.1.invalidates.contexts
  unmapped e released h new range Lazy does = roomy e released h does.roomy does.room does.quiet

  pub rows : (call : Call) (reply : Reply) → Becomes m call reply t → Row m t call
  unfolding Becomes
  rows (calls.Domain mode width) (Made e) (root, takes, is) = kept (ap (λ (x : State). x.iommu) is)
  rows (calls.Domain mode width) _ is = kept (ap (λ (x : State). x.iommu) is)
  rows (calls.Attach device e) Done (h, here, is) = inr (_, ap (λ (x : State). x.iommu.contexts) is)
  rows (calls.Attach device e) _ is = inl (kept (ap (λ (x : State). x.iommu) is))
  rows (calls.Drop e) Done (h, here, closes, is) =
      ap (λ (z : Iommu). z.contexts) closes.quiet ∙ closes.flushes.invalidates.contexts
  rows (calls.Drop e) _ is = kept (ap (λ (x : State). x.iommu) is)
  rows (calls.Detach device) Done (e, root, width, at, done, is) = inr (_, done.contexts)
  rows (calls.Detach device) _ is = inl (kept (ap (λ (x : State). x.iommu) is))
  rows (calls.Map e frame pages order rights) (Mapped address) (h, new, here, places, sent, is) =
      for_map m.iommu.unit.caching m.iommu t.iommu e h.root _ sent
  rows (calls.Map e frame pages order rights) _ is = kept (ap (λ (x : State). x.iommu) is)
  rows (calls.MapList e order rights segments) (Mapped address) (h, new, here, places, sent, is) =
      for_map m.iommu.unit.caching m.iommu t.iommu e h.root _ sent
  rows (calls.MapList e order rights segments) _ is = kept (ap (λ (x : State). x.iommu) is)
  rows (calls.Flush e) (Flushed released) (h, new, here, flushes, is) = flushes.invalidates.contexts
  rows (calls.Flush e) _ is = kept (ap (λ (x : State). x.iommu) is)
  rows (calls.Unmap e address pages) (Unmapped released) (h, new, here, ends, is) =
      unmapped e released h new (range_at address pages) h.mode ends
  rows (calls.Unmap e address pages) _ is = kept (ap (λ (x : State). x.iommu) is)
  rows (calls.Dma device address access whim) (Refused refusal) is = kept (ap (λ (x : State). x.iommu) is)
  rows (calls.Dma device address access whim) _ (answer, reached, answers, filled, is) = ap (λ (x : State). x.iommu.contexts) is
  rows (calls.Begin e) (Reply.Ticket named number) (h, here, new, id, begins, is) = ap (λ (z : Iommu). z.contexts) begins
  rows (calls.Begin e) _ is = kept (ap (λ (x : State). x.iommu) is)
  rows calls.Unit (Stepped progress) is = ap (λ (x : State). x.iommu.contexts) is
  rows calls.Unit _ is = kept (ap (λ (x : State). x.iommu) is)
  rows (calls.Reap e number) (Reaped released) (h, new, here, reaps, is) = kept (ap (λ (x : State). x.iommu) is)
  rows (calls.Reap e number) _ is = kept (ap (λ (x : State). x.iommu) is)
  rows (calls.Evict kind place) Done is = ap (λ (x : State). x.iommu.contexts) is
  rows (calls.Evict kind place) _ is = kept (ap (λ (x : State). x.iommu) is)

-- ---- which half goes first

cleared_there : (row : List ContextEntry) (device : ℕ) (e : ContextEntry) → slice_get row device ≡ Some e
    → slice_get (slice_set row device Absent) device ≡ Some Absent
cleared_there [] device e h = absurd (none-some e h)
cleared_there (x ∷ xs) zero e h = refl
cleared_there (x ∷ xs) (suc i) e h = cleared_there xs i e h

-- an entry that is there after the call has its present bit last
pub attached_half : (m t : State) (device domain : ℕ) → IsSound m → Does m (calls.Attach device domain) Done t → GoesFirst t device High
unfolding next
attached_half m t device domain sound does =
    by (slice_get t.iommu.contexts device) refl
    (sym ((does.steps sound.of_world.0 sound.of_world.1).1.contexts.devices device)
    ∙ put_same device (Some domain) (sound.of_world.0).devices)
  where
    by : (o : Option ContextEntry) → slice_get t.iommu.contexts device ≡ o → attached (slice_get t.iommu.contexts device) ≡ Some domain
        → GoesFirst t device High
    by None is h = absurd (none-some domain (ap attached (sym is) ∙ h))
    by (Some Absent) is h = absurd (none-some domain (ap attached (sym is) ∙ h))
    by (Some (Present root width d)) is h = (Present root width d, (is, refl))

-- one that goes has it first
pub detached_half : (m t : State) (device : ℕ) → Becomes m (calls.Detach device) Done t → GoesFirst t device Low
unfolding Becomes
detached_half m t device (e, root, width, at, done, is) = (
  Absent,
  (ap (λ row. slice_get row device) done.contexts ∙ cleared_there m.iommu.contexts device (Present root width e) at, refl),
)
