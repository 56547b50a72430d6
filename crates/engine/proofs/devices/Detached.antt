-- A device is detached, and its context is forgotten.
use Rattle.std.proofs.Common.{map, ◌≡◌, ◌≢◌, ℕ, ◌+◌, ◌<◌, ◌≤◌, inl, inr, false, arith, length, Some, None, refl, sym, ap, ◌∙◌, slice_get}
use Rattle.std.proofs.Common.{slice_set}
use Rattle.std.proofs.lemmas.Bool.Decides.{nat_tests}
use Rattle.dmatypes.specs.declared.call.Call.TheVariants as calls
use Rattle.dmatypes.specs.declared.refusal.Refusal.TheVariants as refusals
use Rattle.dmatypes.specs.declared.reply.Reply.TheVariants.{Done, Refused}
use Rattle.dmatypes.specs.Conditions.{Stands}
use Rattle.dmatypes.specs.Step.{Answers, IsStep, next}
use Rattle.dmatypes.specs.World.{World, put}
use Rattle.dmatypes.specs.declared.width.Width.{Width}
use Rattle.tables.specs.Pool.{Pool}
use Rattle.unit.specs.Caches.{CachedContext}
use Rattle.unit.specs.Filters.{drops_context}
use Rattle.vtdbits.specs.declared.context.ContextEntry.{ContextEntry}
use Rattle.vtdbits.specs.declared.context.ContextEntry.TheVariants.{Absent, Present}
use Rattle.vtdbits.specs.declared.descriptor.Descriptor.TheVariants.{ContextDevice}
use Rattle.engine.specs.declared.iommu.Iommu.{Iommu}
use Rattle.engine.specs.Ending.{Invalidates, status_of}
use Rattle.engine.specs.State.{Becomes, Exact, State}
use Rattle.engine.specs.Quarantine.{Quarantine, ticket_there}
use Rattle.vtdbits.specs.Context.{attached}
use Rattle.engine.specs.Steps.{Does}
use Rattle.dmatypes.proofs.histories.Maps.{put_other, put_same, same_or_not}
use Rattle.engine.proofs.lists.Places.{get_set, get_set_other, is_none, not_none}
use Rattle.engine.proofs.caches.Purged.{Purges, purges_sent}
use Rattle.engine.proofs.states.Refused.{counted, refuses}
use Rattle.engine.proofs.caches.Faults.{faults_stay, same_pages}
use Rattle.dmatypes.specs.declared.limits.TheConstants.{DEVICES}

dropped_context : (domain device : ℕ) (x : CachedContext) → x.device ≡ device → drops_context (ContextDevice domain device) x ≡ false → ⊥
dropped_context domain device x same left = grind (arith, nat_tests)

module _ (m t : State) (w : World) (device domain : ℕ) (q : Quarantine m w) (small : device < length m.iommu.contexts)
    (row : t.iommu.contexts ≡ slice_set m.iommu.contexts device Absent)
    (purges : Purges (ContextDevice domain device) m.iommu.unit.caches t.iommu.unit.caches)
    (mode : t.iommu.unit.caching ≡ m.iommu.unit.caching) (domains : t.domains ≡ m.domains) (pool : t.pool ≡ m.pool)
    (tickets : t.tickets ≡ m.tickets) where
  entry_then : (x : ℕ) → x ≢ device → slice_get t.iommu.contexts x ≡ slice_get m.iommu.contexts x
  entry_then x ne = ap (λ r. slice_get r x) row ∙ get_set_other m.iommu.contexts device x Absent ne

  gone : (x : ℕ) → x ≡ device → slice_get t.iommu.contexts x ≡ Some Absent
  gone x same =
      ap (λ r. slice_get r x) row ∙ ap (slice_get (slice_set m.iommu.contexts device Absent)) same
      ∙ get_set m.iommu.contexts device Absent small

  devices : (x : ℕ) → put device None w.devices x ≡ attached (slice_get t.iommu.contexts x)
  devices x = elim (same_or_not x device) [
    | inl same ↦ rw (gone x same, same, put_same device None w.devices) refl
    | inr ne ↦ rw (put_other device None w.devices x ne, entry_then x ne) (q.contexts.devices x)
  ]

  was_there : (x root e : ℕ) (width : Width) → slice_get t.iommu.contexts x ≡ Some (Present root width e)
      → slice_get m.iommu.contexts x ≡ Some (Present root width e)
  was_there x root e width at = elim (same_or_not x device) [
    | inl same ↦ absurd (clash root e width (sym (gone x same) ∙ at))
    | inr ne ↦ sym (entry_then x ne) ∙ at
  ]
    where
      clash : (root e : ℕ) (width : Width) → Some Absent ≡ Some (Present root width e) → ⊥
      clash root e width same = cc

  pub device_gone : Quarantine t (record w { devices = put device None w.devices })
  device_gone = record {
    table_frames = q.table_frames ∙ sym (ap (λ (p : Pool). p.frames) pool);
    domains = rw (domains, pool) q.domains;
    caches = record {
      leaves = λ l inside. rw (domains, pool) (q.caches.leaves l (purges.leaves l inside).0);
      tables = λ i inside. rw (domains, pool) (q.caches.tables i (purges.tables i inside).0);
    };
    faults = faults_stay m.iommu.unit t.iommu.unit w (record w { devices = put device None w.devices })
        (record { mode = mode; left = λ f inside. (purges.faults f inside).0 }) (same_pages w.domains) q.faults;
    contexts = record {
      devices = devices;
      roots = λ x root e width at. rw domains (q.contexts.roots x root e width (was_there x root e width at));
      cached =
          λ x inside.
          let left =
          purges.contexts x inside in
          entry_then x.device (λ same. dropped_context domain device x same left.1) ∙ q.contexts.cached x left.0;
    };
    frames = rw (domains, pool) q.frames;
    tickets = q.tickets ∙ ap (map ticket_there) (sym tickets);
  }

-- ---- the call

pub detach_no_device : (m t : State) (device : ℕ) → t ≡ counted m → DEVICES ≤ device
    → Does m (calls.Detach device) (Refused refusals.NoDevice) t
unfolding Exact IsStep Stands
detach_no_device m t device is big = refuses m t (calls.Detach device) refusals.NoDevice is tt (λ w q. inl (inl (big, refl)))

pub detach_not_attached : (m t : State) (device : ℕ) (entry : ContextEntry) → t ≡ counted m → device < DEVICES
    → slice_get m.iommu.contexts device ≡ Some entry → attached (Some entry) ≡ None
    → Does m (calls.Detach device) (Refused refusals.NotAttached) t
unfolding Exact IsStep Stands
detach_not_attached m t device entry is small at free = refuses m t (calls.Detach device) refusals.NotAttached is tt
    (λ w q.
    inl (inr (
      λ big. absurd (omega (arith, big, small)),
      inl (is_none (w.devices device) (q.contexts.devices device ∙ ap attached at ∙ free), refl),
    )))

-- the state with another ring and unit, and their row
abbrev pub detached : State → Iommu → State
detached m x = record m { iommu = x; calls = m.calls + 1 }

pub detach_does : (m : State) (device root domain : ℕ) (width : Width) (x : Iommu) → device < DEVICES → length m.iommu.contexts ≡ DEVICES
    → slice_get m.iommu.contexts device ≡ Some (Present root width domain)
    → Invalidates (record m.iommu { contexts = slice_set m.iommu.contexts device Absent }) (ContextDevice domain device) None x
    → Does m (calls.Detach device) Done (detached m x)
unfolding Exact Becomes IsStep Stands Answers next
detach_does m device root domain width x small many at invalidates = record {
  steps = λ w q. (
    (
      (λ big. absurd (omega (arith, big, small)), (not_none (w.devices device) domain (q.contexts.devices device ∙ ap attached at), tt)),
      refl,
    ),
    device_gone m (detached m x) w device domain q (omega (arith, small, many)) invalidates.contexts (
        purges_sent m.iommu.ring.waiting (ContextDevice domain device) (status_of x.sent) m.iommu.unit.caches x.unit.caches
        invalidates.caches) invalidates.caching refl
        refl refl,
  );
  exact = tt;
  becomes = (domain, root, width, at, invalidates, refl);
  calls = refl;
}
