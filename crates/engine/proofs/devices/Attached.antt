-- A device is attached.
use Rattle.std.proofs.Common.{◌≡◌, ◌≢◌, ℕ, ◌+◌, ◌<◌, ◌≤◌, inl, inr, List, length, Option, Some, None, IsSome, refl, sym, ap, subst, ◌∙◌}
use Rattle.std.proofs.Common.{arith, slice_get, slice_set}
use Rattle.std.proofs.lemmas.Option.{same_Some}
use Rattle.dmatypes.specs.declared.call.Call.TheVariants as calls
use Rattle.dmatypes.specs.declared.reply.Reply.TheVariants.{Done, Refused}
use Rattle.dmatypes.specs.declared.refusal.Refusal.TheVariants as refusals
use Rattle.dmatypes.specs.World.{World, IsIn, put}
use Rattle.dmatypes.specs.declared.width.Width.{Width}
use Rattle.vtdbits.specs.declared.context.ContextEntry.{ContextEntry}
use Rattle.vtdbits.specs.declared.context.ContextEntry.TheVariants.{Absent, Present}
use Rattle.dmatypes.specs.Conditions.{Stands}
use Rattle.dmatypes.specs.Step.{IsStep, Answers, next}
use Rattle.engine.specs.Domains.{Domain, domain_at}
use Rattle.engine.specs.State.{State, Exact, Becomes}
use Rattle.engine.specs.Quarantine.{Attaches}
use Rattle.vtdbits.specs.Context.{attached}
use Rattle.engine.specs.Steps.{Does}
use Rattle.dmatypes.proofs.histories.Maps.{put_same, put_other, same_or_not}
use Rattle.engine.proofs.lists.Places.{get_set, get_set_other, is_none, is_some, not_none, not_some}
use Rattle.engine.proofs.domains.OneChanged.{both_absent, both_there}
use Rattle.engine.proofs.states.Refused.{counted, refuses}
use Rattle.dmatypes.specs.declared.limits.TheConstants.{DEVICES}

pub attach_no_device : (m t : State) (device domain : ℕ) → t ≡ counted m → DEVICES ≤ device
    → Does m (calls.Attach device domain) (Refused refusals.NoDevice) t
unfolding Exact IsStep Stands
attach_no_device m t device domain is big = refuses m t (calls.Attach device domain) refusals.NoDevice is tt (λ w q. inl (inl (big, refl)))

pub attach_no_domain : (m t : State) (device domain : ℕ) → t ≡ counted m → device < DEVICES → domain_at m.domains domain ≡ None
    → Does m (calls.Attach device domain) (Refused refusals.NoDomain) t
unfolding Exact IsStep Stands
attach_no_domain m t device domain is small none = refuses m t (calls.Attach device domain) refusals.NoDomain is tt
    (λ w q. inl (inr (
      λ big. absurd (omega (arith, big, small)),
      inl (
        is_none (w.domains domain) (both_absent m.pool.words (domain_at m.domains domain) (w.domains domain) (q.domains domain) none),
        refl,
      ),
    )))

pub attach_busy : (m t : State) (device domain : ℕ) (h : Domain) (entry : ContextEntry) → t ≡ counted m → device < DEVICES
    → domain_at m.domains domain ≡ Some h → slice_get m.iommu.contexts device ≡ Some entry → entry ≢ Absent
    → Does m (calls.Attach device domain) (Refused refusals.Busy) t
unfolding Exact IsStep Stands
attach_busy m t device domain h entry is small there at busy = refuses m t (calls.Attach device domain) refusals.Busy is tt
    (λ w q.
    let v = both_there m.pool.words (domain_at m.domains domain) (w.domains domain) h (q.domains domain) there in
    inl (inr (
      λ big. absurd (omega (arith, big, small)),
      inr (
        not_none (w.domains domain) v.0 v.1,
        inl (some_device w.devices device (slice_get m.iommu.contexts device) entry (q.contexts.devices device) at busy, refl),
      ),
    )))
  where
    some_device : (devices : ℕ → Option ℕ) (device : ℕ) (o : Option ContextEntry) (entry : ContextEntry) → devices device ≡ attached o
        → o ≡ Some entry → entry ≢ Absent → IsSome (devices device)
    some_device devices device None entry e at busy = absurd cc
    some_device devices device (Some Absent) entry e at busy = absurd (busy (sym (same_Some Absent entry at)))
    some_device devices device (Some (Present root width domain)) entry e at busy = is_some (devices device) domain e

attached_set : (row : List ContextEntry) (device domain : ℕ) (entry : ContextEntry) → device < length row
    → attached (Some entry) ≡ Some domain → (v : ℕ)
    → put device (Some domain) (λ x. attached (slice_get row x)) v ≡ attached (slice_get (slice_set row device entry) v)
attached_set row device domain entry less is v = elim (same_or_not v device) [
  | inl same ↦ rw (same, put_same device (Some domain) (λ x. attached (slice_get row x)), get_set row device entry less) (sym is)
  | inr ne ↦ rw (put_other device (Some domain) (λ x. attached (slice_get row x)) v ne, get_set_other row device v entry ne) refl
]

put_along : (device domain : ℕ) (f g : ℕ → Option ℕ) → ((v : ℕ) → f v ≡ g v) → (v : ℕ)
    → put device (Some domain) f v ≡ put device (Some domain) g v
put_along device domain f g same v = elim (same_or_not v device) [
  | inl e ↦ rw (e, put_same device (Some domain) f, put_same device (Some domain) g) refl
  | inr ne ↦ rw (put_other device (Some domain) f v ne, put_other device (Some domain) g v ne) (same v)
]

-- the row with the entry is that of the world with the attachment
attaches_row : (m t : State) (w : World) (device domain : ℕ) (h : Domain) → Attaches m w → device < length m.iommu.contexts
    → domain_at m.domains domain ≡ Some h → slice_get m.iommu.contexts device ≡ Some Absent
    → t.iommu.contexts ≡ slice_set m.iommu.contexts device (Present h.root h.width domain) → t.domains ≡ m.domains
    → t.iommu.unit ≡ m.iommu.unit
    → Attaches t (record w { devices = put device (Some domain) w.devices })
attaches_row m t w device domain h old less there absent row domains unit = record {
  devices =
      λ v.
      put_along device domain w.devices (λ x. attached (slice_get m.iommu.contexts x)) old.devices v
      ∙ attached_set m.iommu.contexts device domain (Present h.root h.width domain) less refl v
      ∙ ap (λ r. attached (slice_get r v)) (sym row);
  roots = λ v root d width at. elim (same_or_not v device) [
    | inl same ↦
        let is : Present h.root h.width domain ≡ Present root width d =
        same_Some (Present h.root h.width domain) (Present root width d) (sym
        (get_set m.iommu.contexts device (Present h.root h.width domain) less)
        ∙ ap (slice_get (slice_set m.iommu.contexts device (Present h.root h.width domain))) (sym same) ∙ ap (λ r. slice_get r v) (sym row)
        ∙ at) in
        (h, ap (λ hs. domain_at hs d) domains ∙ ap (domain_at m.domains) (sym (domain_in is)) ∙ there, root_in is, width_in is)
    | inr ne ↦
        let was =
        old.roots v root d width
        (sym (get_set_other m.iommu.contexts device v (Present h.root h.width domain) ne) ∙ ap (λ r. slice_get r v) (sym row) ∙ at) in
        (was.0, ap (λ hs. domain_at hs d) domains ∙ was.1, was.2, was.3)
  ];
  cached = λ x inside.
      let at = old.cached x (subst (λ u. IsIn x u.caches.contexts) unit inside) in
      ap (λ r. slice_get r x.device) row
      ∙ get_set_other m.iommu.contexts device x.device (Present h.root h.width domain)
      (λ same. clash x.root x.domain x.width (sym absent ∙ ap (slice_get m.iommu.contexts) (sym same) ∙ at)) ∙ at;
} where
  clash : (root d : ℕ) (width : Width) → Some Absent ≡ Some (Present root width d) → ⊥
  clash root d width e = cc

  domain_in : {root root' d d' : ℕ} {width width' : Width} → Present root width d ≡ Present root' width' d' → d ≡ d'
  domain_in {root} {root'} {d} {d'} e = same_Some d d' (ap (λ x. attached (Some x)) e)

  root_in : {root root' d d' : ℕ} {width width' : Width} → Present root width d ≡ Present root' width' d' → root ≡ root'
  root_in e = cc

  width_in : {root root' d d' : ℕ} {width width' : Width} → Present root width d ≡ Present root' width' d' → width ≡ width'
  width_in e = cc

pub attaches : (m t : State) (device domain : ℕ) (h : Domain) → device < DEVICES → length m.iommu.contexts ≡ DEVICES
    → domain_at m.domains domain ≡ Some h → slice_get m.iommu.contexts device ≡ Some Absent
    → t
    ≡ record m {
      iommu = record m.iommu { contexts = slice_set m.iommu.contexts device (Present h.root h.width domain) };
      calls = m.calls + 1;
    }
    → Does m (calls.Attach device domain) Done t
unfolding Exact Becomes IsStep Stands Answers next
attaches m t device domain h small many there free is = record {
  steps = λ w q.
      let v = both_there m.pool.words (domain_at m.domains domain) (w.domains domain) h (q.domains domain) there in
      let none : w.devices device ≡ None = q.contexts.devices device ∙ ap attached free in (
        ((λ big. absurd (omega (arith, big, small)), (not_none (w.domains domain) v.0 v.1, (not_some (w.devices device) none, tt))), refl),
        rw is (record {
          table_frames = q.table_frames;
          domains = q.domains;
          caches = record { leaves = q.caches.leaves; tables = q.caches.tables };
          faults = q.faults;
          contexts =
              attaches_row m
              (record m {
                iommu = record m.iommu { contexts = slice_set m.iommu.contexts device (Present h.root h.width domain) };
                calls = m.calls + 1;
              })
              w device domain h q.contexts (omega (arith, small, many)) there free refl refl refl;
          frames = q.frames;
          tickets = q.tickets;
        }),
      );
  exact = tt;
  becomes = (h, there, is);
  calls = ap (λ (x : State). x.calls) is;
}
