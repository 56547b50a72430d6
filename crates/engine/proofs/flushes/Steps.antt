-- Flushes and drops: how they are refused, and what they change.
use Rattle.std.proofs.Common.{◌≡◌, ℕ, ◌+◌, ◌-◌, ◌<◌, inl, inr, ⊎_elim, List, map, [], ◌∷◌, ◌++◌, length, Option, Some, None}
use Rattle.std.proofs.Common.{refl, sym, ap, subst, ◌∙◌, arith, slice_get, slice_set, IsNone}
use Rattle.std.proofs.lemmas.List.{length-set}
use Rattle.std.proofs.lemmas.Option.{same_Some}
use Rattle.vtdbits.specs.declared.context.ContextEntry.{ContextEntry}
use Rattle.vtdbits.specs.declared.context.ContextEntry.TheVariants.{Absent, Present}
use Rattle.dmatypes.specs.declared.call.Call.{Call}
use Rattle.dmatypes.specs.declared.reply.Reply.{Reply}
use Rattle.dmatypes.specs.declared.call.Call.TheVariants as calls
use Rattle.dmatypes.specs.declared.refusal.Refusal.TheVariants as refusals
use Rattle.dmatypes.specs.declared.reply.Reply.TheVariants.{Done, Flushed, Refused}
use Rattle.dmatypes.specs.Conditions.{SomeHas, Stands}
use Rattle.dmatypes.specs.Step.{Answers, IsStep, next}
use Rattle.dmatypes.specs.World.{World, IsIn, flushed, put}
use Rattle.dmatypes.specs.World as world
use Rattle.tables.specs.Pool.{Pool}
use Rattle.vtdbits.specs.declared.descriptor.Descriptor.TheVariants.{IotlbDomain, Wait}
use Rattle.engine.specs.declared.iommu.Iommu.{Iommu}
use Rattle.engine.specs.Ending.{Closes, Flushes, Invalidates, left_by_all, domain_shown, status_of}
use Rattle.engine.specs.Domains.{Domain, domain_at, operands_of}
use Rattle.engine.specs.State.{Becomes, Exact, State, operands_in}
use Rattle.engine.specs.Quarantine.{IsOfSomeWorld, Quarantine, ticket_there}
use Rattle.vtdbits.specs.Context.{attached}
use Rattle.engine.specs.declared.ticket.Ticket.{Ticket}
use Rattle.engine.specs.Steps.{Does}
use Rattle.engine.specs.Whole.{IsWhole}
use Rattle.engine.proofs.domains.Dropped.{domain_dropped}
use Rattle.engine.proofs.lists.Places.{is_none, not_none}
use Rattle.engine.proofs.domains.OneChanged.{both_absent, both_there}
use Rattle.engine.proofs.states.Refused.{counted, refuses}
use Rattle.engine.proofs.flushes.OneByOne.{domain_flushed}
use Rattle.engine.proofs.caches.Sent.{changed, whole_sends}
use Rattle.engine.proofs.unmaps.Steps.{records_count}

-- ---- refused

-- of a flush and of a drop alike
no_domain : (m : State) (domain : ℕ) → domain_at m.domains domain ≡ None → (w : World) → Quarantine m w → IsNone (w.domains domain)
no_domain m domain none w q =
    is_none (w.domains domain) (both_absent m.pool.words (domain_at m.domains domain) (w.domains domain) (q.domains domain) none)

pub flush_no_domain : (m t : State) (domain : ℕ) → t ≡ counted m → domain_at m.domains domain ≡ None
    → Does m (calls.Flush domain) (Refused refusals.NoDomain) t
unfolding Exact IsStep Stands
flush_no_domain m t domain is none =
    refuses m t (calls.Flush domain) refusals.NoDomain is tt (λ w q. inl (inl (no_domain m domain none w q, refl)))

pub drop_no_domain : (m t : State) (domain : ℕ) → t ≡ counted m → domain_at m.domains domain ≡ None
    → Does m (calls.Drop domain) (Refused refusals.NoDomain) t
unfolding Exact IsStep Stands
drop_no_domain m t domain is none =
    refuses m t (calls.Drop domain) refusals.NoDomain is tt (λ w q. inl (inl (no_domain m domain none w q, refl)))

pub drop_busy : (m t : State) (domain : ℕ) (h : Domain) → t ≡ counted m → domain_at m.domains domain ≡ Some h
    → ((v : ℕ) × (attached (slice_get m.iommu.contexts v) ≡ Some domain)) → Does m (calls.Drop domain) (Refused refusals.Busy) t
unfolding Exact IsStep Stands
drop_busy m t domain h is there (v, at) = refuses m t (calls.Drop domain) refusals.Busy is tt
    (λ w q.
    let both = both_there m.pool.words (domain_at m.domains domain) (w.domains domain) h (q.domains domain) there in
    inl (inr (not_none (w.domains domain) both.0 both.1, inl (inl (v, q.contexts.devices v ∙ at), refl))))

-- a device is attached to a domain that is there
pub drop_attached : (m t : State) (domain : ℕ) → IsOfSomeWorld m → t ≡ counted m
    → ((v : ℕ) × (attached (slice_get m.iommu.contexts v) ≡ Some domain)) → Does m (calls.Drop domain) (Refused refusals.Busy) t
drop_attached m t domain (w, q) is (v, to) = by_entry (slice_get m.iommu.contexts v) refl
  where
    by_entry : (o : Option ContextEntry) → slice_get m.iommu.contexts v ≡ o → Does m (calls.Drop domain) (Refused refusals.Busy) t
    by_entry None at = absurd (let no : None ≡ Some domain = sym (ap attached at) ∙ to in cc)
    by_entry (Some Absent) at = absurd (let no : None ≡ Some domain = sym (ap attached at) ∙ to in cc)
    by_entry (Some (Present root width named)) at =
        let same : named ≡ domain = same_Some named domain (sym (ap attached at) ∙ to) in
        let h = q.contexts.roots v root named width at in
        drop_busy m t domain h.0 is (ap (domain_at m.domains) (sym same) ∙ h.1) (v, to)

-- a ticket of the domain is open
told_there : (m : State) (domain : ℕ) (ts : List Ticket) → SomeHas (λ t. t.domain ≡ domain) (map ticket_there ts)
    → (x : Ticket) × IsIn x ts × (x.domain ≡ domain)
told_there m domain [] none = absurd none
told_there m domain (x ∷ xs) (inl same) = (x, inl refl, same)
told_there m domain (x ∷ xs) (inr rest) = let k = told_there m domain xs rest in (k.0, inr k.1, k.2)

none_open : (m : State) (domain : ℕ) → ((x : Ticket) → IsIn x m.tickets → x.domain ≡ domain → ⊥) → (ts : List world.Ticket)
    → ts ≡ map ticket_there m.tickets → SomeHas (λ t. t.domain ≡ domain) ts → ⊥
none_open m domain none ts is some =
    let k = told_there m domain m.tickets (subst (SomeHas (λ t. t.domain ≡ domain)) is some) in none k.0 k.1 k.2

pub drop_open : (m t : State) (domain : ℕ) (h : Domain) → t ≡ counted m → domain_at m.domains domain ≡ Some h
    → SomeHas (λ t. t.domain ≡ domain) (map ticket_there m.tickets) → Does m (calls.Drop domain) (Refused refusals.Busy) t
unfolding Exact IsStep Stands
drop_open m t domain h is there told = refuses m t (calls.Drop domain) refusals.Busy is tt
    (λ w q.
    let both = both_there m.pool.words (domain_at m.domains domain) (w.domains domain) h (q.domains domain) there in
    inl (inr (
      not_none (w.domains domain) both.0 both.1,
      inl (inr (subst (SomeHas (λ t. t.domain ≡ domain)) (sym q.tickets) told), refl),
    )))

-- ---- done

-- a call is done, and the type of the state keeps what it does
pub record Did (m : State) (call : Call) (reply : Reply) (t : State) : Type 0 where
  pub does : Does m call reply t
  pub whole : IsWhole t.pool.frames t

module _ (m : State) (domain i : ℕ) (h : Domain) (pool : Pool) (x : Iommu) (whole : IsWhole m.pool.frames m)
    (less : i < length m.domains) (id : domain ≡ i + 1)
    (there : domain_at m.domains domain ≡ Some h) where
  place : domain - 1 ≡ i
  place = omega (arith, id)

  at_next : domain_at m.domains (i + 1) ≡ Some h
  at_next = rw id at there

  -- the world after it, by the id of the call
  at_id : (t : State) (w : World) (o : Option world.Domain) → Quarantine t (record w { domains = put (i + 1) o w.domains })
      → Quarantine t (record w { domains = put domain o w.domains })
  at_id t w o q = subst (λ (d : ℕ). Quarantine t (record w { domains = put d o w.domains })) (sym id) q

  -- the type of the state keeps what an invalidation of the domain leaves
  sends : (new : Option Domain) {call : Call} {reply : Reply} → Does m call reply (changed m i pool new x)
      → Invalidates m.iommu (IotlbDomain domain) (domain_shown m.pool h) x → IsWhole pool.frames (changed m i pool new x)
  sends new {call} {reply} does invalidates =
      whole_sends m (changed m i pool new x) call reply (IotlbDomain domain) m.iommu.contexts whole does (length-set m.domains i new)
      refl invalidates

  module _ (new : Domain) (released : ℕ) (count : released ≡ length h.records)
      (flushes : Flushes (operands_in m h) domain (operands_of pool new x)) where
    abbrev after_flush : State
    after_flush = changed m i pool (Some new) x

    flush_does : Does m (calls.Flush domain) (Flushed released) after_flush
    unfolding Exact Becomes IsStep Stands Answers next
    flush_does = record {
      steps = λ w q.
          let v = both_there m.pool.words (domain_at m.domains domain) (w.domains domain) h (q.domains domain) there in
          let there' : w.domains (i + 1) ≡ Some v.0 = sym (ap w.domains id) ∙ v.1 in
          let caches : x.unit.caches ≡ left_by_all (m.iommu.ring.waiting ++ IotlbDomain (i + 1) ∷ Wait (status_of x.sent) ∷ [])
          m.iommu.unit.caches =
          rw id at flushes.invalidates.caches in (
            ((not_none (w.domains domain) v.0 v.1, tt), rw v.1 (ap (λ (n : ℕ). Flushed n) (count ∙ records_count h v.0 v.2.ids))),
            rw v.1
                (at_id after_flush w (Some (flushed v.0))
                (domain_flushed m after_flush w i (status_of x.sent) h v.0 new.space q whole.places less at_next
                there' caches flushes.invalidates.caching flushes.releases
                (ap (λ (d : Domain). slice_set m.domains i (Some d)) flushes.same)
                flushes.invalidates.contexts refl)),
          );
      exact = tt;
      becomes = (h, new, there, flushes, rw place refl);
      calls = refl;
    }

    pub flush_did : Did m (calls.Flush domain) (Flushed released) after_flush
    flush_did = record { does = flush_does; whole = sends (Some new) flush_does flushes.invalidates }

  module _ (nobody : (v : ℕ) → attached (slice_get m.iommu.contexts v) ≡ Some domain → ⊥)
      (untold : (x : Ticket) → IsIn x m.tickets → x.domain ≡ domain → ⊥) (closes : Closes (operands_in m h) domain pool x)
    where
      abbrev after_drop : State
      after_drop = changed m i pool None x

      drop_does : Does m (calls.Drop domain) Done after_drop
      unfolding Exact Becomes IsStep Stands Answers next
      drop_does = record {
        steps = λ w q.
            let v = both_there m.pool.words (domain_at m.domains domain) (w.domains domain) h (q.domains domain) there in
            let there' : w.domains (i + 1) ≡ Some v.0 = sym (ap w.domains id) ∙ v.1 in
            let closes' : Closes (operands_in m h) (i + 1) pool x = rw id at closes in
            let alone : (k : ℕ) → w.devices k ≡ Some domain → ⊥ = (λ k to. nobody k (sym (q.contexts.devices k) ∙ to)) in
            let alone' : (k : ℕ) → w.devices k ≡ Some (i + 1) → ⊥ = rw id at alone in (
              (
                (
                  not_none (w.domains domain) v.0 v.1,
                  (
                    ⊎_elim (λ some. alone some.0 some.1)
                        (λ some. none_open m domain untold w.tickets (q.tickets) some),
                    tt,
                  ),
                ),
                refl,
              ),
              at_id after_drop w None (domain_dropped m after_drop w i h v.0 q whole.places less at_next there' alone' closes' refl refl),
            );
        exact = tt;
        becomes = (h, there, closes, rw place refl);
        calls = refl;
      }

      pub drop_did : Did m (calls.Drop domain) Done after_drop
      drop_did = record {
        does = drop_does;
        whole =
            sends None drop_does
            (subst (λ (y : Iommu). Invalidates m.iommu (IotlbDomain domain) (domain_shown m.pool h) y) (sym closes.quiet)
            closes.flushes.invalidates);
      }
