-- Reaps: how one is refused, one that is pending, and what one changes whose wait is done.
use Rattle.std.proofs.Common.{◌≡◌, ℕ, ◌+◌, ◌-◌, ◌<◌, ◌≤◌, inl, inr, filter, length, not, Some, refl, sym, ap, subst, ◌∙◌, arith, slice_set}
use Rattle.std.proofs.lemmas.List.{length-set}
use Rattle.dmatypes.specs.declared.call.Call.TheVariants as calls
use Rattle.dmatypes.specs.declared.refusal.Refusal.TheVariants as refusals
use Rattle.dmatypes.specs.declared.reply.Reply.TheVariants.{Pending, Reaped, Refused}
use Rattle.dmatypes.specs.Conditions.{IsOpen, Stands}
use Rattle.dmatypes.specs.Step.{Answers, IsStep, next}
use Rattle.dmatypes.specs.World.{World, IsIn, put, reaped, without_ticket}
use Rattle.dmatypes.specs.World as world
use Rattle.tables.specs.Pool.{Pool}
use Rattle.engine.specs.declared.record.Record.{Record}
use Rattle.engine.specs.declared.ticket.Ticket.{Ticket}
use Rattle.engine.specs.Domains.{Domain, domain_at}
use Rattle.engine.specs.Ending.{Reaps, was_before}
use Rattle.engine.specs.Quarantine.{Quarantine, ticket_there}
use Rattle.engine.specs.Ready.{last_done}
use Rattle.engine.specs.State.{Becomes, Exact, State, is_ticket}
use Rattle.engine.specs.Steps.{Does}
use Rattle.engine.specs.Tickets.{IsForgotten}
use Rattle.engine.specs.Whole.{IsWhole}
use Rattle.engine.proofs.domains.OneChanged.{both_there}
use Rattle.engine.proofs.flushes.Parted.{count_gone}
use Rattle.engine.proofs.flushes.Reaped.{done_clear, left_by_reap, quarantine_closed, quarantine_unclosed}
use Rattle.engine.proofs.flushes.Steps.{Did}
use Rattle.engine.proofs.lists.Membership.{in_mapped, of_mapped}
use Rattle.engine.proofs.states.Refused.{counted, quarantine_counted, refuses, whole_quiet}
use Rattle.engine.proofs.unmaps.DomainAfter.{domain_after}

-- ---- the ticket in the world

abbrev told : ℕ → ℕ → world.Ticket
told domain number = record { domain = domain; number = number }

-- it is open in the world where it is in the state
is_open : (m : State) (w : World) (x : Ticket) → Quarantine m w → IsIn x m.tickets → IsOpen w x.domain x.number
is_open m w x q inside = subst (IsIn (ticket_there x)) (sym q.tickets) (in_mapped ticket_there x m.tickets inside)

not_open : (m : State) (w : World) (domain number : ℕ) → Quarantine m w
    → ((x : Ticket) → IsIn x m.tickets → x.domain ≡ domain → x.number ≡ number → ⊥) → IsOpen w domain number → ⊥
not_open m w domain number q none told_open =
    let x = of_mapped ticket_there (told domain number) m.tickets (subst (IsIn (told domain number)) q.tickets told_open) in
    none x.0 x.1 (sym (ap (λ (y : world.Ticket). y.domain) x.2)) (sym (ap (λ (y : world.Ticket). y.number) x.2))

-- ---- refused, and pending

pub reap_refused : (m t : State) (domain number : ℕ) → t ≡ counted m
    → ((x : Ticket) → IsIn x m.tickets → x.domain ≡ domain → x.number ≡ number → ⊥)
    → Does m (calls.Reap domain number) (Refused refusals.BadTicket) t
unfolding Exact IsStep Stands
reap_refused m t domain number is none =
    refuses m t (calls.Reap domain number) refusals.BadTicket is tt (λ w q. inl (inl (not_open m w domain number q none, refl)))

pub reap_pending : (m t : State) (x : Ticket) → t ≡ counted m → IsIn x m.tickets → last_done m.iommu < x.wait
    → Does m (calls.Reap x.domain x.number) Pending t
unfolding Exact Becomes IsStep Stands Answers next
reap_pending m t x is inside ahead = record {
  steps = λ w q. (
    ((λ closed. closed (is_open m w x q inside), tt), inl refl),
    subst (λ s. Quarantine s w) (sym is) (quarantine_counted m w q),
  );
  exact = (x, inside, refl, refl, ahead);
  becomes = is;
  calls = ap (λ (y : State). y.calls) is;
}

-- ---- done

module _ (m : State) (x : Ticket) (i : ℕ) (h new : Domain) (pool : Pool) (released : ℕ) (whole : IsWhole m.pool.frames m)
    (inside : IsIn x m.tickets) (past : x.wait ≤ last_done m.iommu) (less : i < length m.domains) (id : x.domain ≡ i + 1)
    (there : domain_at m.domains x.domain ≡ Some h) (reaps : Reaps m.pool h x.number pool new)
    (count : released ≡ length (filter (was_before x.number) h.records)) where
  abbrev state_with : Domain → State
  state_with d = record {
    pool = pool;
    domains = slice_set m.domains i (Some d);
    iommu = m.iommu;
    tickets = filter (λ y. not (is_ticket x.domain x.number y)) m.tickets;
    calls = m.calls + 1;
  }

  place : x.domain - 1 ≡ i
  place = omega (arith, id)

  clear : (k : Record) → IsIn k h.records → k.mark < x.number → IsForgotten m.iommu.unit.caches (i + 1) k
  clear k k_in before =
      subst (λ d. IsForgotten m.iommu.unit.caches d k) id (done_clear m x whole.tickets inside past h there k k_in before)

  -- before the ticket is closed
  abbrev unclosed : Domain → State
  unclosed d = record (state_with d) { tickets = m.tickets }

  -- the world after it
  abbrev after : World → world.Domain → World
  after w v =
      without_ticket (told x.domain x.number) (record w { domains = put x.domain (Some (reaped x.number v)) w.domains })

  quarantined : (w : World) (v : world.Domain) → Quarantine m w → w.domains x.domain ≡ Some v → Quarantine (state_with new) (after w v)
  quarantined w v q here =
      let left : Domain = domain_after h new.space (left_by_reap x.number h) in
      let at_next : domain_at m.domains (i + 1) ≡ Some h = rw id at there in
      let changed : Quarantine (unclosed left) (record w { domains = put (i + 1) (Some (reaped x.number v)) w.domains }) =
      quarantine_unclosed m w q whole.places i less h v at_next (sym (ap w.domains id) ∙ here) x.number clear pool new.space
      reaps.releases in
      let at_id : Quarantine (unclosed left) (record w { domains = put x.domain (Some (reaped x.number v)) w.domains }) =
      subst (λ (d : ℕ). Quarantine (unclosed left) (record w { domains = put d (Some (reaped x.number v)) w.domains })) (sym id) changed in
      let closed : Quarantine (state_with left) (after w v) = quarantine_closed (unclosed left) _ x.domain x.number at_id in
      subst (λ (d : Domain). Quarantine (state_with d) (after w v)) (sym reaps.same) closed

  reap_does : Does m (calls.Reap x.domain x.number) (Reaped released) (state_with new)
  unfolding Exact Becomes IsStep Stands Answers next
  reap_does = record {
    steps = λ w q.
        let v = both_there m.pool.words (domain_at m.domains x.domain) (w.domains x.domain) h (q.domains x.domain) there in (
          (
            (λ closed. closed (is_open m w x q inside), tt),
            inr (rw v.1 (ap (λ (n : ℕ). Reaped n) (count ∙ count_gone x.number h.records v.0.retired v.2.ids.records))),
          ),
          rw v.1 (quarantined w v.0 q v.1),
        );
    exact = (x, inside, refl, refl, past);
    becomes = (h, new, there, reaps, rw place refl);
    calls = refl;
  }

  pub reap_did : Did m (calls.Reap x.domain x.number) (Reaped released) (state_with new)
  reap_did = record {
    does = reap_does;
    whole = whole_quiet m (state_with new) (calls.Reap x.domain x.number) (Reaped released) whole reap_does
        (length-set m.domains i (Some new)) refl refl refl refl;
  }
