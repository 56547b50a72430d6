-- What the tickets of a state keep, call by call.
use Rattle.std.proofs.Common.{◌≡◌, ℕ, ◌+◌, ◌-◌, ◌≤◌, ◌<◌, inl, inr, List, [], ◌∷◌, ◌++◌, Some, None, length}
use Rattle.dmatypes.specs.declared.width.Width.{Width}
use Rattle.std.proofs.Common.{Bool, true, false, sym, ap, subst, ◌∙◌, append_assoc, arith, not, slice_set, ⊎_elim}
use Rattle.std.proofs.lemmas.Bool.{cases_lt}
use Rattle.std.proofs.lemmas.List.{length-map}
use Rattle.std.proofs.lemmas.Option.{same_Some}
use Rattle.dmatypes.proofs.histories.Maps.{put_same}
use Rattle.dmatypes.proofs.lists.Filtered.{in_filter}
use Rattle.dmatypes.specs.World.{World, IsIn}
use Rattle.dmatypes.specs.Conditions.{SomeHas, Stands}
use Rattle.dmatypes.specs.Page.{Range, range_at}
use Rattle.dmatypes.specs.Step.{Answers, IsStep}
use Rattle.dmatypes.specs.World as world
use Rattle.dmatypes.specs.declared.call.Call.{Call}
use Rattle.dmatypes.specs.declared.call.Call.TheVariants as calls
use Rattle.dmatypes.specs.declared.call.Mode.{Mode}
use Rattle.dmatypes.specs.declared.call.Mode.TheVariants.{Strict, Lazy}
use Rattle.dmatypes.specs.declared.limits.TheConstants.{MOST_DOMAINS, MOST_TICKETS}
use Rattle.dmatypes.specs.declared.reply.Reply.{Reply}
use Rattle.dmatypes.specs.declared.reply.Reply.TheVariants.{Made, Done, Mapped, Unmapped, Flushed, Stepped, Reaped, Refused}
use Rattle.unit.proofs.caches.Members.{without_leaf, without_non_leaf, without_context, without_fault}
use Rattle.vtdbits.specs.declared.descriptor.Descriptor.TheVariants.{ContextDevice, IotlbDomain, Wait}
use Rattle.engine.specs.declared.iommu.Iommu.{Iommu}
use Rattle.engine.specs.declared.record.Record.{Record}
use Rattle.engine.specs.Domains.{Domain, Operands, domain_at}
use Rattle.engine.specs.Ending.{ByMode, Invalidates, MakesRoom, PutsOff, SendsForMap, UnmapsStrictly, domain_shown, status_of, was_before}
use Rattle.engine.specs.State.{Becomes, Exact, State, begins, operands_in}
use Rattle.engine.specs.Quarantine.{Quarantine, ticket_there}
use Rattle.engine.specs.Tickets.{KeepsTickets}
use Rattle.engine.proofs.caches.Purged.{IsFewer}
use Rattle.engine.proofs.domains.OneChanged.{both_there, domain_low}
use Rattle.engine.proofs.lists.Membership.{in_either, in_mapped}
use Rattle.engine.proofs.lists.Places.{not_none}
use Rattle.engine.proofs.tickets.Ageing.{AgeAll, Ages, ages_fewer, none_ages, one_ages, others_age, set_at, some_id}
use Rattle.engine.proofs.tickets.Begun.{tickets_begun}
use Rattle.engine.proofs.tickets.Requested.{request_forgets}
use Rattle.engine.proofs.tickets.Closed.{tickets_closed}
use Rattle.engine.proofs.tickets.Stay.{forgets_fewer, forgets_same, tickets_done, tickets_stay}
use Rattle.engine.proofs.tickets.UnitStep.{tickets_stepped}

-- ---- a domain after an unmap

module _ (old : Operands) (id released : ℕ) (range : Range) (new : Operands) where
  roomy_begun : (roomy : Operands) → MakesRoom old id released roomy → roomy.domain.begun ≡ old.domain.begun
  roomy_begun roomy (inl has) = ap (λ (p : Operands). p.domain.begun) has.same
  roomy_begun roomy (inr empties) = ap (λ (h : Domain). h.begun) empties.flushes.same

  roomy_fewer : (roomy : Operands) → MakesRoom old id released roomy → (r : Record) → IsIn r roomy.domain.records
      → IsIn r old.domain.records
  roomy_fewer roomy (inl has) r inside = subst (λ (p : Operands). IsIn r p.domain.records) has.same inside
  roomy_fewer roomy (inr empties) r inside = absurd (subst (λ (h : Domain). IsIn r h.records) empties.flushes.same inside)

  unmap_ages : (mode : Mode) → ByMode mode ((released ≡ 0) × UnmapsStrictly old id range new) (PutsOff old id range released new)
      → Ages old.domain new.domain
  unmap_ages Strict does =
      ages_fewer old.domain new.domain
      (ap (λ (h : Domain). h.begun) does.1.same ∙ ap (λ (h : Domain). h.begun) does.1.retires.same)
      (λ r inside. subst (IsIn r) (ap (λ (h : Domain). h.records) does.1.same ∙ ap (λ (h : Domain). h.records) does.1.retires.same) inside)
  unmap_ages Lazy does =
      let begun : new.domain.begun ≡ old.domain.begun =
      ap (λ (h : Domain). h.begun) does.last ∙ ap (λ (h : Domain). h.begun) does.retires.same ∙ roomy_begun does.roomy does.room in
      let same : new.domain.records ≡ does.roomy.domain.records ++ does.retired ∷ [] =
      ap (λ (h : Domain). h.records) does.last ∙ ap (λ (h : Domain). h.records ++ does.retired ∷ []) does.retires.same in
      record {
        begun = omega (arith, begun);
        few = omega (arith, begun);
        records = λ r inside. elim (in_either r does.retired does.roomy.domain.records (subst (IsIn r) same inside)) [
          | inl earlier ↦ inl (roomy_fewer does.roomy does.room r earlier)
          | inr last ↦
              let mark : r.mark ≡ does.roomy.domain.begun = ap (λ (x : Record). x.mark) last ∙ does.retires.mark in
              let was = roomy_begun does.roomy does.room in
              inr (omega (arith, mark, was))
        ];
      }

-- ---- all calls

some_has : (d : ℕ) (x : world.Ticket) (ts : List world.Ticket) → IsIn x ts → x.domain ≡ d → SomeHas (λ t. t.domain ≡ d) ts
some_has d x [] inside is = absurd inside
some_has d x (t ∷ ts) (inl same) is = inl (ap (λ (y : world.Ticket). y.domain) (sym same) ∙ is)
some_has d x (t ∷ ts) (inr rest) is = inr (some_has d x ts rest is)

made_id : (a b : ℕ) → Made a ≡ Made b → a ≡ b
made_id a b same = cc

module _ (m t : State) (w : World) (q : Quarantine m w) (many : length m.domains ≡ MOST_DOMAINS) (k : KeepsTickets m) where
  calm : t.iommu ≡ m.iommu → t.tickets ≡ m.tickets → AgeAll m t → KeepsTickets t
  calm iommu tickets ages =
      tickets_stay m t k tickets (ap (λ (x : Iommu). x.ring) iommu) (ap (λ (x : Iommu). x.sent) iommu) ages
      (forgets_same m t (ap (λ (x : Iommu). x.unit.caches) iommu))

  only_counted : t ≡ record m { calls = m.calls + 1 } → KeepsTickets t
  only_counted is =
      calm (ap (λ (x : State). x.iommu) is) (ap (λ (x : State). x.tickets) is) (none_ages m t (ap (λ (x : State). x.domains) is))

  -- a domain that is made is none of a ticket
  made_ages : (mode : Mode) (width : Width) (d : ℕ) (new : Domain) → Answers w (calls.Domain mode width) (Made d)
      → t.domains ≡ slice_set m.domains (d - 1) (Some new) → AgeAll m t
  unfolding Answers
  made_ages mode width d new (e, unused, same) is x inside h there =
      let v = both_there m.pool.words (domain_at m.domains x.domain) (w.domains x.domain) h (q.domains x.domain) there in
      let id : d ≡ e = made_id d e same in
      others_age m t d (Some new) many (omega (arith, id, unused.0)) (omega (arith, id, unused.1)) is x
      (λ this. not_none (w.domains e) v.0 (ap w.domains (sym id ∙ sym this) ∙ v.1) unused.2) h there

  -- and so is one that is dropped
  dropped_ages : (d : ℕ) (old : Domain) → domain_at m.domains d ≡ Some old → (SomeHas (λ t. t.domain ≡ d) w.tickets → ⊥)
      → t.domains ≡ slice_set m.domains (d - 1) None → AgeAll m t
  dropped_ages d old here none is x inside h there =
      let high : d < MOST_DOMAINS + 1 = domain_low m.domains d old many here in
      others_age m t d None many (some_id m.domains d old here) (omega (arith, high)) is x
      (λ this. none (some_has d (ticket_there x) w.tickets
      (subst (IsIn (ticket_there x)) (sym q.tickets) (in_mapped ticket_there x m.tickets inside)) this)) h there

  unmap_tickets : (domain released : ℕ) (range : Range) (h new : Domain) → t.tickets ≡ m.tickets → AgeAll m t → (mode : Mode)
      → ByMode mode ((released ≡ 0) × UnmapsStrictly (operands_in m h) domain range (operands_in t new))
      (PutsOff (operands_in m h) domain range released (operands_in t new)) → KeepsTickets t
  unmap_tickets domain released range h new tickets ages Strict does =
      tickets_done m t k m.iommu.contexts does.1.descriptor does.1.invalidates ages tickets
  unmap_tickets domain released range h new tickets ages Lazy does = elim does.room [
    | inl has ↦ calm (does.quiet ∙ ap (λ (p : Operands). p.iommu) has.same) tickets ages
    | inr empties ↦
        tickets_done m t k m.iommu.contexts (IotlbDomain domain)
        (subst (λ (y : Iommu). Invalidates m.iommu (IotlbDomain domain) (domain_shown m.pool h) y) (sym does.quiet)
        empties.flushes.invalidates) ages tickets
  ]

  map_tickets : (domain root : ℕ) (range : Range) (caching : Bool) → SendsForMap caching m.iommu domain root range t.iommu
      → t.tickets ≡ m.tickets → AgeAll m t → KeepsTickets t
  map_tickets domain root range false sends tickets ages = calm sends tickets ages
  map_tickets domain root range true (d, is, sends) tickets ages = tickets_done m t k m.iommu.contexts d sends ages tickets

  -- no call that is refused, and none but these, changes more than the count of calls
  pub tickets_kept : (call : Call) (reply : Reply) → IsStep w call reply × Exact m call reply → Becomes m call reply t → KeepsTickets t
  unfolding Becomes Exact IsStep Stands
  tickets_kept (calls.Domain mode width) (Made d) step (root, takes, is) =
      calm (ap (λ (x : State). x.iommu) is) (ap (λ (x : State). x.tickets) is)
      (made_ages mode width d _ step.0.1 (ap (λ (x : State). x.domains) is))
  tickets_kept (calls.Domain mode width) _ step is = only_counted is
  tickets_kept (calls.Attach device domain) Done step (h, there, is) =
      tickets_stay m t k (ap (λ (x : State). x.tickets) is) (ap (λ (x : State). x.iommu.ring) is) (ap (λ (x : State). x.iommu.sent) is)
      (none_ages m t (ap (λ (x : State). x.domains) is)) (forgets_same m t (ap (λ (x : State). x.iommu.unit.caches) is))
  tickets_kept (calls.Attach device domain) _ step is = only_counted is
  tickets_kept (calls.Drop domain) Done step (h, there, closes, is) =
      tickets_done m t k m.iommu.contexts (IotlbDomain domain)
      (subst (λ (y : Iommu). Invalidates m.iommu (IotlbDomain domain) (domain_shown m.pool h) y) (sym closes.quiet)
      closes.flushes.invalidates)
      (dropped_ages domain h there (λ some. step.0.0.1.0 (inr some)) (ap (λ (x : State). x.domains) is)) (ap (λ (x : State). x.tickets) is)
  tickets_kept (calls.Drop domain) _ step is = only_counted is
  tickets_kept (calls.Detach device) Done step (domain, root, width, at, sends, is) =
      tickets_done m t k _ (ContextDevice domain device) sends (none_ages m t (ap (λ (x : State). x.domains) is))
      (ap (λ (x : State). x.tickets) is)
  tickets_kept (calls.Detach device) _ step is = only_counted is
  tickets_kept (calls.Map domain frame pages order rights) (Mapped address) step (h, new, there, places, sends, is) =
      map_tickets domain h.root _ m.iommu.unit.caching sends (ap (λ (x : State). x.tickets) is)
      (one_ages m t domain h new many there (ap (λ (x : State). x.domains) is)
      (ages_fewer h new (ap (λ (x : Domain). x.begun) places.same)
      (λ r inside. subst (IsIn r) (ap (λ (x : Domain). x.records) places.same) inside)))
  tickets_kept (calls.Map domain frame pages order rights) _ step is = only_counted is
  tickets_kept (calls.MapList domain order rights segments) (Mapped address) step (h, new, there, places, sends, is) =
      map_tickets domain h.root _ m.iommu.unit.caching sends (ap (λ (x : State). x.tickets) is)
      (one_ages m t domain h new many there (ap (λ (x : State). x.domains) is)
      (ages_fewer h new (ap (λ (x : Domain). x.begun) places.same)
      (λ r inside. subst (IsIn r) (ap (λ (x : Domain). x.records) places.same) inside)))
  tickets_kept (calls.MapList domain order rights segments) _ step is = only_counted is
  tickets_kept (calls.Flush domain) (Flushed released) step (h, new, there, flushes, is) =
      tickets_done m t k m.iommu.contexts (IotlbDomain domain) flushes.invalidates
      (one_ages m t domain h new many there (ap (λ (x : State). x.domains) is)
      (ages_fewer h new (ap (λ (x : Domain). x.begun) flushes.same)
      (λ r inside. absurd (subst (IsIn r) (ap (λ (x : Domain). x.records) flushes.same) inside)))) (ap (λ (x : State). x.tickets) is)
  tickets_kept (calls.Flush domain) _ step is = only_counted is
  tickets_kept (calls.Unmap domain address pages) (Unmapped released) step (h, new, there, ends, is) =
      unmap_tickets domain released (range_at address pages) h new (ap (λ (x : State). x.tickets) is)
      (one_ages m t domain h new many there (ap (λ (x : State). x.domains) is)
      (unmap_ages (operands_in m h) domain released (range_at address pages) (operands_in t new) h.mode ends)) h.mode ends
  tickets_kept (calls.Unmap domain address pages) _ step is = only_counted is
  tickets_kept (calls.Begin domain) (Reply.Ticket other number) step (h, there, new, id, sends, is) =
      let one : t.iommu.sent ≡ m.iommu.sent + 1 = ap (λ (x : Iommu). x.sent) sends in
      let domains = ap (λ (x : State). x.domains) is in
      let ages : AgeAll m t = one_ages m t domain h (begins h) many there domains
      (record { begun = omega arith; few = omega arith; records = λ r inside. inl inside }) in
      let high : domain < MOST_DOMAINS + 1 = domain_low m.domains domain h many there in
      tickets_begun m t (record { domain = domain; number = number; wait = t.iommu.sent }) k (ap (λ (x : State). x.tickets) is)
      (ap (λ (x : Iommu). x.ring.waiting) sends
      ∙ append_assoc m.iommu.ring.waiting (IotlbDomain domain ∷ []) (Wait (status_of (m.iommu.sent + 1)) ∷ [])
      ∙ ap (λ n. m.iommu.ring.waiting ++ (IotlbDomain domain ∷ Wait (status_of n) ∷ [])) (sym one))
      (ap (λ (x : Iommu). x.ring.status) sends) (ap (λ (x : Iommu). x.unit.caches) sends) one one ages
      (let count : length w.tickets ≡ length m.tickets =
      ap (λ (ts : List world.Ticket). length ts) q.tickets ∙ length-map m.tickets ticket_there in
      ⊎_elim (λ (less : length m.tickets < MOST_TICKETS). less) (λ (full : MOST_TICKETS ≤ length m.tickets).
      absurd (step.0.0.1.0 (omega (arith, full, count)))) (cases_lt (length m.tickets) MOST_TICKETS)) (
        begins h,
        ap (λ ds. domain_at ds domain) domains ∙ set_at m.domains domain domain (Some (begins h)) many
            (some_id m.domains domain h there) (omega (arith, high)) ∙ put_same domain (Some (begins h)) (domain_at m.domains),
        omega (arith, new),
      )
      (λ g at. let same : g.begun ≡ h.begun = ap (λ (x : Domain). x.begun) (same_Some g h (sym at ∙ there)) in omega (arith, same, new))
  tickets_kept (calls.Begin domain) _ step is = only_counted is
  tickets_kept calls.Unit (Stepped progress) step is =
      tickets_stepped m t k (ap (λ (x : State). x.tickets) is) (ap (λ (x : State). x.iommu.sent) is)
      (none_ages m t (ap (λ (x : State). x.domains) is)) (ap (λ (x : State). x.iommu.ring) is)
      (ap (λ (x : State). x.iommu.unit.caches) is)
  tickets_kept calls.Unit _ step is = only_counted is
  tickets_kept (calls.Reap domain number) (Reaped released) step (h, new, there, reaps, is) =
      tickets_closed m t domain number k step.1 (ap (λ (x : State). x.tickets) is) (ap (λ (x : State). x.iommu) is)
      (one_ages m t domain h new many there (ap (λ (x : State). x.domains) is)
      (ages_fewer h new (ap (λ (x : Domain). x.begun) reaps.same)
      (λ r inside. (in_filter (λ x. not (was_before number x)) r h.records
      (subst (IsIn r) (ap (λ (x : Domain). x.records) reaps.same) inside)).0)))
  tickets_kept (calls.Reap domain number) _ step is = only_counted is
  tickets_kept (calls.Dma device address access whim) (Refused refusal) step is = only_counted is
  tickets_kept (calls.Dma device address access whim) _ step (answer, reached, answers, filled, is) =
      tickets_stay m t k (ap (λ (x : State). x.tickets) is) (ap (λ (x : State). x.iommu.ring) is) (ap (λ (x : State). x.iommu.sent) is)
      (none_ages m t (ap (λ (x : State). x.domains) is))
      (request_forgets m t w q many whim.look whim.fill device address access answer answers)
  tickets_kept (calls.Evict kind place) Done step is =
      let unit : t.iommu.unit.caches ≡ _ = ap (λ (x : State). x.iommu.unit.caches) is in
      tickets_stay m t k (ap (λ (x : State). x.tickets) is) (ap (λ (x : State). x.iommu.ring) is) (ap (λ (x : State). x.iommu.sent) is)
      (none_ages m t (ap (λ (x : State). x.domains) is))
      (forgets_fewer m t (subst (IsFewer m.iommu.unit.caches) (sym unit) (record {
        leaves = without_leaf kind place m.iommu.unit.caches;
        tables = without_non_leaf kind place m.iommu.unit.caches;
        contexts = without_context kind place m.iommu.unit.caches;
        faults = without_fault kind place m.iommu.unit.caches;
      })))
  tickets_kept (calls.Evict kind place) _ step is = only_counted is
