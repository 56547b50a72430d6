-- What the tickets of a state keep, once one more is open.
use Rattle.std.proofs.Common.{◌≡◌, ◌+◌, ◌<◌, inl, inr, List, [], ◌∷◌, ◌++◌, Some, length, refl, sym, ap, subst, ◌∙◌}
use Rattle.std.proofs.Common.{append_assoc, arith}
use Rattle.std.proofs.lemmas.List.{length-append}
use Rattle.dmatypes.specs.World.{IsIn}
use Rattle.dmatypes.specs.declared.limits.TheConstants.{MOST_TICKETS}
use Rattle.vtdbits.specs.declared.descriptor.Descriptor.{Descriptor}
use Rattle.vtdbits.specs.declared.descriptor.Descriptor.TheVariants.{IotlbDomain}
use Rattle.engine.specs.declared.ticket.Ticket.{Ticket}
use Rattle.engine.specs.Domains.{Domain, domain_at}
use Rattle.engine.specs.State.{State}
use Rattle.engine.specs.Tickets.{AreDifferent, Follow, IsBegun, KeepsTickets, pairs_of, wait_of, waits_of}
use Rattle.engine.proofs.lists.Membership.{in_either}
use Rattle.engine.proofs.tickets.Ageing.{AgeAll}
use Rattle.engine.proofs.tickets.Stay.{begun_stays, clear_stays, follow_push, forgets_same, of_front}

pairs_push : (ts : List Ticket) (t : Ticket) → pairs_of (ts ++ t ∷ []) ≡ pairs_of ts ++ (IotlbDomain t.domain ∷ wait_of t ∷ [])
unfolding pairs_of
pairs_push [] t = refl
pairs_push (y ∷ ts) t = ap (λ (z : List Descriptor). IotlbDomain y.domain ∷ wait_of y ∷ z) (pairs_push ts t)

different_push : (ts : List Ticket) (t : Ticket) → AreDifferent ts
    → ((y : Ticket) → IsIn y ts → y.domain ≡ t.domain → y.number ≡ t.number → ⊥) → AreDifferent (ts ++ t ∷ [])
unfolding AreDifferent
different_push [] t all new = (λ u none. absurd none, tt)
different_push (y ∷ ts) t all new = (
  λ u inside domain number. elim (in_either u t ts inside) [
    | inl old ↦ all.0 u old domain number
    | inr last ↦
        new y (inl refl) (sym (sym (ap (λ (z : Ticket). z.domain) last) ∙ domain)) (sym (sym (ap (λ (z : Ticket). z.number) last) ∙ number))
  ],
  different_push ts t all.1 (λ z inside. new z (inr inside)),
)

pub tickets_begun : (m t : State) (x : Ticket) → KeepsTickets m → t.tickets ≡ m.tickets ++ x ∷ []
    → t.iommu.ring.waiting ≡ m.iommu.ring.waiting ++ (IotlbDomain x.domain ∷ wait_of x ∷ []) → t.iommu.ring.status ≡ m.iommu.ring.status
    → t.iommu.unit.caches ≡ m.iommu.unit.caches → t.iommu.sent ≡ m.iommu.sent + 1 → x.wait ≡ m.iommu.sent + 1 → AgeAll m t
    → length m.tickets < MOST_TICKETS → IsBegun t x
    → ((h : Domain) → domain_at m.domains x.domain ≡ Some h → h.begun < x.number) → KeepsTickets t
tickets_begun m t x k tickets ring status caches sent wait ages room here over = record {
  done = k.done;
  half = k.half;
  ahead = k.ahead ++ x ∷ [];
  reached = k.reached;
  split =
      tickets ∙ ap (λ z. z ++ x ∷ []) k.split ∙ append_assoc k.done (k.half ++ k.ahead) (x ∷ [])
      ∙ ap (λ z. k.done ++ z) (append_assoc k.half k.ahead (x ∷ []));
  one = k.one;
  ring =
      ring ∙ ap (λ z. z ++ (IotlbDomain x.domain ∷ wait_of x ∷ [])) k.ring
      ∙ append_assoc (waits_of k.half) (pairs_of k.ahead) (IotlbDomain x.domain ∷ wait_of x ∷ [])
      ∙ ap (λ z. waits_of k.half ++ z) (sym (pairs_push k.ahead x));
  status = status ∙ k.status;
  sent =
      subst (Follow k.reached (k.half ++ (k.ahead ++ x ∷ []))) (sym sent)
      (subst (λ ts. Follow k.reached ts (m.iommu.sent + 1)) (append_assoc k.half k.ahead (x ∷ []))
      (follow_push k.reached m.iommu.sent (k.half ++ k.ahead) x k.sent wait));
  past = k.past;
  clear = λ y inside.
      let all = of_front m k y inside in
      clear_stays m t y all ages (forgets_same m t caches) (k.begun y all) (k.clear y inside);
  different = subst AreDifferent (sym tickets) (different_push m.tickets x k.different (λ y inside domain number.
      let was = k.begun y inside in
      let less = over was.0 (ap (domain_at m.domains) (sym domain) ∙ was.1) in omega (arith, less, number, was.2)));
  begun = λ y inside. elim (in_either y x m.tickets (subst (IsIn y) tickets inside)) [
    | inl old ↦ begun_stays m t y old ages (k.begun y old)
    | inr last ↦ subst (IsBegun t) (sym last) here
  ];
  few = let many = ap length tickets in omega (arith, many, length-append m.tickets (x ∷ []), room);
}
