-- What the tickets of a state keep, once the unit did the oldest descriptor.
use Rattle.std.proofs.Common.{◌≡◌, ◌+◌, inl, inr, List, [], ◌∷◌, ◌++◌, length, refl, sym, ap, subst, ◌∙◌, arith, append_assoc}
use Rattle.std.proofs.lemmas.List.{append-nil}
use Rattle.dmatypes.specs.World.{IsIn}
use Rattle.queue.specs.Ring.{Ring, ring_of}
use Rattle.unit.specs.Caches.{Caches}
use Rattle.unit.specs.Filters.{after_first, left_by, left_by_first}
use Rattle.vtdbits.specs.declared.descriptor.Descriptor.{Descriptor}
use Rattle.vtdbits.specs.declared.descriptor.Descriptor.TheVariants.{IotlbDomain}
use Rattle.engine.specs.declared.ticket.Ticket.{Ticket}
use Rattle.engine.specs.Ending.{left_by_all, status_of}
use Rattle.engine.specs.State.{State}
use Rattle.engine.specs.Tickets.{AreDifferent, Follow, IsClear, KeepsTickets, pairs_of, wait_of, waits_of}
use Rattle.engine.proofs.caches.Purged.{IsFewer, Purges, fewer_by_all, purges_by_all}
use Rattle.engine.proofs.lists.Membership.{in_either, in_left}
use Rattle.engine.proofs.tickets.Ageing.{AgeAll}
use Rattle.engine.proofs.tickets.Stay.{begun_stays, clear_purged, clear_stays, forgets_fewer, of_front, tickets_stay}

pub fewer_by_first : (ds : List Descriptor) (c : Caches) → IsFewer c (left_by_first ds c)
unfolding left_by_all
fewer_by_first [] c = fewer_by_all [] c
fewer_by_first (d ∷ ds) c = fewer_by_all (d ∷ []) c

purges_by_first : (d : Descriptor) (c : Caches) → Purges d c (left_by d c)
unfolding left_by_all
purges_by_first d c = purges_by_all d (d ∷ []) c (inl refl)

module _ (m t : State) (k : KeepsTickets m) (tickets : t.tickets ≡ m.tickets) (sent : t.iommu.sent ≡ m.iommu.sent) (ages : AgeAll m t)
    (ring : t.iommu.ring ≡ after_first m.iommu.ring.waiting m.iommu.ring.status m.iommu.ring.taken)
    (caches : t.iommu.unit.caches ≡ left_by_first m.iommu.ring.waiting m.iommu.unit.caches) where
  fewer : IsFewer m.iommu.unit.caches t.iommu.unit.caches
  fewer = subst (IsFewer m.iommu.unit.caches) (sym caches) (fewer_by_first m.iommu.ring.waiting m.iommu.unit.caches)

  left_ring : (ds : List Descriptor) → m.iommu.ring.waiting ≡ ds → t.iommu.ring ≡ after_first ds m.iommu.ring.status m.iommu.ring.taken
  left_ring ds is = ring ∙ ap (λ z. after_first z m.iommu.ring.status m.iommu.ring.taken) is

  front_clear : (x : Ticket) → IsIn x (k.done ++ k.half) → IsClear t x
  front_clear x inside =
      let all = of_front m k x inside in
      clear_stays m t x all ages (forgets_fewer m t fewer) (k.begun x all) (k.clear x inside)

  idle : m.iommu.ring.waiting ≡ [] → KeepsTickets t
  idle none =
      tickets_stay m t k tickets
      (left_ring [] none ∙ ap (λ ds. ring_of ds m.iommu.ring.status m.iommu.ring.taken) (sym none)) sent ages (forgets_fewer m t fewer)

  -- the descriptor of a ticket is taken
  descriptor_done : (x : Ticket) (xs : List Ticket) → k.half ≡ [] → k.ahead ≡ x ∷ xs
      → m.iommu.ring.waiting ≡ IotlbDomain x.domain ∷ wait_of x ∷ pairs_of xs → KeepsTickets t
  descriptor_done x xs none next waiting =
      let now = left_ring (IotlbDomain x.domain ∷ wait_of x ∷ pairs_of xs) waiting in
      let rest : k.half ++ k.ahead ≡ x ∷ xs = ap (λ ts. ts ++ k.ahead) none ∙ next in
      let left : t.iommu.unit.caches ≡ left_by (IotlbDomain x.domain) m.iommu.unit.caches =
      caches ∙ ap (λ ds. left_by_first ds m.iommu.unit.caches) waiting in
      record {
        done = k.done;
        half = x ∷ [];
        ahead = xs;
        reached = k.reached;
        split = tickets ∙ k.split ∙ ap (λ ts. k.done ++ ts) rest;
        one = omega arith;
        ring = ap (λ (r : Ring). r.waiting) now;
        status = ap (λ (r : Ring). r.status) now ∙ k.status;
        sent = subst (Follow k.reached (x ∷ xs)) (sym sent) (subst (λ ts. Follow k.reached ts m.iommu.sent) rest k.sent);
        past = k.past;
        clear = λ y inside. elim (in_either y x k.done inside) [
          | inl old ↦ front_clear y (in_left y k.done k.half old)
          | inr last ↦
              subst (IsClear t) (sym last)
              (clear_purged t m.iommu.unit.caches x
              (subst (Purges (IotlbDomain x.domain) m.iommu.unit.caches) (sym left)
              (purges_by_first (IotlbDomain x.domain) m.iommu.unit.caches)))
        ];
        different = subst AreDifferent (sym tickets) k.different;
        begun = λ y inside. let all = subst (IsIn y) tickets inside in begun_stays m t y all ages (k.begun y all);
        few = let many = ap length tickets in omega (arith, many, k.few);
      }

  -- its wait is done
  wait_done : (x : Ticket) → k.half ≡ x ∷ [] → m.iommu.ring.waiting ≡ wait_of x ∷ pairs_of k.ahead
      → (x.wait ≡ k.reached + 1) × Follow (k.reached + 1) k.ahead m.iommu.sent → KeepsTickets t
  unfolding pairs_of
  wait_done x half waiting follow =
      let now = left_ring (wait_of x ∷ pairs_of k.ahead) waiting in
      record {
        done = k.done ++ x ∷ [];
        half = [];
        ahead = k.ahead;
        reached = k.reached + 1;
        split = tickets ∙ k.split ∙ ap (λ ts. k.done ++ (ts ++ k.ahead)) half ∙ sym (append_assoc k.done (x ∷ []) k.ahead);
        one = omega arith;
        ring = ap (λ (r : Ring). r.waiting) now;
        status = ap (λ (r : Ring). r.status) now ∙ ap status_of follow.0;
        sent = subst (Follow (k.reached + 1) k.ahead) (sym sent) follow.1;
        past = λ y inside. elim (in_either y x k.done inside) [
          | inl old ↦ let was = k.past y old in omega (arith, was)
          | inr last ↦ let wait : y.wait ≡ x.wait = ap (λ (z : Ticket). z.wait) last in omega (arith, wait, follow.0)
        ];
        clear = λ y inside.
            front_clear y (subst (λ ts. IsIn y (k.done ++ ts)) (sym half) (subst (IsIn y) (append-nil (k.done ++ x ∷ [])) inside));
        different = subst AreDifferent (sym tickets) k.different;
        begun = λ y inside. let all = subst (IsIn y) tickets inside in begun_stays m t y all ages (k.begun y all);
        few = let many = ap length tickets in omega (arith, many, k.few);
      }

  by_parts : (half ahead : List Ticket) → k.half ≡ half → k.ahead ≡ ahead → KeepsTickets t
  unfolding pairs_of Follow
  by_parts [] [] none nothing = idle (k.ring ∙ ap (λ ts. waits_of ts ++ pairs_of k.ahead) none ∙ ap pairs_of nothing)
  by_parts [] (x ∷ xs) none next =
      descriptor_done x xs none next (k.ring ∙ ap (λ ts. waits_of ts ++ pairs_of k.ahead) none ∙ ap pairs_of next)
  by_parts (x ∷ []) ahead half all =
      wait_done x half (k.ring ∙ ap (λ ts. waits_of ts ++ pairs_of k.ahead) half)
      (subst (λ ts. Follow k.reached (ts ++ k.ahead) m.iommu.sent) half k.sent)
  by_parts (x ∷ y ∷ ts) ahead half all = let many = ap length half in absurd (omega (arith, many, k.one))

  -- the ring's first descriptor is the wait of the ticket whose descriptor was taken, or the descriptor of the next one
  pub tickets_stepped : KeepsTickets t
  tickets_stepped = by_parts k.half k.ahead refl refl
