-- What the tickets of a state keep, once one that is done is closed.
use Rattle.std.proofs.Common.{◌≡◌, ℕ, ◌+◌, ◌-◌, ◌%◌, ◌^◌, ◌<◌, ◌≤◌, ◌==◌, ◌&&◌, inl, inr, Bool, true, false, cond, not, List, [], ◌∷◌}
use Rattle.std.proofs.Common.{◌++◌, length, refl, sym, ap, subst, ◌∙◌, arith, filter}
use Rattle.std.proofs.lemmas.Bool.{eqb-true}
use Rattle.std.proofs.lemmas.List.{length-append}
use Rattle.std.proofs.lemmas.List.Elements.{filter-append}
use Rattle.std.proofs.lemmas.List.Filters.{length-filter_both}
use Rattle.dmatypes.specs.World.{IsIn}
use Rattle.dmatypes.proofs.lists.Filtered.{in_filter}
use Rattle.engine.specs.declared.iommu.Iommu.{Iommu}
use Rattle.engine.specs.declared.ticket.Ticket.{Ticket}
use Rattle.engine.specs.Ending.{status_of}
use Rattle.engine.specs.Ready.{last_done}
use Rattle.engine.specs.State.{SomeTicket, State, is_ticket}
use Rattle.engine.specs.Tickets.{AreDifferent, Follow, KeepsTickets}
use Rattle.engine.proofs.lists.Membership.{in_left, in_right}
use Rattle.engine.proofs.tickets.Ageing.{AgeAll}
use Rattle.engine.proofs.tickets.Stay.{begun_stays, clear_stays, follow_length, follow_within, forgets_same, in_parts, of_front}

-- ---- lists

-- where each passes, all are left
all_pass : {X : Type 0} (p : X → Bool) (xs : List X) → ((x : X) → IsIn x xs → p x ≡ true) → filter p xs ≡ xs
all_pass p [] passes = refl
all_pass p (x ∷ xs) passes =
    ap (λ b. cond b (x ∷ filter p xs) (filter p xs)) (passes x (inl refl))
    ∙ ap (λ ys. x ∷ ys) (all_pass p xs (λ y inside. passes y (inr inside)))

different_filter : (p : Ticket → Bool) (ts : List Ticket) → AreDifferent ts → AreDifferent (filter p ts)
unfolding AreDifferent
different_filter p [] all = tt
different_filter p (t ∷ ts) all = by_test (p t) (different_filter p ts all.1)
  where
    by_test : (b : Bool) → AreDifferent (filter p ts) → AreDifferent (cond b (t ∷ filter p ts) (filter p ts))
    by_test true rest = (λ u inside. all.0 u (in_filter p u ts inside).0, rest)
    by_test false rest = rest

different_parts : (xs ys : List Ticket) (x y : Ticket) → AreDifferent (xs ++ ys) → IsIn x xs → IsIn y ys → y.domain ≡ x.domain
    → y.number ≡ x.number → ⊥
unfolding AreDifferent
different_parts [] ys x y all left right domain number = absurd left
different_parts (z ∷ xs) ys x y all (inl same) right domain number =
    all.0 y (in_right y xs ys right) (domain ∙ ap (λ (t : Ticket). t.domain) same) (number ∙ ap (λ (t : Ticket). t.number) same)
different_parts (z ∷ xs) ys x y all (inr rest) right domain number = different_parts xs ys x y all.1 rest right domain number

-- one that isn't of the domain and number passes
other_passes : (domain number : ℕ) (x : Ticket) → (domain ≡ x.domain → number ≡ x.number → ⊥) → not (is_ticket domain number x) ≡ true
other_passes domain number x other = by_domain (domain == x.domain) (number == x.number) refl refl
  where
    by_domain : (a b : Bool) → (domain == x.domain) ≡ a → (number == x.number) ≡ b → not (a && b) ≡ true
    by_domain true true same also = absurd (other (eqb-true domain x.domain same) (eqb-true number x.number also))
    by_domain true false same also = refl
    by_domain false b same also = refl

-- ---- the last one that is done

last_is : (first last many : ℕ) → first + many ≡ last → many < 2 ^ 32
    → last - (status_of last + 2 ^ 32 - status_of first) % 2 ^ 32 ≡ first
last_is first last many sum few = omega (arith, sum, few)

-- ---- a ticket is closed

module _ (m : State) (k : KeepsTickets m) where
  pub last_done_is : last_done m.iommu ≡ k.reached
  last_done_is =
      let many = follow_length k.reached m.iommu.sent (k.half ++ k.ahead) k.sent in
      let split = ap length k.split in
      ap (λ s. m.iommu.sent - (status_of m.iommu.sent + 2 ^ 32 - s) % 2 ^ 32) k.status
      ∙ last_is k.reached m.iommu.sent (length (k.half ++ k.ahead)) many
      (omega (arith, split, length-append k.done (k.half ++ k.ahead), k.few))

  -- one whose wait isn't done is another
  later_is_other : (domain number : ℕ) → SomeTicket m domain number (λ x. x.wait ≤ last_done m.iommu) → (x : Ticket)
      → IsIn x (k.half ++ k.ahead) → domain ≡ x.domain → number ≡ x.number → ⊥
  later_is_other domain number (y, inside, of_domain, of_number, past) x later domain_too number_too =
      elim (in_parts y k.done (k.half ++ k.ahead) (subst (IsIn y) k.split inside)) [
        | inl done ↦
            different_parts k.done (k.half ++ k.ahead) y x (subst AreDifferent k.split k.different) done later
            (sym (of_domain ∙ domain_too)) (sym (of_number ∙ number_too))
        | inr waits ↦
            let above = (follow_within k.reached m.iommu.sent (k.half ++ k.ahead) y k.sent waits).0 in
            absurd (omega (arith, above, past, last_done_is))
      ]

pub tickets_closed : (m t : State) (domain number : ℕ) → KeepsTickets m → SomeTicket m domain number (λ x. x.wait ≤ last_done m.iommu)
    → t.tickets ≡ filter (λ x. not (is_ticket domain number x)) m.tickets → t.iommu ≡ m.iommu → AgeAll m t → KeepsTickets t
tickets_closed m t domain number k closed tickets iommu ages = record {
  done = filter others k.done;
  half = k.half;
  ahead = k.ahead;
  reached = k.reached;
  split =
      tickets ∙ ap (filter others) k.split ∙ filter-append others k.done (k.half ++ k.ahead)
      ∙ ap (λ ts. filter others k.done ++ ts)
      (all_pass others (k.half ++ k.ahead)
      (λ x inside. other_passes domain number x (later_is_other m k domain number closed x inside)));
  one = k.one;
  ring = ap (λ (x : Iommu). x.ring.waiting) iommu ∙ k.ring;
  status = ap (λ (x : Iommu). x.ring.status) iommu ∙ k.status;
  sent = subst (Follow k.reached (k.half ++ k.ahead)) (sym (ap (λ (x : Iommu). x.sent) iommu)) k.sent;
  past = λ x inside. k.past x (in_filter others x k.done inside).0;
  clear = λ x inside.
      let front = still x inside in
      let all = of_front m k x front in
      clear_stays m t x all ages (forgets_same m t (ap (λ (x : Iommu). x.unit.caches) iommu)) (k.begun x all) (k.clear x front);
  different = subst AreDifferent (sym tickets) (different_filter others m.tickets k.different);
  begun = λ x inside.
      let all = (in_filter others x m.tickets (subst (IsIn x) tickets inside)).0 in begun_stays m t x all ages (k.begun x all);
  few =
      let many = ap length tickets in
      let left = length-filter_both others (λ x. not (others x)) (λ x. refl) m.tickets in
      omega (arith, many, left, k.few);
}
  where
    others : Ticket → Bool
    others x = not (is_ticket domain number x)

    still : (x : Ticket) → IsIn x (filter others k.done ++ k.half) → IsIn x (k.done ++ k.half)
    still x inside = elim (in_parts x (filter others k.done) k.half inside) [
      | inl done ↦ in_left x k.done k.half (in_filter others x k.done done).0
      | inr half ↦ in_right x k.done k.half half
    ]
