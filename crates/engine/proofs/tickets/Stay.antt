-- What the tickets of a state keep, after a call that leaves the ring alone, and after one whose wait is done.
use Rattle.std.proofs.Common.{◌≡◌, ℕ, ◌+◌, ◌<◌, ◌≤◌, ◌⊎◌, inl, inr, List, [], ◌∷◌, ◌++◌, Option, Some, length, refl, sym, ap, subst, ◌∙◌}
use Rattle.std.proofs.Common.{append_assoc, arith}
use Rattle.std.proofs.lemmas.List.{append-nil}
use Rattle.std.proofs.lemmas.Option.{same_Some}
use Rattle.dmatypes.specs.World.{IsIn}
use Rattle.queue.specs.Ring.{Ring}
use Rattle.unit.specs.Caches.{Caches}
use Rattle.vtdbits.specs.declared.context.ContextEntry.{ContextEntry}
use Rattle.vtdbits.specs.declared.descriptor.Descriptor.{Descriptor}
use Rattle.vtdbits.specs.declared.descriptor.Descriptor.TheVariants.{IotlbDomain, Wait}
use Rattle.engine.specs.declared.iommu.Shown.{Shown}
use Rattle.engine.specs.declared.record.Record.{Record}
use Rattle.engine.specs.declared.ticket.Ticket.{Ticket}
use Rattle.engine.specs.Domains.{Domain, domain_at}
use Rattle.engine.specs.Ending.{Invalidates, status_of}
use Rattle.engine.specs.State.{State}
use Rattle.engine.specs.Tickets.{AreDifferent, Follow, IsBegun, IsClear, IsForgotten, KeepsTickets, pairs_of, waits_of}
use Rattle.engine.proofs.caches.Purged.{IsFewer, Purges, fewer_by_all, purges_by_all}
use Rattle.engine.proofs.flushes.OneByOne.{dropped_leaf, dropped_table}
use Rattle.engine.proofs.lists.Membership.{in_left, in_right}
use Rattle.engine.proofs.tickets.Ageing.{AgeAll}

-- ---- lists

pub in_parts : {X : Type 0} (x : X) (xs ys : List X) → IsIn x (xs ++ ys) → IsIn x xs ⊎ IsIn x ys
in_parts x [] ys inside = inr inside
in_parts x (z ∷ zs) ys (inl same) = inl (inl same)
in_parts x (z ∷ zs) ys (inr rest) = elim (in_parts x zs ys rest) [
  | inl left ↦ inl (inr left)
  | inr right ↦ inr right
]

pub follow_length : (first last : ℕ) (ts : List Ticket) → Follow first ts last → first + length ts ≡ last
unfolding Follow
follow_length first last [] is = omega (arith, is)
follow_length first last (t ∷ ts) (one, rest) = let k = follow_length (first + 1) last ts rest in omega (arith, k)

pub follow_within : (first last : ℕ) (ts : List Ticket) (x : Ticket) → Follow first ts last → IsIn x ts → (first < x.wait) × (x.wait ≤ last)
unfolding Follow
follow_within first last [] x is inside = absurd inside
follow_within first last (t ∷ ts) x (one, rest) (inl same) =
    let wait : x.wait ≡ t.wait = ap (λ (y : Ticket). y.wait) same in
    let many = follow_length (first + 1) last ts rest in
    (omega (arith, wait, one), omega (arith, wait, one, many))
follow_within first last (t ∷ ts) x (one, rest) (inr later) =
    let k = follow_within (first + 1) last ts x rest later in (omega (arith, k.0), k.1)

pub follow_push : (first last : ℕ) (ts : List Ticket) (t : Ticket) → Follow first ts last → t.wait ≡ last + 1
    → Follow first (ts ++ t ∷ []) (last + 1)
unfolding Follow
follow_push first last [] t is wait = (omega (arith, is, wait), omega (arith, is))
follow_push first last (x ∷ xs) t (one, rest) wait = (one, follow_push (first + 1) last xs t rest wait)

in_pairs : (t : Ticket) (ts : List Ticket) → IsIn t ts → IsIn (IotlbDomain t.domain) (pairs_of ts)
unfolding pairs_of
in_pairs t [] inside = absurd inside
in_pairs t (x ∷ xs) (inl same) = inl (ap (λ (y : Ticket). IotlbDomain y.domain) same)
in_pairs t (x ∷ xs) (inr rest) = inr (inr (in_pairs t xs rest))

-- ---- what is forgotten stays so

pub fewer_forgets : (c c' : Caches) (d : ℕ) (r : Record) → IsFewer c c' → IsForgotten c d r → IsForgotten c' d r
fewer_forgets c c' d r fewer is = record {
  leaves = λ l inside. is.leaves l (fewer.leaves l inside);
  tables = λ i inside. is.tables i (fewer.tables i inside);
}

-- of the records of all domains
abbrev pub Forgets : State → State → Type 0
Forgets m t =
    (d : ℕ) (h : Domain) → domain_at m.domains d ≡ Some h → (r : Record) → IsIn r h.records → IsForgotten m.iommu.unit.caches d r
    → IsForgotten t.iommu.unit.caches d r

pub forgets_fewer : (m t : State) → IsFewer m.iommu.unit.caches t.iommu.unit.caches → Forgets m t
forgets_fewer m t fewer d h there r inside is = fewer_forgets m.iommu.unit.caches t.iommu.unit.caches d r fewer is

pub forgets_same : (m t : State) → t.iommu.unit.caches ≡ m.iommu.unit.caches → Forgets m t
forgets_same m t same d h there r inside is = subst (λ (c : Caches). IsForgotten c d r) (sym same) is

pub clear_stays : (m t : State) (x : Ticket) → IsIn x m.tickets → AgeAll m t → Forgets m t → IsBegun m x → IsClear m x → IsClear t x
clear_stays m t x inside ages forgets (h, there, le) clear h' there' r r_in less =
    let k = ages x inside h there in
    let same : k.0 ≡ h' = same_Some k.0 h' (sym k.1 ∙ there') in
    elim (k.2.records r (subst (λ (y : Domain). IsIn r y.records) (sym same) r_in)) [
      | inl old ↦ forgets x.domain h there r old (clear h there r old less)
      | inr late ↦ absurd (omega (arith, less, late, le))
    ]

pub begun_stays : (m t : State) (x : Ticket) → IsIn x m.tickets → AgeAll m t → IsBegun m x → IsBegun t x
begun_stays m t x inside ages (h, there, le) = let k = ages x inside h there in (k.0, k.1, omega (arith, le, k.2.begun))

-- once the unit did the descriptor of the ticket's domain, whatever records there are
pub clear_purged : (t : State) (c : Caches) (x : Ticket) → Purges (IotlbDomain x.domain) c t.iommu.unit.caches → IsClear t x
clear_purged t c x purges h there r inside less = record {
  leaves = λ l l_in same p low high within. dropped_leaf x.domain l same (purges.leaves l l_in).1;
  tables = λ i i_in same. absurd (dropped_table x.domain i same (purges.tables i i_in).1);
}

-- ---- the parts of the list

module _ (m : State) (k : KeepsTickets m) where
  pub of_front : (x : Ticket) → IsIn x (k.done ++ k.half) → IsIn x m.tickets
  of_front x inside =
      subst (IsIn x) (append_assoc k.done k.half k.ahead ∙ sym k.split) (in_left x (k.done ++ k.half) k.ahead inside)

  pub of_ahead : (x : Ticket) → IsIn x k.ahead → IsIn x m.tickets
  of_ahead x inside = subst (IsIn x) (sym k.split) (in_right x k.done (k.half ++ k.ahead) (in_right x k.half k.ahead inside))

  pub all_sent : (x : Ticket) → IsIn x m.tickets → x.wait ≤ m.iommu.sent
  all_sent x inside = elim (in_parts x k.done (k.half ++ k.ahead) (subst (IsIn x) k.split inside)) [
    | inl done ↦ omega (arith, k.past x done, follow_length k.reached m.iommu.sent (k.half ++ k.ahead) k.sent)
    | inr later ↦ (follow_within k.reached m.iommu.sent (k.half ++ k.ahead) x k.sent later).1
  ]

-- ---- a call that leaves the ring alone

pub tickets_stay : (m t : State) → KeepsTickets m → t.tickets ≡ m.tickets → t.iommu.ring ≡ m.iommu.ring → t.iommu.sent ≡ m.iommu.sent
    → AgeAll m t → Forgets m t → KeepsTickets t
tickets_stay m t k tickets ring sent ages forgets = record {
  done = k.done;
  half = k.half;
  ahead = k.ahead;
  reached = k.reached;
  split = tickets ∙ k.split;
  one = k.one;
  ring = ap (λ (r : Ring). r.waiting) ring ∙ k.ring;
  status = ap (λ (r : Ring). r.status) ring ∙ k.status;
  sent = subst (Follow k.reached (k.half ++ k.ahead)) (sym sent) k.sent;
  past = k.past;
  clear = λ x inside.
      let all = of_front m k x inside in clear_stays m t x all ages forgets (k.begun x all) (k.clear x inside);
  different = subst AreDifferent (sym tickets) k.different;
  begun = λ x inside. let all = subst (IsIn x) tickets inside in begun_stays m t x all ages (k.begun x all);
  few = let many = ap length tickets in omega (arith, many, k.few);
}

-- ---- a call that sends a descriptor and a wait, and ends once the unit did both

module _ (m t : State) (k : KeepsTickets m) (row : List ContextEntry) (d : Descriptor) {seen : Option Shown}
    (sends : Invalidates (record m.iommu { contexts = row }) d seen t.iommu) (ages : AgeAll m t) where
  ran : List Descriptor
  ran = m.iommu.ring.waiting ++ d ∷ Wait (status_of t.iommu.sent) ∷ []

  fewer : IsFewer m.iommu.unit.caches t.iommu.unit.caches
  unfolding ran
  fewer = subst (IsFewer m.iommu.unit.caches) (sym sends.caches) (fewer_by_all ran m.iommu.unit.caches)

  did_ahead : (x : Ticket) → IsIn x k.ahead → IsIn (IotlbDomain x.domain) ran
  unfolding ran
  did_ahead x inside =
      in_left (IotlbDomain x.domain) m.iommu.ring.waiting (d ∷ Wait (status_of t.iommu.sent) ∷ [])
      (subst (IsIn (IotlbDomain x.domain)) (sym k.ring) (in_right (IotlbDomain x.domain) (waits_of k.half) (pairs_of k.ahead)
      (in_pairs x k.ahead inside)))

  purged : (x : Ticket) → IsIn x k.ahead → Purges (IotlbDomain x.domain) m.iommu.unit.caches t.iommu.unit.caches
  unfolding ran
  purged x inside =
      subst (Purges (IotlbDomain x.domain) m.iommu.unit.caches) (sym sends.caches)
      (purges_by_all (IotlbDomain x.domain) ran m.iommu.unit.caches (did_ahead x inside))

  clear_then : (x : Ticket) → IsIn x m.tickets → IsClear t x
  clear_then x inside =
      elim (in_parts x (k.done ++ k.half) k.ahead (subst (IsIn x) (k.split ∙ sym (append_assoc k.done k.half k.ahead)) inside)) [
        | inl front ↦ clear_stays m t x inside ages (forgets_fewer m t fewer) (k.begun x inside) (k.clear x front)
        | inr later ↦ clear_purged t m.iommu.unit.caches x (purged x later)
      ]

  pub tickets_done : t.tickets ≡ m.tickets → KeepsTickets t
  unfolding Follow pairs_of
  tickets_done tickets = record {
    done = m.tickets;
    half = [];
    ahead = [];
    reached = t.iommu.sent;
    split = tickets ∙ sym (append-nil m.tickets);
    one = omega arith;
    ring = ap (λ (r : Ring). r.waiting) sends.done;
    status = ap (λ (r : Ring). r.status) sends.done;
    sent = refl;
    past = λ x inside. omega (arith, all_sent m k x inside, sends.number);
    clear = λ x inside. clear_then x (subst (IsIn x) (append-nil m.tickets) inside);
    different = subst AreDifferent (sym tickets) k.different;
    begun = λ x inside. let all = subst (IsIn x) tickets inside in begun_stays m t x all ages (k.begun x all);
    few = let many = ap length tickets in omega (arith, many, k.few);
  }
