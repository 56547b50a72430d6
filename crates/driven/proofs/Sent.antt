-- What each call submits: nothing, or one descriptor and its wait.
use Rattle.std.proofs.Common.{◌≡◌, ◌⊎◌, inl, inr, ℕ, ◌+◌, ◌-◌, ◌*◌, ◌≤◌, Bool, true, false, List, [], ◌∷◌, ◌++◌, length, take, refl}
use Rattle.std.proofs.Common.{sym, ap, subst, ◌∙◌, arith}
use Rattle.std.proofs.Math.Seq.{take-append-add}
use Rattle.std.proofs.lemmas.List.{append_assoc, length-append, length-reverse, reverse-append, take-take}
use Rattle.std.specs.Prelude.{Option, reverse}
use Rattle.dmatypes.specs.Page.{Range, range_at}
use Rattle.dmatypes.specs.declared.call.Call.{Call}
use Rattle.dmatypes.specs.declared.call.Call.TheVariants as calls
use Rattle.dmatypes.specs.declared.call.Mode.{Mode}
use Rattle.dmatypes.specs.declared.call.Mode.TheVariants.{Lazy, Strict}
use Rattle.dmatypes.specs.declared.reply.Reply.{Reply}
use Rattle.dmatypes.specs.declared.reply.Reply.TheVariants.{Done, Flushed, Made, Mapped, Reaped, Refused, Stepped, Unmapped}
use Rattle.vtdbits.specs.declared.descriptor.Descriptor.{Descriptor}
use Rattle.vtdbits.specs.declared.descriptor.Descriptor.TheVariants.{IotlbDomain, Wait}
use Rattle.queue.specs.declared.ring.TheConstants.Ring.{CAPACITY}
use Rattle.queue.specs.Ring.{submitted_in}
use Rattle.unit.specs.Filters.{after_first}
use Rattle.engine.specs.declared.iommu.Iommu.{Iommu}
use Rattle.engine.specs.declared.iommu.Shown.{Shown}
use Rattle.engine.specs.Domains.{Domain, Operands}
use Rattle.engine.specs.Ending.{Begins, ByMode, Invalidates, MakesRoom, PutsOff, SendsForMap, UnmapsStrictly, status_of}
use Rattle.engine.specs.State.{Becomes, State, operands_in}
use Rattle.engine.specs.Steps.{Does}
use Rattle.engine.specs.Tickets.{KeepsTickets}
use Rattle.engine.proofs.caches.ReadyToSend.{waiting_few}
use Rattle.driven.specs.Effects.{SendsWith}

-- so far, as two IOMMUs have it
abbrev pub Quiet : Iommu → Iommu → Type 0
Quiet x y = (y.sent ≡ x.sent) × (submitted_in y.ring ≡ submitted_in x.ring)

abbrev pub Pushed : Iommu → Iommu → Descriptor → Type 0
Pushed x y d =
    (y.sent ≡ x.sent + 1) × (submitted_in y.ring ≡ Wait (status_of y.sent) ∷ d ∷ take 254 (submitted_in x.ring))

abbrev pub Submits : Iommu → Iommu → Type 0
Submits x y = Quiet x y ⊎ ((d : Descriptor) × Pushed x y d)

same : (x y : Iommu) → y ≡ x → Quiet x y
same x y is = (ap (λ (z : Iommu). z.sent) is, ap (λ (z : Iommu). submitted_in z.ring) is)

-- the first 254 of what waits, the last one first, and of what was taken
first_ones : (waiting taken : List Descriptor) → length waiting ≤ 254
    → reverse waiting ++ take (254 - length waiting) taken ≡ take 254 (reverse waiting ++ taken)
first_ones waiting taken few =
    let len : length (reverse waiting) ≡ length waiting = length-reverse waiting in
    let whole : length (reverse waiting) + (254 - length waiting) ≡ 254 = omega (arith, len, few) in
    sym (take-append-add (reverse waiting) taken (254 - length waiting)) ∙ ap (λ n. take n (reverse waiting ++ taken)) whole

two_last : (waiting : List Descriptor) (d w : Descriptor) → reverse (waiting ++ d ∷ w ∷ []) ≡ w ∷ d ∷ reverse waiting
two_last waiting d w = reverse-append waiting (d ∷ w ∷ [])

-- ---- a descriptor that is waited for

pub invalidated : (x y : Iommu) (d : Descriptor) (seen : Option Shown) → Invalidates x d seen y → Pushed x y d
invalidated x y d seen done = (done.number, pushed)
  where
    w : Descriptor
    w = Wait (status_of y.sent)

    counted : length (x.ring.waiting ++ d ∷ w ∷ []) ≡ length x.ring.waiting + 2
    counted = length-append x.ring.waiting (d ∷ w ∷ [])

    pushed : submitted_in y.ring ≡ w ∷ d ∷ take 254 (submitted_in x.ring)
    pushed =
        ap submitted_in done.done
        ∙ ap (λ ds. ds ++ take (CAPACITY + 1 - length (x.ring.waiting ++ d ∷ w ∷ [])) x.ring.taken) (two_last x.ring.waiting d w)
        ∙ ap (λ n. w ∷ d ∷ (reverse x.ring.waiting ++ take n x.ring.taken))
        (let left : CAPACITY + 1 - length (x.ring.waiting ++ d ∷ w ∷ []) ≡ 254 - length x.ring.waiting = omega (arith, counted) in left)
        ∙ ap (λ ds. w ∷ d ∷ ds) (first_ones x.ring.waiting x.ring.taken (omega (arith, done.few)))

-- ---- one that is begun

begun : (x y : Iommu) (id : ℕ) → length x.ring.waiting ≤ 253 → Begins x id y → Pushed x y (IotlbDomain id)
begun x y id few begins = (ap (λ (z : Iommu). z.sent) begins, pushed)
  where
    w : Descriptor
    w = Wait (status_of (x.sent + 1))

    d : Descriptor
    d = IotlbDomain id

    one : length (x.ring.waiting ++ d ∷ []) ≡ length x.ring.waiting + 1
    one = length-append x.ring.waiting (d ∷ [])

    reversed : reverse ((x.ring.waiting ++ d ∷ []) ++ w ∷ []) ≡ w ∷ d ∷ reverse x.ring.waiting
    reversed = reverse-append (x.ring.waiting ++ d ∷ []) (w ∷ []) ∙ ap (λ ds. w ∷ ds) (reverse-append x.ring.waiting (d ∷ []))

    taken : take (CAPACITY - length (x.ring.waiting ++ d ∷ [])) (take (CAPACITY - length x.ring.waiting) x.ring.taken)
        ≡ take (254 - length x.ring.waiting) x.ring.taken
    taken =
        let less : CAPACITY - length (x.ring.waiting ++ d ∷ []) ≤ CAPACITY - length x.ring.waiting = omega (arith, one) in
        let left : CAPACITY - length (x.ring.waiting ++ d ∷ []) ≡ 254 - length x.ring.waiting = omega (arith, one) in
        take-take (CAPACITY - length (x.ring.waiting ++ d ∷ [])) (CAPACITY - length x.ring.waiting) x.ring.taken less
        ∙ ap (λ n. take n x.ring.taken) left

    pushed : submitted_in y.ring ≡ Wait (status_of y.sent) ∷ d ∷ take 254 (submitted_in x.ring)
    pushed =
        ap (λ (z : Iommu). submitted_in z.ring) begins
        ∙ ap (λ ds. ds ++ take (CAPACITY - length (x.ring.waiting ++ d ∷ []))
        (take (CAPACITY - length x.ring.waiting) x.ring.taken)) reversed
        ∙ ap (λ ds. w ∷ d ∷ (reverse x.ring.waiting ++ ds)) taken
        ∙ ap (λ ds. w ∷ d ∷ ds) (first_ones x.ring.waiting x.ring.taken (omega (arith, few)))
        ∙ ap (λ n. Wait (status_of n) ∷ d ∷ take 254 (submitted_in x.ring)) (sym (ap (λ (z : Iommu). z.sent) begins))

-- ---- a step of the unit

stepped : (ds : List Descriptor) (status : ℕ) (taken : List Descriptor)
    → submitted_in (after_first ds status taken) ≡ reverse ds ++ taken
stepped [] status taken = refl
stepped (d ∷ ds) status taken = sym (ap (λ xs. xs ++ taken) (reverse-append (d ∷ []) ds) ∙ append_assoc (reverse ds) (d ∷ []) taken)

-- ---- each call

for_map : (caching : Bool) (x y : Iommu) (id root : ℕ) (range : Range) → SendsForMap caching x id root range y → Submits x y
for_map false x y id root range is = inl (same x y is)
for_map true x y id root range (d, sent, done) = inr (d, invalidated x y d _ done)

module _ (m t : State) (tickets : KeepsTickets m) where
  kept : t.iommu ≡ m.iommu → Submits m.iommu t.iommu
  kept is = inl (same m.iommu t.iommu is)

  roomy : (e released : ℕ) (h : Domain) (made : Operands) → MakesRoom (operands_in m h) e released made → t.iommu ≡ made.iommu
      → Submits m.iommu t.iommu
  roomy e released h made (inl has) is = kept (is ∙ ap (λ (p : Operands). p.iommu) has.same)
  roomy e released h made (inr empties) is =
      inr (
        IotlbDomain e,
        subst (λ z. Pushed m.iommu z (IotlbDomain e)) (sym is)
            (invalidated m.iommu made.iommu (IotlbDomain e) _ empties.flushes.invalidates),
      )

  unmapped : (e released : ℕ) (h new : Domain) (range : Range) (mode : Mode)
      → ByMode mode ((released ≡ 0) × UnmapsStrictly (operands_in m h) e range (operands_in t new))
      (PutsOff (operands_in m h) e range released (operands_in t new)) → Submits m.iommu t.iommu
  unmapped e released h new range Strict does =
      let u = does.1 in inr (u.descriptor, invalidated m.iommu t.iommu u.descriptor _ u.invalidates)
  unmapped e released h new range Lazy does = roomy e released h does.roomy does.room does.quiet

  abbrev Row : Type 0
  Row = (t.iommu.sent ≡ m.iommu.sent) × (t.iommu.ring ≡ m.iommu.ring)

  row : Row → Submits m.iommu t.iommu
  row r = inl (r.0, ap submitted_in r.1)

  sends : (call : Call) (reply : Reply) → Becomes m call reply t → Submits m.iommu t.iommu
  unfolding Becomes
  sends (calls.Domain mode width) (Made e) (root, takes, is) = kept (ap (λ (x : State). x.iommu) is)
  sends (calls.Domain mode width) _ is = kept (ap (λ (x : State). x.iommu) is)
  sends (calls.Attach device e) Done (h, here, is) =
      row (ap (λ (x : State). x.iommu.sent) is, ap (λ (x : State). x.iommu.ring) is)
  sends (calls.Attach device e) _ is = kept (ap (λ (x : State). x.iommu) is)
  sends (calls.Drop e) Done (h, here, closes, is) =
      inr (
        IotlbDomain e,
        subst (λ z. Pushed m.iommu z (IotlbDomain e)) (sym closes.quiet)
            (invalidated m.iommu closes.flushed.iommu (IotlbDomain e) _ closes.flushes.invalidates),
      )
  sends (calls.Drop e) _ is = kept (ap (λ (x : State). x.iommu) is)
  sends (calls.Detach device) Done (e, root, width, at, done, is) = inr (_, invalidated _ t.iommu _ _ done)
  sends (calls.Detach device) _ is = kept (ap (λ (x : State). x.iommu) is)
  sends (calls.Map e frame pages order rights) (Mapped address) (h, new, here, places, sent, is) =
      for_map m.iommu.unit.caching m.iommu t.iommu e h.root _ sent
  sends (calls.Map e frame pages order rights) _ is = kept (ap (λ (x : State). x.iommu) is)
  sends (calls.MapList e order rights segments) (Mapped address) (h, new, here, places, sent, is) =
      for_map m.iommu.unit.caching m.iommu t.iommu e h.root _ sent
  sends (calls.MapList e order rights segments) _ is = kept (ap (λ (x : State). x.iommu) is)
  sends (calls.Flush e) (Flushed released) (h, new, here, flushes, is) =
      inr (IotlbDomain e, invalidated m.iommu t.iommu (IotlbDomain e) _ flushes.invalidates)
  sends (calls.Flush e) _ is = kept (ap (λ (x : State). x.iommu) is)
  sends (calls.Unmap e address pages) (Unmapped released) (h, new, here, ends, is) =
      unmapped e released h new (range_at address pages) h.mode ends
  sends (calls.Unmap e address pages) _ is = kept (ap (λ (x : State). x.iommu) is)
  sends (calls.Dma device address access whim) (Refused refusal) is = kept (ap (λ (x : State). x.iommu) is)
  sends (calls.Dma device address access whim) _ (answer, reached, answers, filled, is) =
      row (ap (λ (x : State). x.iommu.sent) is, ap (λ (x : State). x.iommu.ring) is)
  sends (calls.Begin e) (Reply.Ticket named number) (h, here, new, id, begins, is) =
      let few : length m.iommu.ring.waiting ≤ 2 * length m.tickets = waiting_few m tickets in
      inr (IotlbDomain e, begun m.iommu t.iommu e (omega (arith, few, tickets.few)) begins)
  sends (calls.Begin e) _ is = kept (ap (λ (x : State). x.iommu) is)
  sends calls.Unit (Stepped progress) is =
      inl (
        ap (λ (x : State). x.iommu.sent) is,
        ap (λ (x : State). submitted_in x.iommu.ring) is
            ∙ stepped m.iommu.ring.waiting m.iommu.ring.status m.iommu.ring.taken,
      )
  sends calls.Unit _ is = kept (ap (λ (x : State). x.iommu) is)
  sends (calls.Reap e number) (Reaped released) (h, new, here, reaps, is) = kept (ap (λ (x : State). x.iommu) is)
  sends (calls.Reap e number) _ is = kept (ap (λ (x : State). x.iommu) is)
  sends (calls.Evict kind place) Done is =
      row (ap (λ (x : State). x.iommu.sent) is, ap (λ (x : State). x.iommu.ring) is)
  sends (calls.Evict kind place) _ is = kept (ap (λ (x : State). x.iommu) is)

  -- of a call that was done
  pub submits : (call : Call) (reply : Reply) → Does m call reply t
      → ((t.iommu.sent ≡ m.iommu.sent) × (submitted_in t.iommu.ring ≡ submitted_in m.iommu.ring)) ⊎ ((d : Descriptor) × SendsWith m t d)
  submits call reply does =
      elim (sends call reply does.becomes) [
        | inl q ↦ inl q
        | inr p ↦ inr (p.0, record { waits = p.1.0; submitted = p.1.1 })
      ]

-- ---- calls that submit nothing, whatever they are answered

abbrev pub IsSilent : Call → Type 0
IsSilent (calls.Domain mode width) = Unit {0}
IsSilent (calls.Attach device domain) = Unit {0}
IsSilent (calls.Reap domain number) = Unit {0}
IsSilent calls.Unit = Unit {0}
IsSilent (calls.Dma device address access whim) = Unit {0}
IsSilent (calls.Evict kind place) = Unit {0}
IsSilent call = ⊥

module _ (m t : State) where
  still : t.iommu ≡ m.iommu → Quiet m.iommu t.iommu
  still is = same m.iommu t.iommu is

  pub silent : (call : Call) (reply : Reply) → IsSilent call → Becomes m call reply t → Quiet m.iommu t.iommu
  unfolding Becomes
  silent (calls.Domain mode width) (Made e) s (root, takes, is) = still (ap (λ (x : State). x.iommu) is)
  silent (calls.Domain mode width) _ s is = still (ap (λ (x : State). x.iommu) is)
  silent (calls.Attach device e) Done s (h, here, is) =
      (ap (λ (x : State). x.iommu.sent) is, ap (λ (x : State). submitted_in x.iommu.ring) is)
  silent (calls.Attach device e) _ s is = still (ap (λ (x : State). x.iommu) is)
  silent (calls.Reap e number) (Reaped released) s (h, new, here, reaps, is) = still (ap (λ (x : State). x.iommu) is)
  silent (calls.Reap e number) _ s is = still (ap (λ (x : State). x.iommu) is)
  silent calls.Unit (Stepped progress) s is = (
    ap (λ (x : State). x.iommu.sent) is,
    ap (λ (x : State). submitted_in x.iommu.ring) is
        ∙ stepped m.iommu.ring.waiting m.iommu.ring.status m.iommu.ring.taken,
  )
  silent calls.Unit _ s is = still (ap (λ (x : State). x.iommu) is)
  silent (calls.Dma device address access whim) (Refused refusal) s is = still (ap (λ (x : State). x.iommu) is)
  silent (calls.Dma device address access whim) _ s (answer, reached, answers, filled, is) =
      (ap (λ (x : State). x.iommu.sent) is, ap (λ (x : State). submitted_in x.iommu.ring) is)
  silent (calls.Evict kind place) Done s is =
      (ap (λ (x : State). x.iommu.sent) is, ap (λ (x : State). submitted_in x.iommu.ring) is)
  silent (calls.Evict kind place) _ s is = still (ap (λ (x : State). x.iommu) is)
  silent (calls.Drop e) reply s is = absurd s
  silent (calls.Detach device) reply s is = absurd s
  silent (calls.Map e frame pages order rights) reply s is = absurd s
  silent (calls.MapList e order rights segments) reply s is = absurd s
  silent (calls.Unmap e address pages) reply s is = absurd s
  silent (calls.Flush e) reply s is = absurd s
  silent (calls.Begin e) reply s is = absurd s
