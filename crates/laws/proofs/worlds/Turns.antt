-- What a step does to one domain, and what the event says of it.
use Rattle.std.proofs.Common.{◌≡◌, ℕ, ◌/◌, inl, inr, List, [], ◌∷◌, length, suc, Option, Some, None, refl, sym, ap, subst, ◌∙◌, arith}
use Rattle.std.proofs.lemmas.Option.{same_Some}
use Rattle.dmatypes.specs.declared.call.Call.{Call}
use Rattle.dmatypes.specs.declared.call.Call.TheVariants as calls
use Rattle.dmatypes.specs.declared.call.Mode.{Mode}
use Rattle.dmatypes.specs.declared.call.Segment.{Segment}
use Rattle.dmatypes.specs.declared.page.TheConstants.{PAGE_BYTES}
use Rattle.dmatypes.specs.declared.reply.Event.{Event}
use Rattle.dmatypes.specs.declared.reply.Reply.{Reply}
use Rattle.dmatypes.specs.declared.reply.Reply.TheVariants.{Made, Done, Mapped, Unmapped, Flushed, Ticket, Reaped}
use Rattle.dmatypes.specs.declared.width.Width.{Width}
use Rattle.dmatypes.specs.Page.{byte_address, page_of, range_at}
use Rattle.dmatypes.specs.World.{Domain, World, AreFreePages, begun_once_more, change_of, empty_domain, flushed, mapped, put, reaped}
use Rattle.dmatypes.specs.World.{unmapped_by}
use Rattle.dmatypes.specs.Conditions.{total_pages}
use Rattle.dmatypes.specs.Step.{Answers, IsMapAnswer, IsStep, IsUnmapAnswer, next}
use Rattle.dmatypes.specs.History.{event}
use Rattle.dmatypes.proofs.histories.Maps.{put_same, put_other, same_or_not}
use Rattle.laws.specs.Events.{Begins, Drops, MapsAll, Reaps, Unmaps}
use Rattle.laws.proofs.lists.Options.{is_of, no_one}

-- the domain that an event changes, makes or ends
abbrev pub named : Call → Reply → Option ℕ
named (calls.Domain mode width) (Made d) = Some d
named (calls.Drop domain) Done = Some domain
named (calls.Map domain frame pages order rights) (Mapped address) = Some domain
named (calls.MapList domain order rights segments) (Mapped address) = Some domain
named (calls.Unmap domain address pages) (Unmapped released) = Some domain
named (calls.Flush domain) (Flushed released) = Some domain
named (calls.Begin domain) (Ticket other number) = Some domain
named (calls.Reap domain number) (Reaped released) = Some domain
named call reply = None

abbrev pub named_by : Event → Option ℕ
named_by e = named e.call e.reply

-- what becomes of a domain at an event, and which event it is
pub data Turn (w : World) (d : ℕ) (e : Event) (new : Option Domain) : Type 0 where
  stays : new ≡ w.domains d → (named_by e ≡ Some d → ⊥) → Turn w d e new
  made : (mode : Mode) (width : Width) → w.domains d ≡ None → new ≡ Some (empty_domain mode width)
      → e ≡ event (calls.Domain mode width) (Made d) → Turn w d e new
  dropped : new ≡ None → Drops d e → Turn w d e new
  maps : (v : Domain) (ss : List Segment) (rights address : ℕ) → w.domains d ≡ Some v
      → AreFreePages v (range_at address (total_pages ss)) → new ≡ Some (mapped ss (page_of address) rights v)
      → MapsAll d ss rights address e → Turn w d e new
  unmaps : (v : Domain) (address pages released : ℕ) → w.domains d ≡ Some v → IsUnmapAnswer v.mode v.retired (Unmapped released)
      → new ≡ Some (unmapped_by v.mode (range_at address pages) v)
      → e ≡ event (calls.Unmap d address pages) (Unmapped released) → Turn w d e new
  flushes : (v : Domain) (released : ℕ) → w.domains d ≡ Some v → new ≡ Some (flushed v)
      → e ≡ event (calls.Flush d) (Flushed released) → Turn w d e new
  begins : (v : Domain) → w.domains d ≡ Some v → new ≡ Some (begun_once_more v) → Begins d (suc v.begun) e → Turn w d e new
  reaps : (v : Domain) (number : ℕ) → w.domains d ≡ Some v → new ≡ Some (reaped number v) → Reaps d number e → Turn w d e new

-- one domain is put in the place of another
turn_put : (w : World) (domain : ℕ) (o : Option Domain) (e : Event) (d : ℕ) → named_by e ≡ Some domain → Turn w domain e o
    → Turn w d e (put domain o w.domains d)
turn_put w domain o e d names at = elim (same_or_not d domain) [
  | inl same ↦
      subst (λ (x : ℕ). Turn w x e (put domain o w.domains x)) (sym same)
      (subst (Turn w domain e) (sym (put_same domain o w.domains)) at)
  | inr ne ↦ stays (put_other domain o w.domains d ne) (λ n. ne (sym (same_Some domain d (sym names ∙ n))))
]

address_in : Reply → ℕ
address_in (Mapped address) = address
address_in _ = 0

-- the page of the address that a map is answered, and that its pages are free
map_start : (w : World) (domain : ℕ) (ss : List Segment) (order address : ℕ) → IsMapAnswer w domain ss order (Mapped address)
    → (v : Domain) × (w.domains domain ≡ Some v) × AreFreePages v (range_at address (total_pages ss))
unfolding address_in
map_start w domain ss order address answer =
    let is : address ≡ byte_address answer.0 0 = ap address_in answer.3 in
    let page : answer.0 ≡ address / PAGE_BYTES = omega (arith, is) in
    let there = is_of (w.domains domain) (λ v. AreFreePages v (record { first = answer.0; pages = total_pages ss })) answer.2 in
    (there.0, there.1, subst (λ (s : ℕ). AreFreePages there.0 (record { first = s; pages = total_pages ss })) page there.2)

turn_map : (w : World) (domain : ℕ) (ss : List Segment) (order rights address : ℕ) (e : Event) (d : ℕ) → named_by e ≡ Some domain
    → IsMapAnswer w domain ss order (Mapped address) → MapsAll domain ss rights address e
    → Turn w d e (put domain (change_of (mapped ss (page_of address) rights) (w.domains domain)) w.domains d)
turn_map w domain ss order rights address e d names answer is =
    let start = map_start w domain ss order address answer in
    turn_put w domain (change_of (mapped ss (page_of address) rights) (w.domains domain)) e d names
    (maps start.0 ss rights address start.1 start.2 (ap (change_of (mapped ss (page_of address) rights)) start.1) is)

id_in : Reply → ℕ
id_in (Made d) = d
id_in _ = 0

pub turn : (w : World) (call : Call) (reply : Reply) (d : ℕ) → IsStep w call reply
    → Turn w d (event call reply) ((next w call reply).domains d)
unfolding next IsStep Answers id_in
turn w (calls.Domain mode width) (Made m) d step =
    let unused : w.domains m ≡ None = ap w.domains (ap id_in step.1.2) ∙ no_one (w.domains step.1.0) step.1.1.2 in
    turn_put w m (Some (empty_domain mode width)) (event (calls.Domain mode width) (Made m)) d refl (made mode width unused refl refl)
turn w (calls.Drop domain) Done d step = turn_put w domain None (event (calls.Drop domain) Done) d refl (dropped refl refl)
turn w (calls.Map domain frame pages order rights) (Mapped address) d step =
    turn_map w domain (record { frame = frame; pages = pages } ∷ []) order rights address
    (event (calls.Map domain frame pages order rights) (Mapped address)) d refl step.1 (inl (frame, pages, order, refl, refl))
turn w (calls.MapList domain order rights segments) (Mapped address) d step =
    turn_map w domain segments.items order rights address
    (event (calls.MapList domain order rights segments) (Mapped address)) d refl step.1 (inr (order, segments, refl, refl))
turn w (calls.Unmap domain address pages) (Unmapped released) d step =
    let there = is_of (w.domains domain) (λ v. IsUnmapAnswer v.mode v.retired (Unmapped released)) step.1 in
    let change = λ (v : Domain). unmapped_by v.mode (range_at address pages) v in
    turn_put w domain (change_of change (w.domains domain)) (event (calls.Unmap domain address pages) (Unmapped released)) d refl
    (unmaps there.0 address pages released there.1 there.2 (ap (change_of change) there.1) refl)
turn w (calls.Flush domain) (Flushed released) d step =
    let there = is_of (w.domains domain) (λ v. Flushed released ≡ Flushed (length v.retired)) step.1 in
    turn_put w domain (change_of flushed (w.domains domain)) (event (calls.Flush domain) (Flushed released)) d refl
    (flushes there.0 released there.1 (ap (change_of flushed) there.1) refl)
turn w (calls.Begin domain) (Ticket other number) d step =
    let there = is_of (w.domains domain) (λ v. Ticket other number ≡ Ticket domain (suc v.begun)) step.1 in
    turn_put w domain (change_of begun_once_more (w.domains domain)) (event (calls.Begin domain) (Ticket other number)) d refl
    (begins there.0 there.1 (ap (change_of begun_once_more) there.1) (ap (event (calls.Begin domain)) there.2))
turn w (calls.Reap domain number) (Reaped released) d step = elim step.1 [
  | inl pending ↦ absurd cc
  | inr answer ↦
      let there = is_of (w.domains domain) (λ v. _) answer in
      turn_put w domain (change_of (reaped number) (w.domains domain)) (event (calls.Reap domain number) (Reaped released)) d refl
      (reaps there.0 number there.1 (ap (change_of (reaped number)) there.1) (released, refl))
]
turn w (calls.Attach device domain) Done d step = stays refl (λ e. absurd cc)
turn w (calls.Detach device) Done d step = stays refl (λ e. absurd cc)
turn w call reply d step = stays refl (λ e. absurd cc)

-- ---- maps, from their events

-- what a map leaves of its domain
abbrev pub IsMappedBy : World → Event → ℕ → List Segment → ℕ → ℕ → Type 0
IsMappedBy w e d ss rights address =
    (v : Domain) × (w.domains d ≡ Some v) × AreFreePages v (range_at address (total_pages ss))
    × ((next w e.call e.reply).domains d ≡ Some (mapped ss (page_of address) rights v))

mapped_start : (w : World) (d : ℕ) (ss : List Segment) (order rights address : ℕ) → IsMapAnswer w d ss order (Mapped address)
    → (v : Domain) × (w.domains d ≡ Some v) × AreFreePages v (range_at address (total_pages ss))
    × (put d (change_of (mapped ss (page_of address) rights) (w.domains d)) w.domains d ≡ Some (mapped ss (page_of address) rights v))
mapped_start w d ss order rights address answer =
    let start = map_start w d ss order address answer in (
      start.0,
      start.1,
      start.2,
      put_same d (change_of (mapped ss (page_of address) rights) (w.domains d)) w.domains
          ∙ ap (change_of (mapped ss (page_of address) rights)) start.1,
    )

one_mapped : (w : World) (d frame pages order rights address : ℕ) → IsStep w (calls.Map d frame pages order rights) (Mapped address)
    → IsMappedBy w (event (calls.Map d frame pages order rights) (Mapped address)) d (record { frame = frame; pages = pages } ∷ [])
    rights address
unfolding next IsStep Answers
one_mapped w d frame pages order rights address step =
    mapped_start w d (record { frame = frame; pages = pages } ∷ []) order rights address step.1

list_mapped : (w : World) (d order rights : ℕ) (list : _) (address : ℕ) → IsStep w (calls.MapList d order rights list) (Mapped address)
    → IsMappedBy w (event (calls.MapList d order rights list) (Mapped address)) d list.items rights address
unfolding next IsStep Answers
list_mapped w d order rights list address step = mapped_start w d list.items order rights address step.1

pub map_step : (w : World) (e : Event) (d : ℕ) (ss : List Segment) (rights address : ℕ) → IsStep w e.call e.reply
    → MapsAll d ss rights address e → IsMappedBy w e d ss rights address
map_step w e d ss rights address step (inl m) =
    subst (λ (xs : List Segment). IsMappedBy w e d xs rights address) (sym m.3)
    (subst (λ (x : Event). IsStep w x.call x.reply → IsMappedBy w x d (record { frame = m.0; pages = m.1 } ∷ []) rights address)
    (sym m.4) (one_mapped w d m.0 m.1 m.2 rights address) step)
map_step w e d ss rights address step (inr m) =
    subst (λ (xs : List Segment). IsMappedBy w e d xs rights address) (sym m.2)
    (subst (λ (x : Event). IsStep w x.call x.reply → IsMappedBy w x d m.1.items rights address)
    (sym m.3) (list_mapped w d m.0 rights m.1 address) step)

-- ---- unmaps, from their events

abbrev pub IsUnmappedBy : World → Event → ℕ → ℕ → ℕ → ℕ → Type 0
IsUnmappedBy w e d address pages released =
    (v : Domain) × (w.domains d ≡ Some v) × IsUnmapAnswer v.mode v.retired (Unmapped released)
    × ((next w e.call e.reply).domains d ≡ Some (unmapped_by v.mode (range_at address pages) v))

range_unmapped : (w : World) (d address pages released : ℕ) → IsStep w (calls.Unmap d address pages) (Unmapped released)
    → IsUnmappedBy w (event (calls.Unmap d address pages) (Unmapped released)) d address pages released
unfolding next IsStep Answers
range_unmapped w d address pages released step =
    let there = is_of (w.domains d) (λ v. IsUnmapAnswer v.mode v.retired (Unmapped released)) step.1 in
    let change = λ (v : Domain). unmapped_by v.mode (range_at address pages) v in
    (there.0, there.1, there.2, put_same d (change_of change (w.domains d)) w.domains ∙ ap (change_of change) there.1)

pub unmap_step : (w : World) (e : Event) (d p : ℕ) → IsStep w e.call e.reply → (u : Unmaps d p e) → IsUnmappedBy w e d u.0 u.1 u.2
unmap_step w e d p step u =
    subst (λ (x : Event). IsStep w x.call x.reply → IsUnmappedBy w x d u.0 u.1 u.2) (sym u.3) (range_unmapped w d u.0 u.1 u.2) step
