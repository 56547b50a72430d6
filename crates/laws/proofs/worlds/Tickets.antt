-- Open tickets: each is that of an event which began a flush, of a domain that is there, and no number is above those begun.
use Rattle.std.proofs.Common.{◌≡◌, ◌⊎◌, ℕ, ◌≤◌, inl, inr, Bool, true, false, List, [], ◌∷◌, suc, Option, Some, None, refl, sym, ap, subst}
use Rattle.std.proofs.Common.{◌∙◌}
use Rattle.std.proofs.Common.{arith}
use Rattle.std.specs.Prelude.{if◌then◌else◌, not}
use Rattle.std.proofs.lemmas.Option.{same_Some}
use Rattle.dmatypes.specs.declared.call.Call.{Call}
use Rattle.dmatypes.specs.declared.call.Call.TheVariants as calls
use Rattle.dmatypes.specs.declared.call.Mode.{Mode}
use Rattle.dmatypes.specs.declared.call.Mode.TheVariants as modes
use Rattle.dmatypes.specs.declared.reply.Event.{Event}
use Rattle.dmatypes.specs.declared.reply.Reply.{Reply}
use Rattle.dmatypes.specs.declared.reply.Reply.TheVariants as replies
use Rattle.dmatypes.specs.declared.reply.Reply.TheVariants.{Made, Done, Mapped, Unmapped, Flushed, Reaped}
use Rattle.dmatypes.specs.Page.{Range, page_of, range_at}
use Rattle.dmatypes.specs.World.{Domain, Ticket, World, IsIn, begun_once_more, change_of, empty, flushed, is_ticket, is_full, mapped}
use Rattle.dmatypes.specs.World.{reaped}
use Rattle.dmatypes.specs.World.{unmapped_by}
use Rattle.dmatypes.specs.Conditions.{IsOpen, SomeHas, Stands}
use Rattle.dmatypes.specs.Step.{Answers, IsStep, next}
use Rattle.dmatypes.specs.History.{after, event, IsLegal}
use Rattle.dmatypes.proofs.histories.Maps.{put_same, same_or_not}
use Rattle.dmatypes.proofs.lists.Filtered.{in_filter}
use Rattle.laws.specs.Events.{Begins, Drops, Reaps}
use Rattle.laws.proofs.lists.Options.{in_either, is_of}
use Rattle.laws.proofs.worlds.Runs.{carried}
use Rattle.laws.proofs.worlds.Turns.{Turn, turn}

-- ---- which tickets are open after a step

abbrev ticket : ℕ → ℕ → Ticket
ticket domain number = record { domain = domain; number = number }

begun_here : (domain other number d n : ℕ) → other ≡ domain → ticket d n ≡ ticket domain number
    → Begins d n (event (calls.Begin domain) (replies.Ticket other number))
begun_here domain other number d n told same =
    let one : domain ≡ d = ap (λ (t : Ticket). t.domain) (sym same) in
    let two : number ≡ n = ap (λ (t : Ticket). t.number) (sym same) in
    let three : other ≡ d = told ∙ one in
    cc

ticket_of : Reply → ℕ
ticket_of (replies.Ticket domain number) = domain
ticket_of reply = 0

number_of : Reply → ℕ
number_of (replies.Ticket domain number) = number
number_of reply = 0

pub opened : (w : World) (call : Call) (reply : Reply) (d n : ℕ) → IsStep w call reply → IsOpen (next w call reply) d n
    → IsOpen w d n ⊎ Begins d n (event call reply)
unfolding next IsStep Answers ticket_of
opened w (calls.Begin domain) (replies.Ticket other number) d n step is_open =
    elim (in_either (ticket d n) (ticket domain number) w.tickets is_open) [
      | inl old ↦ inl old
      | inr new ↦
          let there = is_of (w.domains domain) (λ v. replies.Ticket other number ≡ replies.Ticket domain (suc v.begun)) step.1 in
          inr (begun_here domain other number d n (ap ticket_of there.2) new)
    ]
opened w (calls.Reap domain number) (Reaped released) d n step is_open =
    inl (in_filter (λ (t : Ticket). not (is_ticket (ticket domain number) t)) (ticket d n) w.tickets is_open).0
opened w (calls.Domain mode width) (Made m) d n step is_open = inl is_open
opened w (calls.Drop domain) Done d n step is_open = inl is_open
opened w (calls.Attach device domain) Done d n step is_open = inl is_open
opened w (calls.Detach device) Done d n step is_open = inl is_open
opened w (calls.Map domain frame pages order rights) (Mapped address) d n step is_open = inl is_open
opened w (calls.MapList domain order rights segments) (Mapped address) d n step is_open = inl is_open
opened w (calls.Unmap domain address pages) (Unmapped released) d n step is_open = inl is_open
opened w (calls.Flush domain) (Flushed released) d n step is_open = inl is_open
opened w call reply d n step is_open = inl is_open

-- ---- the ticket of a flush that ends

open_or_not : (t : Ticket) (ts : List Ticket) → IsIn t ts ⊎ (IsIn t ts → ⊥)
open_or_not t [] = inr (λ none. none)
open_or_not t (x ∷ xs) = elim (same_or_not t.domain x.domain) [
  | inl one ↦ elim (same_or_not t.number x.number) [
    | inl two ↦ inl (inl (both t x one two))
    | inr ne ↦ later (λ same. ne (ap (λ (y : Ticket). y.number) same)) (open_or_not t xs)
  ]
  | inr ne ↦ later (λ same. ne (ap (λ (y : Ticket). y.domain) same)) (open_or_not t xs)
]
  where
    both : (a b : Ticket) → a.domain ≡ b.domain → a.number ≡ b.number → a ≡ b
    both a b one two i = record { domain = one i; number = two i }

    later : (t ≡ x → ⊥) → IsIn t xs ⊎ (IsIn t xs → ⊥) → IsIn t (x ∷ xs) ⊎ (IsIn t (x ∷ xs) → ⊥)
    later ne (inl inside) = inl (inr inside)
    later ne (inr none) = inr (elim [ inl same ↦ ne same | inr inside ↦ none inside ])

reap_next : (w : World) (d number released : ℕ) → IsStep w (calls.Reap d number) (Reaped released) → IsOpen w d number
unfolding IsStep Stands
reap_next w d number released step = elim (open_or_not (ticket d number) w.tickets) [
  | inl is_open ↦ is_open
  | inr none ↦ absurd (step.0.0 none)
]

pub reap_open : (w : World) (e : Event) (d n : ℕ) → IsStep w e.call e.reply → Reaps d n e → IsOpen w d n
reap_open w e d n step of =
    subst (λ (x : Event). IsStep w x.call x.reply → IsOpen w d n) (sym of.1) (reap_next w d n of.0) step

-- ---- a domain with an open ticket isn't ended

has_ticket : (d n : ℕ) (ts : List Ticket) → IsIn (ticket d n) ts → SomeHas (λ t. t.domain ≡ d) ts
has_ticket d n [] h = absurd h
has_ticket d n (t ∷ ts) (inl same) = inl (ap (λ (y : Ticket). y.domain) (sym same))
has_ticket d n (t ∷ ts) (inr later) = inr (has_ticket d n ts later)

drop_next : (w : World) (d n : ℕ) → IsStep w (calls.Drop d) Done → IsOpen w d n → ⊥
unfolding IsStep Stands
drop_next w d n step is_open = step.0.1.0 (inr (has_ticket d n w.tickets is_open))

drop_closed : (w : World) (e : Event) (d n : ℕ) → IsStep w e.call e.reply → Drops d e → IsOpen w d n → ⊥
drop_closed w e d n step of =
    subst (λ (x : Event). IsStep w x.call x.reply → IsOpen w d n → ⊥) (sym of) (drop_next w d n) step

-- ---- numbers of open tickets

-- the domain of the ticket is there, and has begun as many flushes
pub record IsBegun (n : ℕ) (o : Option Domain) : Type 0 where
  pub domain : Domain
  pub there : o ≡ Some domain
  pub below : n ≤ domain.begun

begun_more : (n : ℕ) (o : Option Domain) (v : Domain) (new : Option Domain) (u : Domain) → IsBegun n o → o ≡ Some v → new ≡ Some u
    → v.begun ≤ u.begun → IsBegun n new
begun_more n o v new u old there is more =
    let same : old.domain.begun ≡ v.begun = ap (λ (x : Domain). x.begun) (same_Some old.domain v (sym old.there ∙ there)) in
    record { domain = u; there = is; below = omega (arith, old.below, more, same) }

pub room_begun : (v : Domain) (b : Bool) → (if b then flushed v else v).begun ≡ v.begun
room_begun v true = refl
room_begun v false = refl

unmapped_begun : (mode : Mode) (range : Range) (v : Domain) → (unmapped_by mode range v).begun ≡ v.begun
unmapped_begun modes.Strict range v = refl
unmapped_begun modes.Lazy range v = room_begun v (is_full v)

begun_turn : (w : World) (d n : ℕ) (e : Event) (new : Option Domain) → (Drops d e → ⊥) → IsBegun n (w.domains d) → Turn w d e new
    → IsBegun n new
begun_turn w d n e new keeps old (Turn.stays same unnamed) = subst (IsBegun n) (sym same) old
begun_turn w d n e new keeps old (Turn.made mode width none is of) =
    absurd (let both : None ≡ Some old.domain = sym none ∙ old.there in cc)
begun_turn w d n e new keeps old (Turn.dropped none of) = absurd (keeps of)
begun_turn w d n e new keeps old (Turn.maps v ss rights address there free is of) =
    begun_more n (w.domains d) v new (mapped ss (page_of address) rights v) old there is (omega arith)
begun_turn w d n e new keeps old (Turn.unmaps v address pages released there answer is of) =
    begun_more n (w.domains d) v new (unmapped_by v.mode (range_at address pages) v) old there is
    (omega (arith, unmapped_begun v.mode (range_at address pages) v))
begun_turn w d n e new keeps old (Turn.flushes v released there is of) =
    begun_more n (w.domains d) v new (flushed v) old there is (omega arith)
begun_turn w d n e new keeps old (Turn.begins v there is of) =
    begun_more n (w.domains d) v new (begun_once_more v) old there is (omega arith)
begun_turn w d n e new keeps old (Turn.reaps v number there is of) =
    begun_more n (w.domains d) v new (reaped number v) old there is (omega arith)

begin_next : (w : World) (d n : ℕ) → IsStep w (calls.Begin d) (replies.Ticket d n)
    → (v : Domain) × (w.domains d ≡ Some v) × (n ≡ suc v.begun)
    × ((next w (calls.Begin d) (replies.Ticket d n)).domains d ≡ Some (begun_once_more v))
unfolding next IsStep Answers number_of
begin_next w d n step =
    let there = is_of (w.domains d) (λ v. replies.Ticket d n ≡ replies.Ticket d (suc v.begun)) step.1 in (
      there.0,
      there.1,
      ap number_of there.2,
      put_same d (change_of begun_once_more (w.domains d)) w.domains ∙ ap (change_of begun_once_more) there.1,
    )

-- the number of a flush that an event begins
pub begin_step : (w : World) (e : Event) (d n : ℕ) → IsStep w e.call e.reply → Begins d n e
    → (v : Domain) × (w.domains d ≡ Some v) × (n ≡ suc v.begun) × ((next w e.call e.reply).domains d ≡ Some (begun_once_more v))
begin_step w e d n step of =
    subst (λ (x : Event). IsStep w x.call x.reply
    → (v : Domain) × (w.domains d ≡ Some v) × (n ≡ suc v.begun) × ((next w x.call x.reply).domains d ≡ Some (begun_once_more v)))
    (sym of) (begin_next w d n) step

abbrev AreBegun : ℕ → World → Type 0
AreBegun d w = (n : ℕ) → IsOpen w d n → IsBegun n (w.domains d)

begun_step : (d : ℕ) (es : List Event) (w : World) (e : Event) → AreBegun d w → IsStep w e.call e.reply → AreBegun d (next w e.call e.reply)
begun_step d es w e old step n is_open = elim (opened w e.call e.reply d n step is_open) [
  | inl was ↦
      begun_turn w d n e ((next w e.call e.reply).domains d) (λ drops. drop_closed w e d n step drops was) (old n was)
      (turn w e.call e.reply d step)
  | inr begins ↦
      let by = begin_step w e d n step begins in
      record { domain = begun_once_more by.0; there = by.3; below = omega (arith, by.2) }
]

-- after a legal history
pub begun_after : (frames : ℕ) (history : List Event) (d n : ℕ) → IsLegal frames history → IsOpen (after frames history) d n
    → IsBegun n ((after frames history).domains d)
begun_after frames history d n legal is_open =
    carried (λ es w. AreBegun d w) (begun_step d) [] (empty frames) history (λ m none. absurd none) legal n is_open
