-- What holds of the worlds that legal histories lead to: what is live or retired is a page, and no page is both.
use Rattle.std.proofs.Common.{◌≡◌, ◌⊎◌, ℕ, ◌+◌, ◌/◌, ◌<◌, ◌≤◌, inl, inr, Bool, true, false, List, [], ◌∷◌, Option, Some, None, refl, sym}
use Rattle.std.proofs.Common.{ap, subst, ◌∙◌, arith}
use Rattle.std.proofs.lemmas.List.Sums.{sum_by-cons}
use Rattle.std.specs.Prelude.{if◌then◌else◌, not}
use Rattle.std.proofs.lemmas.Option.{same_Some}
use Rattle.dmatypes.specs.declared.call.Call.{Call}
use Rattle.dmatypes.specs.declared.call.Call.TheVariants as calls
use Rattle.dmatypes.specs.declared.call.Mode.{Mode}
use Rattle.dmatypes.specs.declared.call.Mode.TheVariants as modes
use Rattle.dmatypes.specs.declared.call.Segment.{Segment}
use Rattle.dmatypes.specs.declared.reply.Event.{Event}
use Rattle.dmatypes.specs.declared.reply.Reply.{Reply}
use Rattle.dmatypes.specs.declared.reply.Reply.TheVariants.{Made, Done, Mapped, Unmapped, Flushed, Ticket, Reaped}
use Rattle.dmatypes.specs.Page.{Range, IsPageOf, IsWithin, byte_address, range_at}
use Rattle.dmatypes.specs.World.{Target, Retired, Domain, World, AreFreePages, IsIn, change_of, empty, empty_domain, flushed, is_full}
use Rattle.dmatypes.specs.World.{begun_once_more, is_before, reaped}
use Rattle.dmatypes.specs.World.{mapped, placed, put, put_off, record_of, restricted, unmapped, unmapped_by, with_domain, with_room}
use Rattle.dmatypes.specs.World.{without}
use Rattle.dmatypes.specs.Conditions.{total_pages}
use Rattle.dmatypes.specs.Step.{Answers, IsMapAnswer, IsStep, next}
use Rattle.dmatypes.specs.History.{after_from, IsLegal, IsLegalFrom, after}
use Rattle.dmatypes.proofs.numbers.Ranges.{within_is, within_not, within_or_not}
use Rattle.dmatypes.specs.declared.page.TheConstants.{PAGE_BYTES}
use Rattle.dmatypes.specs.declared.width.Width.{Width}
use Rattle.dmatypes.proofs.lists.Filtered.{in_filter}
use Rattle.dmatypes.proofs.histories.Maps.{put_same, put_other, same_or_not}
use Rattle.ports.proofs.lists.Members.{in_either, none_is_no, some_and, from_either, second_of}

pub record IsSoundDomain (v : Domain) : Type 0 where
  pub live : (p : ℕ) (t : Target) → v.live p ≡ Some t → IsPageOf v.width p
  pub retired : (r : Retired) (p : ℕ) (t : Target) → IsIn r v.retired → r.targets p ≡ Some t → IsPageOf v.width p
  pub apart : (r : Retired) (p : ℕ) → IsIn r v.retired → IsWithin r.range p → v.live p ≡ None

abbrev pub IsSoundWorld : World → Type 0
IsSoundWorld w = (d : ℕ) (v : Domain) → w.domains d ≡ Some v → IsSoundDomain v

-- ---- members of ranges

pub without_here : (r : Range) (map : ℕ → Option Target) (p : ℕ) → IsWithin r p → without r map p ≡ None
without_here r map p h = rw (within_is r p h) refl

pub without_else : (r : Range) (map : ℕ → Option Target) (p : ℕ) → ((p < r.first) ⊎ (r.first + r.pages ≤ p)) → without r map p ≡ map p
without_else r map p h = rw (within_not r p h) refl

pub restricted_here : (r : Range) (map : ℕ → Option Target) (p : ℕ) → IsWithin r p → restricted r map p ≡ map p
restricted_here r map p h = rw (within_is r p h) refl

restricted_else : (r : Range) (map : ℕ → Option Target) (p : ℕ) → ((p < r.first) ⊎ (r.first + r.pages ≤ p)) → restricted r map p ≡ None
restricted_else r map p h = rw (within_not r p h) refl

without_some : (r : Range) (map : ℕ → Option Target) (p : ℕ) (t : Target) → without r map p ≡ Some t → map p ≡ Some t
without_some r map p t e = elim (within_or_not r p) [
  | inl here ↦ absurd (none_is_no (without r map p) t (without_here r map p here) e)
  | inr past ↦ sym (without_else r map p past) ∙ e
]

without_none : (r : Range) (map : ℕ → Option Target) (p : ℕ) → map p ≡ None → without r map p ≡ None
without_none r map p e = elim (within_or_not r p) [
  | inl here ↦ without_here r map p here
  | inr past ↦ without_else r map p past ∙ e
]

restricted_some : (r : Range) (map : ℕ → Option Target) (p : ℕ) (t : Target) → restricted r map p ≡ Some t → map p ≡ Some t
restricted_some r map p t e = elim (within_or_not r p) [
  | inl here ↦ sym (restricted_here r map p here) ∙ e
  | inr past ↦ absurd (none_is_no (restricted r map p) t (restricted_else r map p past) e)
]

-- what segments map lies in their range
pub placed_within : (ss : List Segment) (first rights p : ℕ) (t : Target) → placed ss first rights p ≡ Some t
    → IsWithin (record { first = first; pages = total_pages ss }) p
placed_within [] first rights p t e = absurd cc
placed_within (s ∷ ss) first rights p t e = elim (within_or_not (record { first = first; pages = s.pages }) p) [
  | inl here ↦ (here.0, omega (arith, here.1, sum_by-cons (λ (x : Segment). x.pages) s ss))
  | inr past ↦
      let later =
      placed_within ss (first + s.pages) rights p t (sym (rw (within_not (record { first = first; pages = s.pages }) p past) refl) ∙ e)
      in
      (omega (arith, later.0), omega (arith, later.1, sum_by-cons (λ (x : Segment). x.pages) s ss))
]

-- ---- domains that change

sound_empty : (mode : Mode) (width : Width) → IsSoundDomain (empty_domain mode width)
sound_empty mode width = record { live = λ p t e. absurd cc; retired = λ r p t i e. absurd i; apart = λ r p i h. refl }

sound_mapped : (v : Domain) (ss : List Segment) (first rights : ℕ) → AreFreePages v (record { first = first; pages = total_pages ss })
    → IsSoundDomain v → IsSoundDomain (mapped ss first rights v)
sound_mapped v ss first rights free s = record {
  live = λ p t e. elim (from_either (placed ss first rights p) (v.live p) t e) [
    | inl x ↦ (free p (placed_within ss first rights p x.0 x.1)).0
    | inr was ↦ s.live p t was
  ];
  retired = s.retired;
  apart = λ r p i h.
      second_of (placed ss first rights p) (v.live p) (λ t e. (free p (placed_within ss first rights p t e)).1.not_retired r i h)
      ∙ s.apart r p i h;
}

sound_flushed : (v : Domain) → IsSoundDomain v → IsSoundDomain (flushed v)
sound_flushed v s = record { live = s.live; retired = λ r p t i e. absurd i; apart = λ r p i h. absurd i }

sound_begun : (v : Domain) → IsSoundDomain v → IsSoundDomain (begun_once_more v)
sound_begun v s = record { live = s.live; retired = s.retired; apart = s.apart }

sound_reaped : (number : ℕ) (v : Domain) → IsSoundDomain v → IsSoundDomain (reaped number v)
sound_reaped number v s = record {
  live = s.live;
  retired = λ r p t i e. s.retired r p t (in_filter (λ r. not (is_before number r)) r v.retired i).0 e;
  apart = λ r p i h. s.apart r p (in_filter (λ r. not (is_before number r)) r v.retired i).0 h;
}

sound_unmapped : (range : Range) (v : Domain) → IsSoundDomain v → IsSoundDomain (unmapped range v)
sound_unmapped range v s = record {
  live = λ p t e. s.live p t (without_some range v.live p t e);
  retired = s.retired;
  apart = λ r p i h. without_none range v.live p (s.apart r p i h);
}

sound_put_off : (range : Range) (v : Domain) → IsSoundDomain v → IsSoundDomain (put_off range v)
sound_put_off range v s = record {
  live = λ p t e. s.live p t (without_some range v.live p t e);
  retired = λ r p t i e. elim (in_either r (record_of range v) v.retired i) [
    | inl old ↦ s.retired r p t old e
    | inr last ↦ s.live p t (restricted_some range v.live p t (subst (λ (x : Retired). x.targets p ≡ Some t) last e))
  ];
  apart = λ r p i h. elim (in_either r (record_of range v) v.retired i) [
    | inl old ↦ without_none range v.live p (s.apart r p old h)
    | inr last ↦ without_here range v.live p (subst (λ (x : Retired). IsWithin x.range p) last h)
  ];
}

sound_with_room : (v : Domain) (b : Bool) → IsSoundDomain v → IsSoundDomain (if b then flushed v else v)
sound_with_room v true s = sound_flushed v s
sound_with_room v false s = s

sound_unmapped_by : (mode : Mode) (range : Range) (v : Domain) → IsSoundDomain v → IsSoundDomain (unmapped_by mode range v)
sound_unmapped_by modes.Strict range v s = sound_unmapped range v s
sound_unmapped_by modes.Lazy range v s = sound_put_off range (with_room v) (sound_with_room v (is_full v) s)

-- ---- worlds that change

sound_put : (w : World) (d : ℕ) (o : Option Domain) → IsSoundWorld w → ((v : Domain) → o ≡ Some v → IsSoundDomain v) → (e : ℕ) (v : Domain)
    → put d o w.domains e ≡ Some v → IsSoundDomain v
sound_put w d o s new e v at = elim (same_or_not e d) [
  | inl same ↦ new v (sym (put_same d o w.domains) ∙ ap (put d o w.domains) (sym same) ∙ at)
  | inr ne ↦ s e v (sym (put_other d o w.domains e ne) ∙ at)
]

sound_change : (change : Domain → Domain) (o : Option Domain) → ((v : Domain) → o ≡ Some v → IsSoundDomain (change v)) → (v : Domain)
    → change_of change o ≡ Some v → IsSoundDomain v
sound_change change None new v e = absurd cc
sound_change change (Some u) new v e = subst IsSoundDomain (same_Some (change u) v e) (new u refl)

sound_with : (w : World) (d : ℕ) (change : Domain → Domain) → IsSoundWorld w
    → ((v : Domain) → w.domains d ≡ Some v → IsSoundDomain (change v)) → IsSoundWorld (with_domain d change w)
sound_with w d change s new = sound_put w d (change_of change (w.domains d)) s (sound_change change (w.domains d) new)

address_in : Reply → ℕ
address_in (Mapped address) = address
address_in _ = 0

-- the page of the address that a map is answered, and that its pages are free
pub map_start : (w : World) (domain : ℕ) (ss : List Segment) (order address : ℕ) → IsMapAnswer w domain ss order (Mapped address)
    → (v : Domain) → w.domains domain ≡ Some v → AreFreePages v (record { first = address / PAGE_BYTES; pages = total_pages ss })
unfolding address_in
map_start w domain ss order address answer v there =
    let is : address ≡ byte_address answer.0 0 = ap address_in answer.3 in
    let page : answer.0 ≡ address / PAGE_BYTES = omega (arith, is) in
    subst (λ (s : ℕ). AreFreePages v (record { first = s; pages = total_pages ss })) page (some_and (w.domains domain) v _ there answer.2)

sound_map : (w : World) (domain : ℕ) (ss : List Segment) (order rights address : ℕ) → IsSoundWorld w
    → IsMapAnswer w domain ss order (Mapped address)
    → IsSoundWorld (with_domain domain (mapped ss (address / PAGE_BYTES) rights) w)
sound_map w domain ss order rights address s answer = sound_with w domain (mapped ss (address / PAGE_BYTES) rights) s
    (λ v there. sound_mapped v ss (address / PAGE_BYTES) rights (map_start w domain ss order address answer v there) (s domain v there))

sound_next : (w : World) (call : Call) (reply : Reply) → IsSoundWorld w → IsStep w call reply → IsSoundWorld (next w call reply)
unfolding next IsStep Answers
sound_next w (calls.Domain mode width) (Made d) s step =
    sound_put w d (Some (empty_domain mode width)) s
    (λ v e. subst IsSoundDomain (same_Some (empty_domain mode width) v e) (sound_empty mode width))
sound_next w (calls.Drop domain) Done s step = sound_put w domain None s (λ v e. absurd cc)
sound_next w (calls.Attach device domain) Done s step = s
sound_next w (calls.Detach device) Done s step = s
sound_next w (calls.Map domain frame pages order rights) (Mapped address) s step =
    sound_map w domain (record { frame = frame; pages = pages } ∷ []) order rights address s step.1
sound_next w (calls.MapList domain order rights segments) (Mapped address) s step =
    sound_map w domain segments.items order rights address s step.1
sound_next w (calls.Unmap domain address pages) (Unmapped released) s step =
    sound_with w domain (λ v. unmapped_by v.mode (range_at address pages) v) s
    (λ v there. sound_unmapped_by v.mode (range_at address pages) v (s domain v there))
sound_next w (calls.Flush domain) (Flushed released) s step = sound_with w domain flushed s (λ v there. sound_flushed v (s domain v there))
sound_next w (calls.Begin domain) (Ticket other number) s step =
    sound_with w domain begun_once_more s (λ v there. sound_begun v (s domain v there))
sound_next w (calls.Reap domain number) (Reaped released) s step =
    sound_with w domain (reaped number) s (λ v there. sound_reaped number v (s domain v there))
sound_next w call _ s step = s

sound_from : (w : World) (history : List Event) → IsSoundWorld w → IsLegalFrom w history → IsSoundWorld (after_from w history)
sound_from w [] s legal = s
sound_from w (e ∷ es) s legal = sound_from (next w e.call e.reply) es (sound_next w e.call e.reply s legal.0) legal.1

-- the world after a legal history
pub sound_after : (frames : ℕ) (history : List Event) → IsLegal frames history → IsSoundWorld (after frames history)
sound_after frames history legal = sound_from (empty frames) history (λ d v e. absurd cc) legal
