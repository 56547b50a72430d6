-- The law that a step leaves each lawful word lawful, but in the rows that are cleared at it.
use Rattle.std.proofs.Common.{◌≡◌, ◌≢◌, ◌⊎◌, ℕ, ◌/◌, inl, inr, List, [], ◌∷◌, length, Option, Some, None, refl, sym, ap, subst, ◌∙◌}
use Rattle.std.proofs.lemmas.Bool.{ne_eqb}
use Rattle.dmatypes.specs.declared.call.Call.{Call}
use Rattle.dmatypes.specs.declared.call.Call.TheVariants as calls
use Rattle.dmatypes.specs.declared.call.Mode.{Mode}
use Rattle.dmatypes.specs.declared.call.Mode.TheVariants as modes
use Rattle.dmatypes.specs.declared.call.Segment.{Segment}
use Rattle.dmatypes.specs.declared.reply.Reply.{Reply}
use Rattle.dmatypes.specs.declared.reply.Reply.TheVariants.{Made, Done, Mapped, Unmapped, Flushed, Ticket, Reaped}
use Rattle.dmatypes.specs.Page.{Range, range_at}
use Rattle.dmatypes.specs.World.{Domain, World, AreFreePages, IsLive, IsRetired, change_of, empty_domain, flushed, mapped, placed, put}
use Rattle.dmatypes.specs.World.{begun_once_more, reaped}
use Rattle.dmatypes.specs.World.{put_off, record_of, unmapped_by, with_domain, with_room}
use Rattle.dmatypes.specs.Allows.{domain_of_device}
use Rattle.dmatypes.specs.Conditions.{Stands, total_pages}
use Rattle.dmatypes.specs.Step.{Answers, IsMapAnswer, IsStep, IsUnmapAnswer, next}
use Rattle.dmatypes.proofs.numbers.Ranges.{within_or_not}
use Rattle.vtdbits.specs.declared.port.PortWord.{PortWord}
use Rattle.ports.specs.Lawful.{Backs, IsBacked, IsLawful}
use Rattle.ports.specs.Cleared.{IsCleared, TakesAway}
use Rattle.dmatypes.proofs.histories.Maps.{put_same, put_other, same_or_not}
use Rattle.ports.proofs.lists.Members.{in_left, in_last, none_is_no, is_no_none, is_some, some_and}
use Rattle.ports.proofs.lists.Members.{second_of, followed, leads, is_of, of_is}
use Rattle.dmatypes.specs.declared.limits.TheConstants.{MOST_RECORDS}
use Rattle.dmatypes.specs.declared.page.TheConstants.{PAGE_BYTES}
use Rattle.ports.proofs.histories.Worlds.{without_else, restricted_here, placed_within, map_start}

-- ---- the domain that backs a word

-- the device is attached to this domain, which backs the word
record IsBackedBy (w : World) (device : ℕ) (p : PortWord) (d : ℕ) (v : Domain) : Type 0 where
  attached : w.devices device ≡ Some d
  there : w.domains d ≡ Some v
  backs : Backs v p

backed_by : (w : World) (device : ℕ) (p : PortWord) → IsBacked w device p → (d : ℕ) × (v : Domain) × IsBackedBy w device p d v
backed_by w device p backed =
    let x = is_of (domain_of_device w device) (λ v. Backs v p) backed in
    let y = followed w.domains (w.devices device) x.0 x.1 in
    (y.0, x.0, record { attached = y.1; there = y.2; backs = x.2 })

backed_in : (w : World) (device : ℕ) (p : PortWord) (d : ℕ) (v : Domain) → IsBackedBy w device p d v → IsBacked w device p
backed_in w device p d v b =
    of_is (domain_of_device w device) v (λ u. Backs u p) (leads w.domains (w.devices device) d v b.attached b.there) b.backs

-- another domain is put in
with_put : (w : World) (device : ℕ) (p : PortWord) (d : ℕ) (v : Domain) (e : ℕ) (o : Option Domain) → IsBackedBy w device p d v → d ≢ e
    → IsBacked (record w { domains = put e o w.domains }) device p
with_put w device p d v e o b ne =
    backed_in (record w { domains = put e o w.domains }) device p d v
    (record { attached = b.attached; there = put_other e o w.domains d ne ∙ b.there; backs = b.backs })

-- another device is attached or detached
with_device : (w : World) (device : ℕ) (p : PortWord) (d : ℕ) (v : Domain) (other : ℕ) (o : Option ℕ) → IsBackedBy w device p d v
    → device ≢ other → IsBacked (record w { devices = put other o w.devices }) device p
with_device w device p d v other o b ne =
    backed_in (record w { devices = put other o w.devices }) device p d v
    (record { attached = put_other other o w.devices device ne ∙ b.attached; there = b.there; backs = b.backs })

-- a domain changes; where it is the device's, it still backs the word
with_change : (w : World) (device : ℕ) (p : PortWord) (d : ℕ) (v : Domain) (e : ℕ) (change : Domain → Domain) → IsBackedBy w device p d v
    → (w.devices device ≡ Some e → w.domains e ≡ Some v → Backs (change v) p) → IsBacked (with_domain e change w) device p
with_change w device p d v e change b still = elim (same_or_not d e) [
  | inl same ↦
      let there : w.domains e ≡ Some v = ap w.domains (sym same) ∙ b.there in
      let attached : w.devices device ≡ Some e = b.attached ∙ ap Some same in
      backed_in (with_domain e change w) device p e (change v) (record {
        attached = attached;
        there = put_same e (change_of change (w.domains e)) w.domains ∙ ap (change_of change) there;
        backs = still attached there;
      })
  | inr ne ↦ with_put w device p d v e (change_of change (w.domains e)) b ne
]

-- ---- what domains still back

backs_mapped : (v : Domain) (p : PortWord) (ss : List Segment) (first rights : ℕ)
    → AreFreePages v (record { first = first; pages = total_pages ss }) → Backs v p → Backs (mapped ss first rights v) p
backs_mapped v p ss first rights free b = (b.0, elim b.1 [ inl live ↦ inl (stays live) | inr retired ↦ inr retired ], b.2, b.3)
  where
    stays : v.live p.page ≡ Some b.0 → (mapped ss first rights v).live p.page ≡ Some b.0
    stays live =
        second_of (placed ss first rights p.page) (v.live p.page)
        (λ t e. none_is_no (v.live p.page) b.0 (free p.page (placed_within ss first rights p.page t e)).1.not_live live) ∙ live

backs_put_off : (v : Domain) (p : PortWord) (range : Range) → Backs v p → Backs (put_off range v) p
backs_put_off v p range b = (
  b.0,
  elim b.1 [
    | inl live ↦ moves live
    | inr retired ↦
        inr (retired.0, in_left retired.0 v.retired (record_of range v ∷ []) retired.1, retired.2, retired.3)
  ],
  b.2,
  b.3,
)
  where
    moves : v.live p.page ≡ Some b.0 → IsLive (put_off range v) p.page b.0 ⊎ IsRetired (put_off range v) p.page b.0
    moves live = elim (within_or_not range p.page) [
      | inl here ↦ inr (record_of range v, in_last (record_of range v) v.retired, here, restricted_here range v.live p.page here ∙ live)
      | inr past ↦ inl (without_else range v.live p.page past ∙ live)
    ]

-- an unmap that takes nothing away
backs_unmapped : (v : Domain) (p : PortWord) (range : Range) (mode : Mode) (released : ℕ) → (TakesAway mode released → ⊥)
    → IsUnmapAnswer mode v.retired (Unmapped released) → Backs v p → Backs (unmapped_by mode range v) p
backs_unmapped v p range modes.Strict released keeps answer b = absurd (keeps tt)
backs_unmapped v p range modes.Lazy released keeps (inl full) b = absurd (keeps (ap released_in full.1))
  where
    released_in : Reply → ℕ
    released_in (Unmapped n) = n
    released_in _ = 0
backs_unmapped v p range modes.Lazy released keeps (inr room) b =
    let same : with_room v ≡ v = rw (ne_eqb (length v.retired) MOST_RECORDS room.0) refl in
    subst (λ (u : Domain). Backs (put_off range u) p) (sym same) (backs_put_off v p range b)

-- ---- the law

id_in : Reply → ℕ
id_in (Made d) = d
id_in _ = 0

keeps_map : (w : World) (domain : ℕ) (ss : List Segment) (order rights address device : ℕ) (p : PortWord) (d : ℕ) (v : Domain)
    → IsMapAnswer w domain ss order (Mapped address) → IsBackedBy w device p d v
    → IsBacked (with_domain domain (mapped ss (address / PAGE_BYTES) rights) w) device p
keeps_map w domain ss order rights address device p d v answer b =
    with_change w device p d v domain (mapped ss (address / PAGE_BYTES) rights) b
    (λ attached there. backs_mapped v p ss (address / PAGE_BYTES) rights (map_start w domain ss order address answer v there) b.backs)

keeps_backed : (w : World) (call : Call) (reply : Reply) (device : ℕ) (p : PortWord) (d : ℕ) (v : Domain) → IsStep w call reply
    → (IsCleared w call reply device → ⊥) → IsBackedBy w device p d v → IsBacked (next w call reply) device p
unfolding next IsStep Answers IsCleared Stands id_in
keeps_backed w (calls.Domain mode width) (Made made) device p d v step keeps b =
    let is : made ≡ step.1.0 = ap id_in step.1.2 in
    with_put w device p d v made (Some (empty_domain mode width)) b
    (λ same. is_no_none (w.domains step.1.0) v step.1.1.2 (ap w.domains (sym (same ∙ is)) ∙ b.there))
keeps_backed w (calls.Drop domain) Done device p d v step keeps b =
    with_put w device p d v domain None b (λ same. step.0.1.0 (inl (device, b.attached ∙ ap Some same)))
keeps_backed w (calls.Attach other domain) Done device p d v step keeps b =
    with_device w device p d v other (Some domain) b
    (λ same. step.0.1.1.0 (is_some (w.devices other) d (ap w.devices (sym same) ∙ b.attached)))
keeps_backed w (calls.Detach other) Done device p d v step keeps b = with_device w device p d v other None b keeps
keeps_backed w (calls.Map domain frame pages order rights) (Mapped address) device p d v step keeps b =
    keeps_map w domain (record { frame = frame; pages = pages } ∷ []) order rights address device p d v step.1 b
keeps_backed w (calls.MapList domain order rights segments) (Mapped address) device p d v step keeps b =
    keeps_map w domain segments.items order rights address device p d v step.1 b
keeps_backed w (calls.Unmap domain address pages) (Unmapped released) device p d v step keeps b =
    with_change w device p d v domain (λ u. unmapped_by u.mode (range_at address pages) u) b
    (λ attached there.
    backs_unmapped v p (range_at address pages) v.mode released
    (λ away. keeps (attached, of_is (w.domains domain) v (λ u. TakesAway u.mode released) there away))
    (some_and (w.domains domain) v (λ u. IsUnmapAnswer u.mode u.retired (Unmapped released)) there step.1) b.backs)
keeps_backed w (calls.Flush domain) (Flushed released) device p d v step keeps b =
    with_change w device p d v domain flushed b (λ attached there. absurd (keeps attached))
keeps_backed w (calls.Begin domain) (Ticket other number) device p d v step keeps b =
    with_change w device p d v domain begun_once_more b (λ attached there. b.backs)
keeps_backed w (calls.Reap domain number) (Reaped released) device p d v step keeps b =
    with_change w device p d v domain (reaped number) b (λ attached there. absurd (keeps attached))
keeps_backed w call _ device p d v step keeps b = backed_in w device p d v b

pub keeps : (w : World) (call : Call) (reply : Reply) (device word : ℕ)
    → IsStep w call reply → IsLawful w device word → (IsCleared w call reply device → ⊥)
    → IsLawful (next w call reply) device word
unfolding IsLawful
keeps w call reply device word step (inl empty) cleared = inl empty
keeps w call reply device word step (inr x) cleared =
    let b = backed_by w device x.0 x.2 in
    inr (x.0, x.1, keeps_backed w call reply device x.0 b.0 b.1 step cleared b.2)
