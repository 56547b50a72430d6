-- The word that a request fills.
use Rattle.std.proofs.Common.{◌≡◌, ◌⊎◌, ◌<◌, ℕ, inl, inr, true, false, List, refl, sym, ap, subst, ◌∙◌, arith, get_or-set_other}
use Rattle.std.specs.Prelude.{Option, None, Some, IsSomeAnd, slice_index, slice_set}
use mathlib.Core.Logic.{dite}
use native.Mathlib.Decide.{ℕ_discrete}
use Rattle.dmatypes.specs.Allows.{domain_of_device}
use Rattle.dmatypes.specs.Page.{IsPage, page_of}
use Rattle.dmatypes.specs.Rights.{Permits, bits_of}
use Rattle.dmatypes.specs.World.{Domain, Target, World, IsLive, IsRetired}
use Rattle.dmatypes.specs.declared.call.Access.{Access}
use Rattle.dmatypes.specs.declared.call.Call.{Call}
use Rattle.dmatypes.specs.declared.call.Call.TheVariants as calls
use Rattle.dmatypes.specs.declared.call.Whim.{Whim}
use Rattle.dmatypes.specs.declared.reply.Event.{Event}
use Rattle.dmatypes.specs.declared.reply.Reply.{Reply}
use Rattle.dmatypes.specs.declared.reply.Reply.TheVariants.{Host}
use Rattle.dmatypes.specs.History.{IsLegal, after}
use Rattle.engine.specs.Hits.{Has, IsHitIn}
use Rattle.ports.specs.Lawful.{Backs, IsBacked, IsLawfulAfter}
use Rattle.ports.specs.Steps.{AreLawful, place_of, slot_of}
use Rattle.ports.proofs.histories.LawfulWords.{backed_word}
use Rattle.ports.proofs.lists.Members.{followed, is_of, none_is_no, of_is}
use Rattle.ports.proofs.histories.Worlds.{IsSoundDomain, sound_after}
use Rattle.unit.specs.declared.hit.Hit.{Hit}
use Rattle.dmatypes.specs.declared.limits.TheConstants.{DEVICES}
use Rattle.vtdbits.specs.Port.{Spells}
use Rattle.vtdbits.specs.Translation.{target}
use Rattle.vtdbits.specs.declared.port.PortWord.{PortWord}
use Rattle.manager.specs.Words.{AreFilled, IsFilled, IsFilledIf, IsHad}

-- what a request with a hit was answered, and that its device's domain has the page
pub record Reached (w : World) (device address : ℕ) (access : Access) (reply : Reply) (hit : Hit) : Type 0 where
  pub host : ℕ
  pub answer : reply ≡ Host host
  pub low : device < DEVICES
  pub had : IsSomeAnd (domain_of_device w device) (λ v. Has v address access hit)

reached_by : (w : World) (device address : ℕ) (access : Access) (whim : Whim) (reply : Reply) (hit : Hit)
    → IsHitIn w (calls.Dma device address access whim) reply (Some hit) → Reached w device address access reply hit
unfolding IsHitIn
reached_by w device address access whim (Host host) hit is = record { host = host; answer = refl; low = is.1; had = is.2 }
reached_by w device address access whim _ hit is = absurd (none_is_no (Some hit) hit is refl)

pub reached : (w : World) (call : Call) (reply : Reply) (found : Option Hit) (device address : ℕ) (access : Access) (whim : Whim)
    (hit : Hit) → call ≡ calls.Dma device address access whim → found ≡ Some hit → IsHitIn w call reply found
    → Reached w device address access reply hit
reached w call reply found device address access whim hit same is there =
    reached_by w device address access whim reply hit (rw (same, is) at there)

-- ---- its page

page_had : (v : Domain) (address : ℕ) (access : Access) (hit : Hit) → IsSoundDomain v → Has v address access hit → IsPage (page_of address)
page_had v address access hit sound has = elim has.page [
  | inl live ↦ (sound.live (page_of address) (target hit.frame (bits_of hit.rights)) live).0
  | inr retired ↦ (sound.retired retired.0 (page_of address) (target hit.frame (bits_of hit.rights)) retired.1 retired.3).0
]

-- it is a page
pub hit_page : (frames : ℕ) (history : List Event) (device address : ℕ) (access : Access) (reply : Reply) (hit : Hit)
    → IsLegal frames history → Reached (after frames history) device address access reply hit → IsPage (page_of address)
hit_page frames history device address access reply hit legal r =
    let w = after frames history in
    let v = is_of (domain_of_device w device) (λ v. Has v address access hit) r.had in
    let d = followed w.domains (w.devices device) v.0 v.1 in
    page_had v.0 address access hit (sound_after frames history legal d.0 v.0 d.2) v.2

-- ---- its word

module _ (v : Domain) (p : PortWord) (address : ℕ) (access : Access) (hit : Hit) (page : p.page ≡ page_of address)
    (to : p.translation ≡ target hit.frame (bits_of hit.rights)) where
  backs_hit : Has v address access hit → Backs v p
  backs_hit has =
      let t = target hit.frame (bits_of hit.rights) in (
        t,
        elim has.page [
          | inl live ↦ inl (subst (λ q. IsLive v q t) (sym page) live)
          | inr retired ↦ inr (subst (λ q. IsRetired v q t) (sym page) retired)
        ],
        ap (λ (x : Target). x.frame) (sym to),
        λ other permits. subst (λ (x : Target). Permits x.rights other) to permits,
      )

  has_hit : Has v address access hit → IsLive v p.page p.translation ⊎ IsRetired v p.page p.translation
  has_hit has = rw (page, to) has.page

-- the word of the hit is backed, and spells the page as its domain has it
pub hit_backed : (w : World) (p : PortWord) (device address : ℕ) (access : Access) (reply : Reply) (hit : Hit) → p.page ≡ page_of address
    → p.translation ≡ target hit.frame (bits_of hit.rights) → Reached w device address access reply hit → IsBacked w device p
hit_backed w p device address access reply hit page to r =
    let v = is_of (domain_of_device w device) (λ v. Has v address access hit) r.had in
    of_is (domain_of_device w device) v.0 (λ v. Backs v p) v.1 (backs_hit v.0 p address access hit page to v.2)

hit_had : (w : World) (p : PortWord) (device address : ℕ) (access : Access) (reply : Reply) (hit : Hit) → p.page ≡ page_of address
    → p.translation ≡ target hit.frame (bits_of hit.rights) → Reached w device address access reply hit → IsHad w device p
hit_had w p device address access reply hit page to r =
    let v = is_of (domain_of_device w device) (λ v. Has v address access hit) r.had in
    of_is (domain_of_device w device) v.0 (λ v. IsLive v p.page p.translation ⊎ IsRetired v p.page p.translation) v.1
    (has_hit v.0 p address access hit page to v.2)

-- ---- filled

filled_with : (w : World) (device address : ℕ) (access : Access) (whim : Whim) (host : ℕ) (last last' : List ℕ) → whim.fill ≡ true
    → IsFilled w device address last last' → AreFilled w (calls.Dma device address access whim) (Host host) last last'
unfolding AreFilled
filled_with w device address access whim host last last' fill is = subst (λ b. IsFilledIf b w device address last last') (sym fill) is

pub filled : (w : World) (call : Call) (reply : Reply) (device address : ℕ) (access : Access) (whim : Whim) (hit : Hit) (p : PortWord)
    (last last' : List ℕ) → call ≡ calls.Dma device address access whim → whim.fill ≡ true → p.page ≡ page_of address
    → p.translation ≡ target hit.frame (bits_of hit.rights) → Reached w device address access reply hit
    → Spells (slice_index last' (place_of device (slot_of p.page))) p
    → last' ≡ slice_set last (place_of device (slot_of p.page)) (slice_index last' (place_of device (slot_of p.page)))
    → AreFilled w call reply last last'
filled w call reply device address access whim hit p last last' same fill page to r spelled others =
    rw (same, r.answer) (filled_with w device address access whim r.host last last' fill (record {
      word = p;
      page = page;
      had = hit_had w p device address access reply hit page to r;
      spelled = subst (λ q. Spells (slice_index last' (place_of device (slot_of q))) p) page spelled;
      others =
          subst (λ q. last' ≡ slice_set last (place_of device (slot_of q)) (slice_index last' (place_of device (slot_of q)))) page others;
    }))

-- ---- not filled

off_with : (w : World) (device address : ℕ) (access : Access) (whim : Whim) (reply : Reply) (last : List ℕ) → whim.fill ≡ false
    → AreFilled w (calls.Dma device address access whim) reply last last
unfolding AreFilled
off_with w device address access whim (Host host) last off = subst (λ b. IsFilledIf b w device address last last) (sym off) refl
off_with w device address access whim _ last off = refl

-- without fill
pub not_filled : (w : World) (call : Call) (reply : Reply) (device address : ℕ) (access : Access) (whim : Whim) (last : List ℕ)
    → call ≡ calls.Dma device address access whim → whim.fill ≡ false → AreFilled w call reply last last
not_filled w call reply device address access whim last same off = rw same (off_with w device address access whim reply last off)

missed : (w : World) (device address : ℕ) (access : Access) (whim : Whim) (reply : Reply) (last : List ℕ)
    → IsHitIn w (calls.Dma device address access whim) reply None → AreFilled w (calls.Dma device address access whim) reply last last
unfolding AreFilled IsHitIn
missed w device address access whim (Host host) last is = absurd is
missed w device address access whim _ last is = refl

-- without a hit
pub missed_is : (w : World) (call : Call) (reply : Reply) (found : Option Hit) (device address : ℕ) (access : Access) (whim : Whim)
    (last : List ℕ) → call ≡ calls.Dma device address access whim → ((hit : Hit) → found ≡ Some hit → ⊥) → IsHitIn w call reply found
    → AreFilled w call reply last last
missed_is w call reply None device address access whim last same none is =
    rw same (missed w device address access whim reply last (rw same at is))
missed_is w call reply (Some hit) device address access whim last same none is = absurd (none hit refl)

-- at any other call
pub other_is : (w : World) (call : Call) (reply : Reply) (last : List ℕ)
    → ((d a : ℕ) (x : Access) (y : Whim) → call ≡ calls.Dma d a x y → ⊥) → AreFilled w call reply last last
unfolding AreFilled
other_is w (calls.Dma d a x y) reply last not = absurd (not d a x y refl)
other_is w _ reply last not = refl

-- ---- lawful

pub lawful_filled : (frames : ℕ) (history : List Event) (device n : ℕ) (p : PortWord) (last last' : List ℕ) → device < 16
    → AreLawful (IsLawfulAfter frames) history last → Spells (slice_index last' (place_of device (slot_of p.page))) p
    → IsBacked (after frames history) device p → last' ≡ slice_set last (place_of device (slot_of p.page)) n
    → AreLawful (IsLawfulAfter frames) history last'
lawful_filled frames history device n p last last' low lawful spelled backed is d slot hd hs =
    dite (ℕ_discrete (place_of d slot) (place_of device (slot_of p.page)))
    (λ e.
    let same : device ≡ d = omega (arith, e, low, hd, hs) in
    subst (λ (x : ℕ). IsLawfulAfter frames history x (slice_index last' (place_of d slot))) same
    (subst (λ (k : ℕ). IsLawfulAfter frames history device (slice_index last' k)) (sym e)
    (backed_word frames history device (slice_index last' (place_of device (slot_of p.page))) p spelled backed)))
    (λ ne.
    subst (IsLawfulAfter frames history d)
    (sym (ap (λ (l : List ℕ). slice_index l (place_of d slot)) is
    ∙ get_or-set_other last (place_of device (slot_of p.page)) (place_of d slot) n 0 ne))
    (lawful d slot hd hs))
