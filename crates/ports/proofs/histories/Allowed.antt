-- What a lawful word states is allowed to the device.
use Rattle.std.proofs.Common.{◌≡◌, ℕ, inl, inr, List, Option, Some, None, IsSomeAnd, refl, sym, ap, subst, ◌∙◌, arith}
use Rattle.dmatypes.specs.declared.call.Access.{Access}
use Rattle.dmatypes.specs.declared.reply.Event.{Event}
use Rattle.dmatypes.specs.declared.reply.Reply.TheVariants.{Host}
use Rattle.dmatypes.specs.Page.{IsBeyond, IsPageOf, byte_address, offset_of, page_of}
use Rattle.dmatypes.specs.declared.width.Width.{Width}
use Rattle.dmatypes.specs.declared.width.Width.TheVariants.{W39, W48}
use Rattle.dmatypes.specs.Rights.{Permits}
use Rattle.dmatypes.specs.World.{Target, Domain, World, IsLive, IsRetired}
use Rattle.dmatypes.specs.Allows.{Allows, AllowsIn, AllowsTo, domain_of_device, host_of}
use Rattle.dmatypes.specs.History.{IsLegal, after}
use Rattle.vtdbits.specs.Port.{IsEmptyOrSpelling, Spells, States}
use Rattle.vtdbits.specs.declared.port.PortWord.{PortWord}
use Rattle.vtdbits.proofs.Ports.{not_empty, one_value}
use Rattle.ports.specs.Lawful.{Backs, IsBacked, IsLawful, IsLawfulAfter}
use Rattle.ports.proofs.lists.Members.{followed, none_is_no}
use Rattle.ports.proofs.histories.Worlds.{IsSoundDomain, IsSoundWorld, sound_after}

-- a lawful word is empty or a spelling
pub spelled_word : (frames : ℕ) (history : List Event) (device word : ℕ) → IsLawfulAfter frames history device word → IsEmptyOrSpelling word
unfolding IsLawful
spelled_word frames history device word (inl empty) = inl empty
spelled_word frames history device word (inr x) = inr (x.0, x.1)

-- a page within the width
not_beyond : (width : Width) (address : ℕ) → IsPageOf width (page_of address) → IsBeyond width address → ⊥
not_beyond W39 address is beyond = omega (arith, is.1, beyond)
not_beyond W48 address is beyond = omega (arith, is.1, beyond)

-- what a domain backs, it allows
in_domain : (v : Domain) (p : PortWord) (address : ℕ) (access : Access) → IsSoundDomain v → Backs v p → p.page ≡ page_of address
    → Permits p.translation.rights access
    → AllowsIn v address access (Host (host_of p.translation address))
in_domain v p address access s backs page permits =
    let t : Target = backs.0 in
    let may : Permits t.rights access = backs.3 access permits in
    let host : Host (host_of p.translation address) ≡ Host (host_of t address) =
    ap (λ (f : ℕ). Host (byte_address f (offset_of address))) (sym backs.2) in
    elim backs.1 [
      | inl live ↦
          let here : IsLive v (page_of address) t = ap v.live (sym page) ∙ live in
          inr (not_beyond v.width address (s.live (page_of address) t here), inl (t, (here, may), host))
      | inr retired ↦
          let here : IsRetired v (page_of address) t = subst (λ (q : ℕ). IsRetired v q t) page retired in
          inr (
            not_beyond v.width address (s.retired here.0 (page_of address) t here.1 here.3),
            inr (
              λ u live. none_is_no (v.live (page_of address)) u (s.apart here.0 (page_of address) here.1 here.2) live.0,
              inl (t, (here, may), host),
            ),
          )
    ]

to_device : (o : Option Domain) (p : PortWord) (address : ℕ) (access : Access) → ((v : Domain) → o ≡ Some v → IsSoundDomain v)
    → IsSomeAnd o (λ v. Backs v p) → p.page ≡ page_of address
    → Permits p.translation.rights access → AllowsTo o address access (Host (host_of p.translation address))
to_device None p address access s backs page permits = absurd backs
to_device (Some v) p address access s backs page permits = in_domain v p address access (s v refl) backs page permits

allowed_backed : (w : World) (device : ℕ) (p : PortWord) (address : ℕ) (access : Access) → IsSoundWorld w → IsBacked w device p
    → p.page ≡ page_of address → Permits p.translation.rights access
    → Allows w device address access (Host (host_of p.translation address))
unfolding Allows
allowed_backed w device p address access s backed page permits =
    to_device (domain_of_device w device) p address access
    (λ v at. let x = followed w.domains (w.devices device) v at in s x.0 v x.2) backed page permits

-- what a lawful word states is allowed after the history
pub allowed_word : (frames : ℕ) (history : List Event) (device word address : ℕ) (access : Access) (host : ℕ) → IsLegal frames history
    → IsLawfulAfter frames history device word → States word address access host
    → Allows (after frames history) device address access (Host host)
unfolding IsLawful
allowed_word frames history device word address access host legal (inl empty) states =
    absurd (not_empty states.0 (subst (λ (n : ℕ). Spells n states.0) empty states.1))
allowed_word frames history device word address access host legal (inr x) states =
    let same : x.0 ≡ states.0 = one_value word x.0 states.0 x.1 states.1 in
    subst (λ (h : ℕ). Allows (after frames history) device address access (Host h)) (sym states.4)
    (allowed_backed (after frames history) device states.0 address access (sound_after frames history legal)
    (subst (λ (q : PortWord). IsBacked (after frames history) device q) same x.2) states.2 states.3)
