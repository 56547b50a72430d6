-- Which host addresses a request may come to by a record.
use Rattle.std.proofs.Common.{◌≡◌, inl, inr, ℕ, ◌/◌, ◌%◌, ◌+◌, Bool, true, false, cond, List, [], ◌∷◌, Option, None, Some, refl, sym, ap}
use Rattle.std.proofs.Common.{subst, ◌∙◌}
use Rattle.std.specs.Prelude.{nat_lt, nat_le}
use Rattle.std.specs.List.{list_any}
use Rattle.std.proofs.lemmas.Bool.{and_parts, and_from, ltb-true, leb-true, eq-eqb, eqb-true}
use Rattle.dmatypes.specs.declared.call.Access.{Access}
use Rattle.dmatypes.specs.declared.call.Access.TheVariants.{Read, Write}
use Rattle.dmatypes.specs.declared.reply.Reply.{Reply}
use Rattle.dmatypes.specs.declared.reply.Reply.TheVariants.{Made, Done, Mapped, Unmapped, Flushed, Ticket, Stepped, Reaped, Pending, Host}
use Rattle.dmatypes.specs.declared.reply.Reply.TheVariants.{Faulted, Refused}
use Rattle.dmatypes.specs.Page.{IsBeyond, IsWithin, Range, byte_address, offset_of, page_of}
use Rattle.dmatypes.specs.Rights.{Permits}
use Rattle.dmatypes.specs.Allows.{IsLiveFor, IsRetiredFor, fault_of, host_of}
use Rattle.dmatypes.specs.World.{IsIn, Retired, Target, is_within}
use Rattle.dmatypes.proofs.numbers.Ranges.{within_is}
use Rattle.checker.specs.declared.domain.Domain.{Domain}
use Rattle.checker.specs.declared.record.Record.{Record}
use Rattle.checker.specs.Taken.{taken_at}
use Rattle.checker.specs.Allowed.{AreAllowedIn}
use Rattle.checker.specs.Reaching.{hosts, hosts_by, hosts_in, is_host, permits, reaches, reaches_by}
use Rattle.checker.specs.World.{domain_of, retired_of}
use Rattle.checker.proofs.lists.Members.{any_in, in_any, in_flat_map, in_map, to_flat_map, to_map}

pub permitted : (rights : ℕ) (access : Access) → permits rights access ≡ true → Permits rights access
permitted rights Read e = eqb-true (rights % 2) 1 e
permitted rights Write e = eqb-true ((rights / 2) % 2) 1 e

pub to_permit : (rights : ℕ) (access : Access) → Permits rights access → permits rights access ≡ true
to_permit rights Read h = eq-eqb (rights % 2) 1 h
to_permit rights Write h = eq-eqb ((rights / 2) % 2) 1 h

pub host_is : (t : Target) (address : ℕ) (reply : Reply) → is_host t address reply ≡ true → reply ≡ Host (host_of t address)
host_is t address (Host host) e = ap Host (eqb-true host (byte_address t.frame (offset_of address)) e)
host_is t address (Made x) e = absurd cc
host_is t address Done e = absurd cc
host_is t address (Mapped x) e = absurd cc
host_is t address (Unmapped x) e = absurd cc
host_is t address (Flushed x) e = absurd cc
host_is t address (Ticket x y) e = absurd cc
host_is t address (Stepped x) e = absurd cc
host_is t address (Reaped x) e = absurd cc
host_is t address Pending e = absurd cc
host_is t address (Faulted x) e = absurd cc
host_is t address (Refused x) e = absurd cc

pub to_host : (t : Target) (address : ℕ) (reply : Reply) → reply ≡ Host (host_of t address) → is_host t address reply ≡ true
to_host t address reply e = ap (is_host t address) e ∙ eq-eqb (host_of t address) (host_of t address) refl

abbrev ComesBy : ℕ → Access → Reply → Option Target → Type 0
ComesBy address access reply o = (t : Target) × (o ≡ Some t) × Permits t.rights access × (reply ≡ Host (host_of t address))

comes_by : (address : ℕ) (access : Access) (reply : Reply) (o : Option Target) → reaches_by address access reply o ≡ true
    → ComesBy address access reply o
comes_by address access reply None e = absurd cc
comes_by address access reply (Some t) e =
    let both = and_parts (permits t.rights access) (is_host t address reply) e in
    (t, refl, permitted t.rights access both.0, host_is t address reply both.1)

to_come : (address : ℕ) (access : Access) (reply : Reply) (o : Option Target) (t : Target) → o ≡ Some t → Permits t.rights access
    → reply ≡ Host (host_of t address) → reaches_by address access reply o ≡ true
to_come address access reply o t is may host =
    ap (reaches_by address access reply) is
    ∙ and_from (permits t.rights access) (is_host t address reply) (to_permit t.rights access may) (to_host t address reply host)

pub is_inside : (r : Range) (p : ℕ) → is_within r p ≡ true → IsWithin r p
is_inside r p e =
    let both = and_parts (nat_le r.first p) (nat_lt p (r.first + r.pages)) e in
    (leb-true r.first p both.0, ltb-true p (r.first + r.pages) both.1)

abbrev pub Reached : Domain → ℕ → Access → Reply → Type 0
Reached d address access reply =
    (t : Target) × IsRetiredFor (domain_of d) address access t × (reply ≡ Host (host_of t address))

abbrev pub reaches_some : Domain → ℕ → Access → Reply → Bool
reaches_some d address access reply = list_any (λ r. reaches address access reply r) d.retired.items

pub reached : (d : Domain) (address : ℕ) (access : Access) (reply : Reply) → reaches_some d address access reply ≡ true
    → Reached d address access reply
reached d address access reply e =
    let p = page_of address in
    let k = any_in (λ (r : Record). reaches address access reply r) d.retired.items e in
    let both = and_parts (is_within k.0.range p) (reaches_by address access reply (taken_at k.0.targets p)) k.2 in
    let c = comes_by address access reply (taken_at k.0.targets p) both.1 in (
      c.0,
      ((retired_of k.0, to_map retired_of k.0 d.retired.items k.1, is_inside k.0.range p both.0, c.1), c.2),
      c.3,
    )

pub to_reach : (d : Domain) (address : ℕ) (access : Access) (reply : Reply) → Reached d address access reply
    → reaches_some d address access reply ≡ true
to_reach d address access reply h =
    let p = page_of address in
    let retired = h.1.0 in
    let k = in_map retired_of retired.0 d.retired.items retired.1 in
    let within : IsWithin k.0.range p = subst (λ (r : Retired). IsWithin r.range p) k.2 retired.2 in
    let at : taken_at k.0.targets p ≡ Some h.0 = subst (λ (r : Retired). r.targets p ≡ Some h.0) k.2 retired.3 in
    in_any (λ (r : Record). reaches address access reply r) k.0 d.retired.items k.1
    (and_from (is_within k.0.range p) (reaches_by address access reply (taken_at k.0.targets p)) (within_is k.0.range p within)
    (to_come address access reply (taken_at k.0.targets p) h.0 at h.1.1 h.2))

-- ---- all answers, where no live page has the right

in_hosts_by : (address : ℕ) (access : Access) (reply : Reply) (o : Option Target) → IsIn reply (hosts_by address access o)
    → ComesBy address access reply o
in_hosts_by address access reply None h = absurd h
in_hosts_by address access reply (Some t) h =
    elim (permits t.rights access)
    as (λ b. permits t.rights access ≡ b → IsIn reply (cond b (Host (host_of t address) ∷ []) []) → ComesBy address access reply (Some t)) [
      | true ↦ λ is k. elim k [ inl e ↦ (t, refl, permitted t.rights access is, e) | inr none ↦ absurd none ]
      | false ↦ λ is k. absurd k
    ] refl h

to_hosts_by : (address : ℕ) (access : Access) (reply : Reply) (o : Option Target) → ComesBy address access reply o
    → IsIn reply (hosts_by address access o)
to_hosts_by address access reply o h =
    subst (λ (x : Option Target). IsIn reply (hosts_by address access x)) (sym h.1) (rw (to_permit h.0.rights access h.2) (inl h.3))

in_hosts_in : (address : ℕ) (access : Access) (reply : Reply) (r : Record) → IsIn reply (hosts_in address access r)
    → IsWithin r.range (page_of address) × ComesBy address access reply (taken_at r.targets (page_of address))
in_hosts_in address access reply r h =
    let p = page_of address in
    elim (is_within r.range p)
    as (λ b. is_within r.range p ≡ b → IsIn reply (cond b (hosts_by address access (taken_at r.targets p)) [])
    → IsWithin r.range p × ComesBy address access reply (taken_at r.targets p)) [
      | true ↦ λ is k. (is_inside r.range p is, in_hosts_by address access reply (taken_at r.targets p) k)
      | false ↦ λ is k. absurd k
    ] refl h

to_hosts_in : (address : ℕ) (access : Access) (reply : Reply) (r : Record) → IsWithin r.range (page_of address)
    → ComesBy address access reply (taken_at r.targets (page_of address)) → IsIn reply (hosts_in address access r)
to_hosts_in address access reply r within h =
    rw (within_is r.range (page_of address) within) (to_hosts_by address access reply (taken_at r.targets (page_of address)) h)

in_hosts : (d : Domain) (address : ℕ) (access : Access) (reply : Reply) → IsIn reply (hosts address access d.retired.items)
    → Reached d address access reply
in_hosts d address access reply h =
    let k = in_flat_map (hosts_in address access) reply d.retired.items h in
    let by = in_hosts_in address access reply k.0 k.2 in
    (by.1.0, ((retired_of k.0, to_map retired_of k.0 d.retired.items k.1, by.0, by.1.1), by.1.2), by.1.3)

to_hosts : (d : Domain) (address : ℕ) (access : Access) (reply : Reply) → Reached d address access reply
    → IsIn reply (hosts address access d.retired.items)
to_hosts d address access reply h =
    let p = page_of address in
    let retired = h.1.0 in
    let k = in_map retired_of retired.0 d.retired.items retired.1 in
    let within : IsWithin k.0.range p = subst (λ (r : Retired). IsWithin r.range p) k.2 retired.2 in
    let at : taken_at k.0.targets p ≡ Some h.0 = subst (λ (r : Retired). r.targets p ≡ Some h.0) k.2 retired.3 in
    to_flat_map (hosts_in address access) reply k.0 d.retired.items k.1
    (to_hosts_in address access reply k.0 within (h.0, at, h.1.1, h.2))

pub stale_allowed : (d : Domain) (address : ℕ) (access : Access) (replies : List Reply) → (IsBeyond d.width address → ⊥)
    → ((t : Target) → IsLiveFor (domain_of d) address access t → ⊥)
    → replies ≡ Faulted (fault_of access) ∷ hosts address access d.retired.items → AreAllowedIn (domain_of d) address access replies
stale_allowed d address access replies near none is = λ reply. (
  λ there. elim (subst (λ (rs : List Reply). IsIn reply rs) is there) [
    | inl fault ↦ inr (near, inr (none, inr fault))
    | inr k ↦ inr (near, inr (none, inl (in_hosts d address access reply k)))
  ],
  λ allowed. subst (λ (rs : List Reply). IsIn reply rs) (sym is) (elim allowed [
    | inl beyond ↦ absurd (near beyond.0)
    | inr within ↦ elim within.1 [
      | inl live ↦ absurd (none live.0 live.1)
      | inr others ↦ elim others.1 [
        | inl stale ↦ inr (to_hosts d address access reply stale)
        | inr fault ↦ inl fault
      ]
    ]
  ]),
)
