-- How a domain changes while tickets of it are open: its records either were there, or came later than all its begun flushes.
use Rattle.std.proofs.Common.{◌≡◌, ◌≢◌, ℕ, zero, suc, ◌+◌, ◌-◌, ◌<◌, ◌≤◌, ◌⊎◌, inl, inr, List, Option, Some, length}
use Rattle.std.proofs.Common.{sym, ap, subst, ◌∙◌, arith, slice_set}
use Rattle.std.proofs.lemmas.Option.{same_Some}
use Rattle.dmatypes.specs.World.{IsIn, put}
use Rattle.dmatypes.specs.declared.limits.TheConstants.{MOST_DOMAINS}
use Rattle.dmatypes.proofs.histories.Maps.{put_same, put_other, same_or_not}
use Rattle.engine.specs.declared.record.Record.{Record}
use Rattle.engine.specs.declared.ticket.Ticket.{Ticket}
use Rattle.engine.specs.Domains.{Domain, domain_at}
use Rattle.engine.specs.State.{State}
use Rattle.engine.proofs.domains.OneChanged.{domain_low, domain_set}

pub record Ages (h h' : Domain) : Type 0 where
  pub begun : h.begun ≤ h'.begun
  pub few : h'.begun ≤ h.begun + 1
  pub records : (r : Record) → IsIn r h'.records → IsIn r h.records ⊎ (h.begun ≤ r.mark)

pub ages_same : (h : Domain) → Ages h h
ages_same h = record { begun = omega arith; few = omega arith; records = λ r inside. inl inside }

-- with the same records, or fewer
pub ages_fewer : (h h' : Domain) → h'.begun ≡ h.begun → ((r : Record) → IsIn r h'.records → IsIn r h.records) → Ages h h'
ages_fewer h h' begun fewer =
    record { begun = omega (arith, begun); few = omega (arith, begun); records = λ r inside. inl (fewer r inside) }

-- each domain of which a ticket is open does so
abbrev pub AgeAll : State → State → Type 0
AgeAll m t =
    (x : Ticket) → IsIn x m.tickets → (h : Domain) → domain_at m.domains x.domain ≡ Some h
    → (h' : Domain) × (domain_at t.domains x.domain ≡ Some h') × Ages h h'

-- another domain of an id that isn't 0
pub set_at : (domains : List (Option Domain)) (d e : ℕ) (o : Option Domain) → length domains ≡ MOST_DOMAINS → 1 ≤ d → d ≤ MOST_DOMAINS
    → domain_at (slice_set domains (d - 1) o) e ≡ put d o (domain_at domains) e
set_at domains d e o many low high =
    let next : d - 1 + 1 ≡ d = omega (arith, low) in
    subst (λ (z : ℕ). domain_at (slice_set domains (d - 1) o) e ≡ put z o (domain_at domains) e) next
    (domain_set domains (d - 1) o (omega (arith, many, low, high)) e)

pub some_id : (domains : List (Option Domain)) (d : ℕ) (h : Domain) → domain_at domains d ≡ Some h → 1 ≤ d
some_id domains zero h there = absurd cc
some_id domains (suc i) h there = omega arith

-- no domain changes
pub none_ages : (m t : State) → t.domains ≡ m.domains → AgeAll m t
none_ages m t same x inside h there = (h, ap (λ ds. domain_at ds x.domain) same ∙ there, ages_same h)

-- the others stay where one place changes
pub others_age : (m t : State) (d : ℕ) (o : Option Domain) → length m.domains ≡ MOST_DOMAINS → 1 ≤ d → d ≤ MOST_DOMAINS
    → t.domains ≡ slice_set m.domains (d - 1) o → (x : Ticket) → x.domain ≢ d → (h : Domain) → domain_at m.domains x.domain ≡ Some h
    → (h' : Domain) × (domain_at t.domains x.domain ≡ Some h') × Ages h h'
others_age m t d o many low high is x ne h there = (
  h,
  ap (λ ds. domain_at ds x.domain) is ∙ set_at m.domains d x.domain o many low high
      ∙ put_other d o (domain_at m.domains) x.domain ne ∙ there,
  ages_same h,
)

pub one_ages : (m t : State) (d : ℕ) (h new : Domain) → length m.domains ≡ MOST_DOMAINS → domain_at m.domains d ≡ Some h
    → t.domains ≡ slice_set m.domains (d - 1) (Some new) → Ages h new → AgeAll m t
one_ages m t d h new many there is ages x inside k at = elim (same_or_not x.domain d) [
  | inl same ↦
      let low : 1 ≤ d = some_id m.domains d h there in
      let high : d < MOST_DOMAINS + 1 = domain_low m.domains d h many there in
      let is_h : h ≡ k = same_Some h k (sym there ∙ ap (domain_at m.domains) (sym same) ∙ at) in (
        new,
        ap (λ ds. domain_at ds x.domain) is ∙ ap (domain_at (slice_set m.domains (d - 1) (Some new))) same
            ∙ set_at m.domains d d (Some new) many low (omega (arith, high)) ∙ put_same d (Some new) (domain_at m.domains),
        subst (λ (y : Domain). Ages y new) is_h ages,
      )
  | inr ne ↦
      let high : d < MOST_DOMAINS + 1 = domain_low m.domains d h many there in
      others_age m t d (Some new) many (some_id m.domains d h there) (omega (arith, high)) is x ne k at
]
