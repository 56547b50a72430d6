-- A domain is dropped: flushed, and then its tree goes.
use Rattle.std.proofs.Common.{◌≡◌, ℕ, ◌+◌, ◌<◌, inl, inr, List, [], length, Option, Some, None, refl, sym, ap, subst, ◌∙◌, slice_set}
use Rattle.std.proofs.lemmas.List.{length-set}
use Rattle.dmatypes.specs.World.{World, flushed, put}
use Rattle.dmatypes.specs.World as world
use Rattle.vtdbits.specs.declared.descriptor.Descriptor.TheVariants.{IotlbDomain}
use Rattle.engine.specs.Ending.{Closes, Destroys, Invalidates, domain_shown, status_of}
use Rattle.engine.specs.declared.iommu.Iommu.{Iommu}
use Rattle.engine.specs.Domains.{Domain, domain_at}
use Rattle.engine.specs.State.{State, operands_in}
use Rattle.engine.specs.Quarantine.{Quarantine}
use Rattle.engine.proofs.domains.Closed.{domain_gone}
use Rattle.engine.proofs.unmaps.FullList.{put_twice, same_domains}
use Rattle.dmatypes.proofs.histories.Maps.{put_other, put_same, same_or_not}
use Rattle.engine.proofs.domains.OneChanged.{domain_set}
use Rattle.engine.proofs.caches.Purged.{Purges, purges_sent}
use Rattle.engine.proofs.flushes.OneByOne.{domain_flushed, dropped_leaf, dropped_table}
use Rattle.engine.proofs.unmaps.DomainAfter.{domain_after}
use Rattle.dmatypes.specs.declared.limits.TheConstants.{MOST_DOMAINS}

module _ (m t : State) (w : World) (i : ℕ) (h : Domain) (v : world.Domain) (q : Quarantine m w) (many : length m.domains ≡ MOST_DOMAINS)
    (less : i < length m.domains)
    (there : domain_at m.domains (i + 1) ≡ Some h) (here : w.domains (i + 1) ≡ Some v) (nobody : (x : ℕ) → w.devices x ≡ Some (i + 1) → ⊥)
    (closes : Closes (operands_in m h) (i + 1) t.pool t.iommu) (domains : t.domains ≡ slice_set m.domains i None)
    (tickets : t.tickets ≡ m.tickets) where
  -- the domain and the state once the records went
  abbrev emptied : Domain
  emptied = domain_after h closes.flushed.domain.space []

  abbrev between : State
  between = record m { pool = closes.flushed.pool; domains = slice_set m.domains i (Some emptied); iommu = t.iommu }

  abbrev flushed_world : World
  flushed_world = record w { domains = put (i + 1) (Some (flushed v)) w.domains }

  invalidates : Invalidates m.iommu (IotlbDomain (i + 1)) (domain_shown m.pool h) t.iommu
  invalidates =
      subst (λ (x : Iommu). Invalidates m.iommu (IotlbDomain (i + 1)) (domain_shown m.pool h) x) (sym closes.quiet)
      closes.flushes.invalidates

  purges : Purges (IotlbDomain (i + 1)) m.iommu.unit.caches t.iommu.unit.caches
  purges = purges_sent m.iommu.ring.waiting (IotlbDomain (i + 1)) (status_of t.iommu.sent) m.iommu.unit.caches t.iommu.unit.caches
      invalidates.caches

  quarantined : Quarantine between flushed_world
  quarantined =
      domain_flushed m between w i (status_of t.iommu.sent) h v closes.flushed.domain.space q many less there here invalidates.caches
      invalidates.caching
      closes.flushes.releases refl invalidates.contexts refl

  destroys : Destroys closes.flushed.pool h.width h.root t.pool
  destroys =
      subst (λ (x : Domain). Destroys closes.flushed.pool x.width x.root t.pool) closes.flushes.same closes.destroys

  domains_between : (e : ℕ) → domain_at between.domains e ≡ put (i + 1) (Some emptied) (domain_at m.domains) e
  domains_between e = domain_set m.domains i (Some emptied) less e

  domains_then : (e : ℕ) → domain_at t.domains e ≡ put (i + 1) None (domain_at between.domains) e
  domains_then e =
      ap (λ (ds : List (Option Domain)). domain_at ds e) domains ∙ domain_set m.domains i None less e ∙ elim (same_or_not e (i + 1)) [
        | inl same ↦ rw (same, put_same (i + 1) None (domain_at m.domains), put_same (i + 1) None (domain_at between.domains)) refl
        | inr ne ↦
            put_other (i + 1) None (domain_at m.domains) e ne ∙ sym (put_other (i + 1) (Some emptied) (domain_at m.domains) e ne)
            ∙ sym (domains_between e) ∙ sym (put_other (i + 1) None (domain_at between.domains) e ne)
      ]

  pub domain_dropped : Quarantine t (record w { domains = put (i + 1) None w.domains })
  domain_dropped =
      same_domains t (record w { domains = put (i + 1) None (put (i + 1) (Some (flushed v)) w.domains) }) (put (i + 1) None w.domains)
      (λ d. put_twice (i + 1) (Some (flushed v)) None w.domains d)
      (domain_gone between t flushed_world (i + 1) emptied quarantined (length-set m.domains i (Some emptied) ∙ many)
      (domains_between (i + 1) ∙ put_same (i + 1) (Some emptied) (domain_at m.domains)) refl nobody
      (λ l inside same. dropped_leaf (i + 1) l same (purges.leaves l inside).1)
      (λ k inside same. dropped_table (i + 1) k same (purges.tables k inside).1)
      domains_then refl refl tickets destroys)
