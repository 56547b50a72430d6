-- An unmap of a lazy domain that keeps as many records as it may: they all go first.
use Rattle.std.proofs.Common.{◌≡◌, ℕ, zero, suc, ◌+◌, ◌<◌, inl, inr, List, [], ◌∷◌, ◌++◌, length, Option, Some, refl, sym, ap, subst, ◌∙◌}
use Rattle.std.proofs.Common.{slice_set}
use Rattle.dmatypes.specs.declared.call.Mode.TheVariants.{Lazy}
use Rattle.dmatypes.specs.Page.{Fits, IsPageRange}
use Rattle.dmatypes.specs.World.{World, flushed, put, put_off}
use Rattle.dmatypes.specs.World as world
use Rattle.iova.specs.Space.{Space}
use Rattle.tables.specs.Pool.{Pool}
use Rattle.vtdbits.specs.declared.descriptor.Descriptor.TheVariants.{IotlbDomain, Wait}
use Rattle.engine.specs.Ending.{RetiresAndUnmaps, ReleasesAll, left_by_all}
use Rattle.engine.specs.Domains.{Domain, domain_at}
use Rattle.engine.specs.declared.record.Record.{Record}
use Rattle.engine.specs.State.{State}
use Rattle.engine.specs.Quarantine.{MirrorsIfAny, Quarantine}
use Rattle.dmatypes.proofs.histories.Maps.{put_other, put_same, same_or_not}
use Rattle.engine.proofs.domains.OneChanged.{domain_set}
use Rattle.engine.proofs.flushes.OneByOne.{domain_flushed}
use Rattle.engine.proofs.unmaps.DomainAfter.{domain_after, lazy_put_off}
use Rattle.dmatypes.specs.declared.limits.TheConstants.{MOST_DOMAINS}

-- ---- lists and maps

set_length : {X : Type 0} (xs : List X) (i : ℕ) (x : X) → length (slice_set xs i x) ≡ length xs
set_length [] i x = refl
set_length (z ∷ xs) zero x = refl
set_length (z ∷ xs) (suc i) x = ap suc (set_length xs i x)

set_twice : {X : Type 0} (xs : List X) (i : ℕ) (x y : X) → slice_set (slice_set xs i x) i y ≡ slice_set xs i y
set_twice [] i x y = refl
set_twice (z ∷ xs) zero x y = refl
set_twice (z ∷ xs) (suc i) x y = ap (λ zs. z ∷ zs) (set_twice xs i x y)

pub put_twice : {A : Type 0} (key : ℕ) (a b : Option A) (map : ℕ → Option A) (k : ℕ) → put key b map k ≡ put key b (put key a map) k
put_twice key a b map k = elim (same_or_not k key) [
  | inl same ↦ rw (same, put_same key b map, put_same key b (put key a map)) refl
  | inr ne ↦ rw (put_other key b map k ne, put_other key b (put key a map) k ne, put_other key a map k ne) refl
]

-- a state of a world is one of each world that has the same domains
pub same_domains : (m : State) (w : World) (domains : ℕ → Option world.Domain) → ((d : ℕ) → domains d ≡ w.domains d) → Quarantine m w
    → Quarantine m (record w { domains = domains })
same_domains m w domains same q = record {
  table_frames = q.table_frames;
  domains = λ d. subst (λ (o : Option world.Domain). MirrorsIfAny m.pool.words (domain_at m.domains d) o) (sym (same d)) (q.domains d);
  caches = record {
    leaves = λ l inside. let k = q.caches.leaves l inside in (k.0, k.1, k.2, same l.domain ∙ k.3, k.4);
    tables = λ i inside. let k = q.caches.tables i inside in (k.0, k.1, k.2, same i.domain ∙ k.3, k.4);
  };
  faults = λ f inside. let was = q.faults f inside in (was.0, λ v there. was.1 v (sym (same f.domain) ∙ there));
  contexts = record { devices = q.contexts.devices; roots = q.contexts.roots; cached = q.contexts.cached };
  frames = q.frames;
  tickets = q.tickets;
}

-- ---- the call

module _ (m t : State) (w : World) (i n : ℕ) (h : Domain) (v : world.Domain) (pool1 : Pool) (space1 : Space) (q : Quarantine m w)
    (many : length m.domains ≡ MOST_DOMAINS) (less : i < length m.domains)
    (there : domain_at m.domains (i + 1) ≡ Some h) (here : w.domains (i + 1) ≡ Some v)
    (caches : t.iommu.unit.caches ≡ left_by_all (m.iommu.ring.waiting ++ IotlbDomain (i + 1) ∷ Wait n ∷ []) m.iommu.unit.caches)
    (mode : t.iommu.unit.caching ≡ m.iommu.unit.caching) (all : ReleasesAll m.pool h.space h.records pool1 space1) where
  -- the domain, the state and the world once all records went
  abbrev emptied : Domain
  emptied = domain_after h space1 []

  abbrev between : State
  between = record m { pool = pool1; domains = slice_set m.domains i (Some emptied); iommu = record m.iommu { unit = t.iommu.unit } }

  abbrev flushed_world : World
  flushed_world = record w { domains = put (i + 1) (Some (flushed v)) w.domains }

  flushed_first : Quarantine between flushed_world
  flushed_first = domain_flushed m between w i n h v space1 q many less there here caches mode all refl refl refl

  there_between : domain_at between.domains (i + 1) ≡ Some emptied
  there_between = domain_set m.domains i (Some emptied) less (i + 1) ∙ put_same (i + 1) (Some emptied) (domain_at m.domains)

  emptied_then : (h2 : Domain) (r : Record) → v.mode ≡ Lazy → IsPageRange r.range × Fits r.range h.width
      → RetiresAndUnmaps pool1 emptied r t.pool h2
      → t.domains ≡ slice_set m.domains i (Some (domain_after h h2.space (r ∷ []))) → t.iommu.contexts ≡ m.iommu.contexts
      → t.tickets ≡ m.tickets
      → Quarantine t (record w { domains = put (i + 1) (Some (put_off r.range (flushed v))) (put (i + 1) (Some (flushed v)) w.domains) })
  emptied_then h2 r lazy fits cuts domains row tickets =
      lazy_put_off between t flushed_world i emptied h2 (flushed v) r flushed_first (set_length m.domains i (Some emptied) ∙ many)
      (rw (set_length m.domains i (Some emptied)) less) there_between (put_same (i + 1) (Some (flushed v)) w.domains) lazy fits cuts refl
      (domains ∙ sym (set_twice m.domains i (Some emptied) (Some (domain_after h h2.space (r ∷ []))))) row tickets

-- all records of the domain went, and then the pages of the range were put off
pub full_put_off : (m t : State) (w : World) (i n : ℕ) (h h2 : Domain) (v : world.Domain) (r : Record) (pool1 : Pool) (space1 : Space)
    → Quarantine m w → length m.domains ≡ MOST_DOMAINS → i < length m.domains → domain_at m.domains (i + 1) ≡ Some h
    → w.domains (i + 1) ≡ Some v
    → v.mode ≡ Lazy → IsPageRange r.range × Fits r.range h.width
    → t.iommu.unit.caches ≡ left_by_all (m.iommu.ring.waiting ++ IotlbDomain (i + 1) ∷ Wait n ∷ []) m.iommu.unit.caches
    → t.iommu.unit.caching ≡ m.iommu.unit.caching → ReleasesAll m.pool h.space h.records pool1 space1
    → RetiresAndUnmaps pool1 (domain_after h space1 []) r t.pool h2
    → t.domains ≡ slice_set m.domains i (Some (domain_after h h2.space (r ∷ []))) → t.iommu.contexts ≡ m.iommu.contexts
    → t.tickets ≡ m.tickets → Quarantine t (record w { domains = put (i + 1) (Some (put_off r.range (flushed v))) w.domains })
full_put_off m t w i n h h2 v r pool1 space1 q many less there here lazy fits caches mode all cuts domains row tickets =
    same_domains t (record w { domains = put (i + 1) (Some (put_off r.range (flushed v))) (put (i + 1) (Some (flushed v)) w.domains) })
    (put (i + 1) (Some (put_off r.range (flushed v))) w.domains)
    (λ d. put_twice (i + 1) (Some (flushed v)) (Some (put_off r.range (flushed v))) w.domains d)
    (emptied_then m t w i n h v pool1 space1 q many less there here caches mode all h2 r lazy fits cuts domains row tickets)
