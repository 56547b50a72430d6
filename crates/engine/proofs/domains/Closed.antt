-- A domain ends, to which no device is attached.
use Rattle.std.proofs.Common.{map, ◌≡◌, ◌≢◌, ℕ, ◌+◌, ◌<◌, inl, inr, [], length, Option, Some, None, refl, sym, ap, ◌∙◌, arith, slice_get}
use Rattle.std.proofs.lemmas.Option.{none-some}
use Rattle.dmatypes.specs.declared.width.Width.{Width}
use Rattle.dmatypes.specs.World.{World, IsIn, put}
use Rattle.dmatypes.specs.World as world
use Rattle.tables.specs.Changes.{TreeStays}
use Rattle.tables.specs.Pool.{memory, occurs, IsZeroed}
use Rattle.unit.specs.Caches.{CachedLeaf, CachedNonLeaf}
use Rattle.vtdbits.specs.declared.context.ContextEntry.TheVariants.{Present}
use Rattle.engine.specs.Ending.{Destroys}
use Rattle.engine.specs.Domains.{Domain, held_in, domain_at}
use Rattle.engine.specs.State.{State}
use Rattle.engine.specs.Quarantine.{Attaches, InDomain, IsLawfulLeaf, IsLawfulTable, Quarantine, owned, ticket_there}
use Rattle.vtdbits.specs.Context.{attached}
use Rattle.engine.proofs.frames.Owners.{apart_of, frames_move, held_out, tree_of}
use Rattle.engine.proofs.frames.Held.{held-nil, held_stays}
use Rattle.engine.proofs.caches.Lawful.{KeepsLawful, keeps_same}
use Rattle.dmatypes.proofs.histories.Maps.{put_other, put_same, same_or_not}
use Rattle.engine.proofs.domains.OneChanged.{domain_out, domain_low}
use Rattle.engine.proofs.domains.Trees.{tree_stays}
use Rattle.engine.proofs.caches.Faults.{all_left, faults_stay, gone_pages}
use Rattle.dmatypes.specs.declared.limits.TheConstants.{MOST_DOMAINS}
use Rattle.dmatypes.specs.Page.{levels}

-- its records went, and nothing is remembered of it; then its tree goes
module _ (m t : State) (w : World) (d : ℕ) (h : Domain) (q : Quarantine m w) (many : length m.domains ≡ MOST_DOMAINS)
    (there : domain_at m.domains d ≡ Some h) (no_records : h.records ≡ [])
    (nobody : (x : ℕ) → w.devices x ≡ Some d → ⊥) (no_leaf : (l : CachedLeaf) → IsIn l m.iommu.unit.caches.leaves → l.domain ≡ d → ⊥)
    (no_table : (i : CachedNonLeaf) → IsIn i m.iommu.unit.caches.non_leaves → i.domain ≡ d → ⊥)
    (domains : (e : ℕ) → domain_at t.domains e ≡ put d None (domain_at m.domains) e) (row : t.iommu.contexts ≡ m.iommu.contexts)
    (unit : t.iommu.unit ≡ m.iommu.unit) (tickets : t.tickets ≡ m.tickets) (destroys : Destroys m.pool h.width h.root t.pool) where
  low : d < MOST_DOMAINS + 1
  low = domain_low m.domains d h many there

  at_other : (e : ℕ) → e ≢ d → domain_at t.domains e ≡ domain_at m.domains e
  at_other e ne = domains e ∙ put_other d None (domain_at m.domains) e ne

  stays : (e : ℕ) (k : Domain) → e ≢ d → domain_at m.domains e ≡ Some k → TreeStays m.pool t.pool (levels k.width) k.root
  stays e k ne at =
      let less : e < MOST_DOMAINS + 1 = domain_low m.domains e k many at in
      destroys.others (levels k.width) k.root (tree_of m.pool (domain_at m.domains) e k q.frames less at)
      (apart_of m.pool (domain_at m.domains) d e h k q.frames low less ne there at)

  zeroed : (e : ℕ) (k : Domain) → domain_at m.domains e ≡ Some k → (f : ℕ) → 0 < held_in k.records f → IsZeroed t.pool.words f
  zeroed e k at f some i small =
      let out = held_out m.pool (domain_at m.domains) d e h k q.frames low (domain_low m.domains e k many at) there at f some in
      destroys.words f i small (omega (arith, out)) ∙ q.frames.held e f k at some i small

  keeps : (e : ℕ) (k : Domain) (u : world.Domain) → e ≢ d → domain_at m.domains e ≡ Some k → KeepsLawful m.pool.words t.pool.words k k u u
  keeps e k u ne at =
      keeps_same m.pool.words t.pool.words k u (stays e k ne at).same_leaves (stays e k ne at).same_tables
      (held_stays m.pool.words t.pool.words k.records (zeroed e k at))

  abbrev after : World
  after = record w { domains = put d None w.domains }

  leaf_lawful : (l : CachedLeaf) → l.domain ≢ d → InDomain m w l.domain (IsLawfulLeaf m.pool.words l)
      → InDomain t after l.domain (IsLawfulLeaf t.pool.words l)
  leaf_lawful l ne (k, u, at, in_world, was) =
      (k, u, at_other l.domain ne ∙ at, put_other d None w.domains l.domain ne ∙ in_world, (keeps l.domain k u ne at).leaf l was)

  table_lawful : (i : CachedNonLeaf) → i.domain ≢ d → InDomain m w i.domain (IsLawfulTable m.pool.words i)
      → InDomain t after i.domain (IsLawfulTable t.pool.words i)
  table_lawful i ne (k, u, at, in_world, was) =
      (k, u, at_other i.domain ne ∙ at, put_other d None w.domains i.domain ne ∙ in_world, (keeps i.domain k u ne at).table i was)

  -- a device is attached to another domain
  still : (x root e : ℕ) (width : Width) → slice_get m.iommu.contexts x ≡ Some (Present root width e) → e ≢ d
  still x root e width at same = nobody x (q.contexts.devices x ∙ ap attached at ∙ ap Some same)

  still_attached : Attaches t after
  still_attached = record {
    devices = λ x. rw row (q.contexts.devices x);
    roots =
        λ x root e width at.
        let here = rw row at at in
        let was = q.contexts.roots x root e width here in (was.0, at_other e (still x root e width here) ∙ was.1, was.2, was.3);
    cached = λ x inside. rw row (q.contexts.cached x (rw unit at inside));
  }

  moves : (f : ℕ)
      → owned (memory t.pool.words) None f + occurs f t.pool.free
      ≡ owned (memory m.pool.words) (domain_at m.domains d) f + occurs f m.pool.free
  moves f =
      let was = ap (λ (o : Option Domain). owned (memory m.pool.words) o f) there in
      let none : held_in h.records f ≡ 0 = ap (λ rs. held_in rs f) no_records ∙ held-nil f in
      omega (arith, was, none, destroys.free f)

  stay : (e f : ℕ) → e ≢ d → owned (memory t.pool.words) (domain_at m.domains e) f ≡ owned (memory m.pool.words) (domain_at m.domains e) f
  stay e f ne = by_entry (domain_at m.domains e) refl
    where
      by_entry : (o : Option Domain) → domain_at m.domains e ≡ o → owned (memory t.pool.words) o f ≡ owned (memory m.pool.words) o f
      by_entry None at = refl
      by_entry (Some k) at = ap (λ n. n + held_in k.records f) ((stays e k ne at).same_frames f)

  held : (e f : ℕ) (k : Domain) → domain_at t.domains e ≡ Some k → 0 < held_in k.records f → IsZeroed t.pool.words f
  held e f k at more = elim (same_or_not e d) [
    | inl same ↦
        absurd (none-some k (sym (domains e ∙ ap (put d None (domain_at m.domains)) same ∙ put_same d None (domain_at m.domains)) ∙ at))
    | inr ne ↦ zeroed e k (sym (at_other e ne) ∙ at) f more
  ]

  pub domain_gone : Quarantine t (record w { domains = put d None w.domains })
  domain_gone = record {
    table_frames = q.table_frames ∙ sym destroys.frames;
    domains = domain_out m t w d q domains (λ e k ne at. tree_stays m.pool t.pool t.pool.words k.width k.root (stays e k ne at) refl);
    caches = record {
      leaves = λ l inside. let here = rw unit at inside in leaf_lawful l (no_leaf l here) (q.caches.leaves l here);
      tables = λ i inside. let here = rw unit at inside in table_lawful i (no_table i here) (q.caches.tables i here);
    };
    faults = faults_stay m.iommu.unit t.iommu.unit w after (all_left m.iommu.unit t.iommu.unit unit) (gone_pages w.domains d) q.faults;
    contexts = still_attached;
    frames =
        frames_move m.pool t.pool (domain_at m.domains) (domain_at t.domains) d None q.frames low domains destroys.frames moves stay
        destroys.is_pool.zeroed held;
    tickets = q.tickets ∙ ap (map ticket_there) (sym tickets);
  }
