-- A call that changes one domain, with free frames, and leaves no entry in the caches that isn't lawful then.
use Rattle.std.proofs.Common.{◌≡◌, ◌≢◌, ℕ, ◌+◌, ◌<◌, ◌⊎◌, inl, inr, length, map, Option, Some, None, refl, sym, ap, subst, ◌∙◌, arith}
use Rattle.std.proofs.lemmas.Option.{same_Some}
use Rattle.dmatypes.specs.World.{World, IsIn, put}
use Rattle.dmatypes.specs.World as world
use Rattle.tables.specs.Pool.{memory, occurs, IsZeroed}
use Rattle.tables.specs.Tree.{uses}
use Rattle.unit.specs.Caches.{CachedContext, CachedLeaf, CachedNonLeaf}
use Rattle.engine.specs.Domains.{Domain, held_in, domain_at}
use Rattle.engine.specs.State.{State}
use Rattle.engine.specs.Quarantine.{Attaches, InDomain, IsLawfulLeaf, IsLawfulTable, Mirrors, Quarantine, owned, ticket_there}
use Rattle.engine.proofs.frames.Owners.{frames_move}
use Rattle.engine.proofs.frames.Held.{held_stays}
use Rattle.engine.proofs.caches.Lawful.{KeepsLawful, keeps_same}
use Rattle.dmatypes.proofs.histories.Maps.{put_same, put_other, same_or_not}
use Rattle.engine.proofs.domains.OneChanged.{domains_put, domain_low}
use Rattle.engine.proofs.domains.Trees.{SameTree}
use Rattle.engine.proofs.caches.Faults.{LeavesFaults, faults_stay, fewer_pages}
use Rattle.dmatypes.specs.declared.limits.TheConstants.{MOST_DOMAINS}
use Rattle.dmatypes.specs.Page.{levels}

-- the domain is another one, and no other domain changes; each entry that is left is lawful of what it became
pub record ChangesDomain (m t : State) (d : ℕ) (h h' : Domain) (v v' : world.Domain) : Type 0 where
  pub domains : (e : ℕ) → domain_at t.domains e ≡ put d (Some h') (domain_at m.domains) e
  pub row : t.iommu.contexts ≡ m.iommu.contexts
  pub tickets : t.tickets ≡ m.tickets
  pub root : h'.root ≡ h.root
  pub width : h'.width ≡ h.width
  pub frames : t.pool.frames ≡ m.pool.frames
  pub mirrors : Mirrors t.pool.words h' v'
  pub others : (e : ℕ) (k : Domain) → e ≢ d → domain_at m.domains e ≡ Some k → SameTree m.pool.words t.pool.words k.width k.root
  pub account : (f : ℕ) → uses (memory t.pool.words) (levels h'.width) h'.root f + held_in h'.records f + occurs f t.pool.free
      ≡ uses (memory m.pool.words) (levels h.width) h.root f + held_in h.records f + occurs f m.pool.free
  pub zeroed : (f : ℕ) → 0 < occurs f t.pool.free → IsZeroed t.pool.words f
  pub held : (e : ℕ) (k : Domain) → domain_at m.domains e ≡ Some k → (f : ℕ) → 0 < held_in k.records f → IsZeroed t.pool.words f
  pub held_here : (f : ℕ) → 0 < held_in h'.records f → IsZeroed t.pool.words f
  pub leaves : (l : CachedLeaf) → IsIn l t.iommu.unit.caches.leaves
      → IsIn l m.iommu.unit.caches.leaves × (l.domain ≡ d → IsLawfulLeaf m.pool.words l h v → IsLawfulLeaf t.pool.words l h' v')
  pub tables : (i : CachedNonLeaf) → IsIn i t.iommu.unit.caches.non_leaves
      → IsIn i m.iommu.unit.caches.non_leaves × (i.domain ≡ d → IsLawfulTable m.pool.words i h v → IsLawfulTable t.pool.words i h' v')
  pub contexts : (x : CachedContext) → IsIn x t.iommu.unit.caches.contexts → IsIn x m.iommu.unit.caches.contexts
  pub faults : LeavesFaults m.iommu.unit t.iommu.unit
  pub live : (p : ℕ) → v.live p ≡ None → v'.live p ≡ None

module _ (m t : State) (w : World) (d : ℕ) (h h' : Domain) (v v' : world.Domain) (q : Quarantine m w)
    (many : length m.domains ≡ MOST_DOMAINS)
    (there : domain_at m.domains d ≡ Some h) (here : w.domains d ≡ Some v) (c : ChangesDomain m t d h h' v v') where
  low : d < MOST_DOMAINS + 1
  low = domain_low m.domains d h many there

  at_new : (e : ℕ) → e ≡ d → domain_at t.domains e ≡ Some h'
  at_new e same = c.domains e ∙ ap (put d (Some h') (domain_at m.domains)) same ∙ put_same d (Some h') (domain_at m.domains)

  at_other : (e : ℕ) → e ≢ d → domain_at t.domains e ≡ domain_at m.domains e
  at_other e ne = c.domains e ∙ put_other d (Some h') (domain_at m.domains) e ne

  domain_new : (e : ℕ) → e ≡ d → put d (Some v') w.domains e ≡ Some v'
  domain_new e same = ap (put d (Some v') w.domains) same ∙ put_same d (Some v') w.domains

  same_old : (e : ℕ) (k : Domain) → e ≡ d → domain_at m.domains e ≡ Some k → k ≡ h
  same_old e k same at = same_Some k h (sym at ∙ ap (domain_at m.domains) same ∙ there)

  same_domain : (e : ℕ) (u : world.Domain) → e ≡ d → w.domains e ≡ Some u → u ≡ v
  same_domain e u same at = same_Some u v (sym at ∙ ap w.domains same ∙ here)

  other_keeps : (e : ℕ) (k : Domain) (u : world.Domain) → e ≢ d → domain_at m.domains e ≡ Some k
      → KeepsLawful m.pool.words t.pool.words k k u u
  other_keeps e k u ne at =
      keeps_same m.pool.words t.pool.words k u (c.others e k ne at).leaves (c.others e k ne at).tables
      (held_stays m.pool.words t.pool.words k.records (c.held e k at))

  abbrev after : World
  after = record w { domains = put d (Some v') w.domains }

  leaf_lawful : (l : CachedLeaf) → (l.domain ≡ d → IsLawfulLeaf m.pool.words l h v → IsLawfulLeaf t.pool.words l h' v')
      → InDomain m w l.domain (IsLawfulLeaf m.pool.words l) → (l.domain ≡ d) ⊎ (l.domain ≢ d)
      → InDomain t after l.domain (IsLawfulLeaf t.pool.words l)
  leaf_lawful l keeps (k, u, at, in_world, was) (inl same) = (
    h',
    v',
    at_new l.domain same,
    domain_new l.domain same,
    keeps same
        (subst (λ (x : Domain). IsLawfulLeaf m.pool.words l x v) (same_old l.domain k same at)
        (subst (λ (y : world.Domain). IsLawfulLeaf m.pool.words l k y) (same_domain l.domain u same in_world) was)),
  )
  leaf_lawful l keeps (k, u, at, in_world, was) (inr ne) =
      (k, u, at_other l.domain ne ∙ at, put_other d (Some v') w.domains l.domain ne ∙ in_world, (other_keeps l.domain k u ne at).leaf l was)

  table_lawful : (i : CachedNonLeaf) → (i.domain ≡ d → IsLawfulTable m.pool.words i h v → IsLawfulTable t.pool.words i h' v')
      → InDomain m w i.domain (IsLawfulTable m.pool.words i) → (i.domain ≡ d) ⊎ (i.domain ≢ d)
      → InDomain t after i.domain (IsLawfulTable t.pool.words i)
  table_lawful i keeps (k, u, at, in_world, was) (inl same) = (
    h',
    v',
    at_new i.domain same,
    domain_new i.domain same,
    keeps same
        (subst (λ (x : Domain). IsLawfulTable m.pool.words i x v) (same_old i.domain k same at)
        (subst (λ (y : world.Domain). IsLawfulTable m.pool.words i k y) (same_domain i.domain u same in_world) was)),
  )
  table_lawful i keeps (k, u, at, in_world, was) (inr ne) = (
    k,
    u,
    at_other i.domain ne ∙ at,
    put_other d (Some v') w.domains i.domain ne ∙ in_world,
    (other_keeps i.domain k u ne at).table i was,
  )

  kept_root : (e : ℕ) (k : Domain) → domain_at m.domains e ≡ Some k → (k' : Domain) × (domain_at t.domains e ≡ Some k') × (k'.root ≡ k.root)
      × (k'.width ≡ k.width)
  kept_root e k at = elim (same_or_not e d) [
    | inl same ↦ (
      h',
      at_new e same,
      c.root ∙ ap (λ (x : Domain). x.root) (sym (same_old e k same at)),
      c.width ∙ ap (λ (x : Domain). x.width) (sym (same_old e k same at)),
    )
    | inr ne ↦ (k, at_other e ne ∙ at, refl, refl)
  ]

  still_attached : Attaches t after
  still_attached = record {
    devices = λ x. rw c.row (q.contexts.devices x);
    roots =
        λ x root domain width at.
        let was =
        q.contexts.roots x root domain width (rw c.row at at) in
        let now = kept_root domain was.0 was.1 in (now.0, now.1, now.2 ∙ was.2, now.3 ∙ was.3);
    cached = λ x inside. rw c.row (q.contexts.cached x (c.contexts x inside));
  }

  moves : (f : ℕ)
      → owned (memory t.pool.words) (Some h') f + occurs f t.pool.free
      ≡ owned (memory m.pool.words) (domain_at m.domains d) f + occurs f m.pool.free
  moves f = let was = ap (λ (o : Option Domain). owned (memory m.pool.words) o f) there in omega (arith, was, c.account f)

  stay : (e f : ℕ) → e ≢ d → owned (memory t.pool.words) (domain_at m.domains e) f ≡ owned (memory m.pool.words) (domain_at m.domains e) f
  stay e f ne = by_entry (domain_at m.domains e) refl
    where
      by_entry : (o : Option Domain) → domain_at m.domains e ≡ o → owned (memory t.pool.words) o f ≡ owned (memory m.pool.words) o f
      by_entry None at = refl
      by_entry (Some k) at = ap (λ n. n + held_in k.records f) ((c.others e k ne at).frames f)

  held : (e f : ℕ) (k : Domain) → domain_at t.domains e ≡ Some k → 0 < held_in k.records f → IsZeroed t.pool.words f
  held e f k at more = elim (same_or_not e d) [
    | inl same ↦
        let is : held_in k.records f ≡ held_in h'.records f =
        ap (λ (x : Domain). held_in x.records f) (same_Some k h' (sym at ∙ at_new e same)) in
        c.held_here f (omega (arith, more, is))
    | inr ne ↦ c.held e k (sym (at_other e ne) ∙ at) f more
  ]

  -- the state is then one of the world with the other domain
  pub changes_domain : Quarantine t (record w { domains = put d (Some v') w.domains })
  changes_domain = record {
    table_frames = q.table_frames ∙ sym c.frames;
    domains = domains_put m t w d h' v' q c.domains c.mirrors c.others;
    caches = record {
      leaves = λ l inside. let k = c.leaves l inside in leaf_lawful l k.1 (q.caches.leaves l k.0) (same_or_not l.domain d);
      tables = λ i inside. let k = c.tables i inside in table_lawful i k.1 (q.caches.tables i k.0) (same_or_not i.domain d);
    };
    faults = faults_stay m.iommu.unit t.iommu.unit w after c.faults (fewer_pages w.domains d v v' here c.live) q.faults;
    contexts = still_attached;
    frames =
        frames_move m.pool t.pool (domain_at m.domains) (domain_at t.domains) d (Some h') q.frames low c.domains c.frames moves stay
        c.zeroed held;
    tickets = q.tickets ∙ ap (map ticket_there) (sym c.tickets);
  }
