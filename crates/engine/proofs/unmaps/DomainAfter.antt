-- An unmap: what it makes of one domain and of the caches, in a strict domain and in a lazy one with room.
use Rattle.std.proofs.Common.{◌≡◌, ◌≢◌, ℕ, ◌+◌, ◌<◌, ◌≤◌, ◌⊎◌, inl, inr, ⊎_elim, false, List, [], ◌∷◌, ◌++◌, length, map, Some, refl}
use Rattle.std.proofs.Common.{sym, ap, subst, ◌∙◌, arith, slice_set}
use Rattle.std.proofs.lemmas.Bool.{cases_lt}
use Rattle.std.proofs.lemmas.List.Sums.{sum_by_push}
use Rattle.std.proofs.lemmas.Option.{same_Some}
use Rattle.dmatypes.specs.declared.call.Mode.TheVariants.{Strict, Lazy}
use Rattle.dmatypes.specs.Page.{IsPageRange}
use Rattle.dmatypes.specs.World.{Target, World, IsIn, IsLive, IsRetired, put, put_off, record_of, unmapped}
use Rattle.dmatypes.specs.World as world
use Rattle.dmatypes.proofs.numbers.Ranges.{end_of_fit, within_or_not}
use Rattle.iova.specs.Space.{Space}
use Rattle.tables.specs.Changes.{TreeStays}
use Rattle.tables.specs.Pool.{Pool, memory, occurs, IsZeroed}
use Rattle.tables.specs.Tree.{span, stated, states, uses}
use Rattle.tables.proofs.unmaps.Ended.{unmap_leaves, unmap_tables}
use Rattle.tables.proofs.pools.Kept.{some_levels, apart_stays, same_root, span-levels}
use Rattle.tables.proofs.walks.Steps.{span-one}
use Rattle.unit.specs.Caches.{CachedLeaf, CachedNonLeaf}
use Rattle.unit.specs.Filters.{drops_leaf, drops_non_leaf}
use Rattle.unit.specs.Walking.{stated_by}
use Rattle.vtdbits.specs.declared.descriptor.Descriptor.{Descriptor}
use Rattle.vtdbits.specs.declared.descriptor.Descriptor.TheVariants.{Wait}
use Rattle.engine.specs.declared.record.Record.{Record}
use Rattle.engine.specs.Ending.{RetiresAndUnmaps, IsSent, Releases, left_by_all}
use Rattle.engine.specs.Domains.{Domain, domain_at, held_in}
use Rattle.engine.specs.State.{State}
use Rattle.engine.specs.Quarantine.{IsLawfulLeaf, IsLawfulTable, Mirrors, Quarantine, marked_here, marked_there}
use Rattle.engine.proofs.states.OneDomain.{ChangesDomain, changes_domain}
use Rattle.engine.proofs.domains.Trees.{SameTree, tree_stays}
use Rattle.engine.proofs.frames.Owners.{apart_of, held_zeroed, tree_of}
use Rattle.engine.proofs.frames.Held.{held_stays}
use Rattle.engine.proofs.domains.OneChanged.{both_there, domain_low, domain_set}
use Rattle.engine.proofs.caches.Purged.{Purges, purges_sent}
use Rattle.engine.proofs.lists.Membership.{in_last, in_left, map_last}
use Rattle.engine.proofs.caches.StrictRange.{strict_apart, strict_table}
use Rattle.engine.proofs.unmaps.Pages.{pieces_put_off, pieces_unmapped, restricted_inside, without_inside, without_outside}
use Rattle.engine.proofs.caches.Faults.{all_left, without_none}
use Rattle.dmatypes.specs.declared.limits.TheConstants.{MOST_DOMAINS}
use Rattle.dmatypes.specs.declared.page.TheConstants.{SPAN_PAGES}
use Rattle.dmatypes.specs.Page.{Fits, levels, pages_end}

-- the domain with another space and other records
abbrev pub domain_after : Domain → Space → List Record → Domain
domain_after h space records = record h { space = space; records = records }

-- what records hold with one more
pub held-last : (rs : List Record) (r : Record) (f : ℕ) → held_in (rs ++ r ∷ []) f ≡ held_in rs f + occurs f r.cut.frames
held-last rs r f = sum_by_push (λ (y : Record). occurs f y.cut.frames) rs r

-- ---- one domain

module _ (pool pool1 : Pool) (h h1 : Domain) (v : world.Domain) (r : Record) (fits : IsPageRange r.range × Fits r.range h.width)
    (mirrors : Mirrors pool.words h v) (cuts : RetiresAndUnmaps pool h r pool1 h1) where
  start : r.range.first < span (levels h.width)
  start = omega (arith, fits.0.some, end_of_fit r.range h.width fits.0 fits.1, span-levels h.width)

  -- what the tree says is live without the range
  tree_without : (p : ℕ) → p < pages_end h.width → states (memory pool1.words) (levels h.width) h.root p ≡ (unmapped r.range v).live p
  tree_without p low = elim (within_or_not r.range p) [
    | inl inside ↦ ap (stated p) (cuts.unmaps.gone p inside.0 inside.1) ∙ sym (without_inside r.range v.live p inside)
    | inr past ↦
        cuts.unmaps.elsewhere p (same_root (levels h.width) p r.range.first (omega (arith, low, span-levels h.width)) start)
        past ∙ mirrors.tree p low
        ∙ sym (without_outside r.range v.live p past)
  ]

  pub mirrors_unmapped : (pool2 : Pool) (space2 : Space) → Releases pool1 h1.space r pool2 space2
      → Mirrors pool1.words (domain_after h space2 h.records) (unmapped r.range v)
  mirrors_unmapped pool2 space2 releases = record {
    ids = record { mode = mirrors.ids.mode; begun = mirrors.ids.begun; width = mirrors.ids.width; records = mirrors.ids.records };
    tree = tree_without;
    spelled = cuts.spelled mirrors.spelled;
    pieces =
        pieces_unmapped h.space v r.range mirrors.pieces cuts.may.live h1.space space2 fits.0 cuts.retires releases.frees releases.is_space;
  }

  pub mirrors_put_off : Mirrors pool1.words (domain_after h h1.space (h.records ++ r ∷ [])) (put_off r.range v)
  mirrors_put_off = record {
    ids = record {
      mode = mirrors.ids.mode;
      begun = mirrors.ids.begun;
      width = mirrors.ids.width;
      records = map_last marked_here h.records r ∙ ap (λ xs. xs ++ record { range = r.range; mark = r.mark } ∷ []) mirrors.ids.records
          ∙ ap (λ (n : ℕ). map marked_there v.retired ++ record { range = r.range; mark = n } ∷ []) (cuts.mark ∙ mirrors.ids.begun)
          ∙ sym (map_last marked_there v.retired (record_of r.range v));
    };
    tree = tree_without;
    spelled = cuts.spelled mirrors.spelled;
    pieces = pieces_put_off h.space v r.range mirrors.pieces cuts.may.live h1.space cuts.retires cuts.is_space;
  }

  module _ (zeroed : (f : ℕ) → 0 < held_in h.records f → IsZeroed pool1.words f) where
    -- ---- a strict unmap

    module _ (d : ℕ) (x : Descriptor) (sent : IsSent d r.range r.cut x) (space2 : Space) where
      outside_of : (l : CachedLeaf) (p : ℕ) → ((l.first + l.pages ≤ r.range.first) ⊎ (r.range.first + r.range.pages ≤ l.first))
          → l.first ≤ p → p < l.first + l.pages → (p < r.range.first) ⊎ (r.range.first + r.range.pages ≤ p)
      outside_of l p (inl before) low high = inl (omega (arith, before, high))
      outside_of l p (inr behind) low high = inr (omega (arith, behind, low))

      pub strict_leaf : v.mode ≡ Strict → (l : CachedLeaf) → l.domain ≡ d → drops_leaf x l ≡ false → IsLawfulLeaf pool.words l h v
          → IsLawfulLeaf pool1.words l (domain_after h space2 h.records) (unmapped r.range v)
      strict_leaf strict l here left lawful =
          let at = lawful.entry strict in
          let away = strict_apart pool pool1 h.width h.root d r.range r.cut x fits.0.some sent cuts.split l here left at in
          record {
            stated = λ p low high. elim (lawful.stated p low high) [
              | inl live ↦ inl (without_outside r.range v.live p (outside_of l p away low high) ∙ live)
              | inr retired ↦ inr retired
            ];
            entry =
                λ e.
                unmap_leaves pool pool1 (levels h.width) h.root r.range.first (r.range.first + r.range.pages) r.cut.frames
                (omega (arith, some_levels h.width)) start
                cuts.unmaps l.first l.pages l.frame l.rights at away;
          }

      pub strict_non_leaf : (i : CachedNonLeaf) → i.domain ≡ d → drops_non_leaf x i ≡ false → IsLawfulTable pool.words i h v
          → IsLawfulTable pool1.words i (domain_after h space2 h.records) (unmapped r.range v)
      strict_non_leaf i here left lawful = record {
        span = lawful.span;
        named = elim lawful.named [
          | inl at ↦
              inl (strict_table pool pool1 h.width h.root d r.range r.cut x fits.0.some sent cuts.split start cuts.unmaps i here
              lawful.span left at)
          | inr has ↦ inr (held_stays pool.words pool1.words h.records zeroed i.first i.pages i.frame has)
        ];
      }

    -- ---- a lazy unmap

    still_stated : (p : ℕ) (t : Target) → IsLive v p t ⊎ IsRetired v p t
        → IsLive (put_off r.range v) p t ⊎ IsRetired (put_off r.range v) p t
    still_stated p t (inr old) = inr (old.0, in_left old.0 v.retired (record_of r.range v ∷ []) old.1, old.2, old.3)
    still_stated p t (inl live) = elim (within_or_not r.range p) [
      | inl inside ↦
          inr (record_of r.range v, in_last (record_of r.range v) v.retired, inside, restricted_inside r.range v.live p inside ∙ live)
      | inr past ↦ inl (without_outside r.range v.live p past ∙ live)
    ]

    pub lazy_leaf : v.mode ≡ Lazy → (l : CachedLeaf) → IsLawfulLeaf pool.words l h v
        → IsLawfulLeaf pool1.words l (domain_after h h1.space (h.records ++ r ∷ [])) (put_off r.range v)
    lazy_leaf lazy l lawful = record {
      stated = λ p low high. still_stated p (stated_by p l) (lawful.stated p low high);
      entry = λ e. absurd (let clash : Lazy ≡ Strict = sym lazy ∙ e in cc);
    }

    pub lazy_non_leaf : (i : CachedNonLeaf) → IsLawfulTable pool.words i h v
        → IsLawfulTable pool1.words i (domain_after h h1.space (h.records ++ r ∷ [])) (put_off r.range v)
    lazy_non_leaf i lawful = record {
      span = lawful.span;
      named = elim lawful.named [
        | inl at ↦
            elim (unmap_tables pool pool1 (levels h.width) h.root r.range.first (r.range.first + r.range.pages)
            r.cut.frames start cuts.unmaps i.first
            i.level i.frame at) [
              | inl stays ↦ inl stays
              | inr gone ↦
                  let pages : i.pages ≡ SPAN_PAGES = lawful.span ∙ ap span gone.0 ∙ span-one in
                  inr (r, in_last r h.records, gone.3, cuts.unmaps.zeroed i.frame gone.3, gone.1, omega (arith, gone.2, pages))
            ]
        | inr has ↦
            let old = held_stays pool.words pool1.words h.records zeroed i.first i.pages i.frame has in
            inr (old.0, in_left old.0 h.records (r ∷ []) old.1, old.2, old.3, old.4, old.5)
      ];
    }

-- ---- the whole state

-- a domain mirrors the world's
pub mirrors_of : (m : State) (w : World) (d : ℕ) (h : Domain) (v : world.Domain) → Quarantine m w → domain_at m.domains d ≡ Some h
    → w.domains d ≡ Some v → Mirrors m.pool.words h v
mirrors_of m w d h v q there here =
    let both = both_there m.pool.words (domain_at m.domains d) (w.domains d) h (q.domains d) there in
    subst (λ (u : world.Domain). Mirrors m.pool.words h u) (same_Some both.0 v (sym both.1 ∙ here)) both.2

module _ (m t : State) (w : World) (i : ℕ) (h h1 : Domain) (v : world.Domain) (r : Record) (pool1 : Pool)
    (q : Quarantine m w) (many : length m.domains ≡ MOST_DOMAINS) (less : i < length m.domains)
    (there : domain_at m.domains (i + 1) ≡ Some h)
    (here : w.domains (i + 1) ≡ Some v)
    (mirrors : Mirrors m.pool.words h v) (fits : IsPageRange r.range × Fits r.range h.width) (cuts : RetiresAndUnmaps m.pool h r pool1 h1)
    (row : t.iommu.contexts ≡ m.iommu.contexts)
    (tickets : t.tickets ≡ m.tickets) (words : t.pool.words ≡ pool1.words) where
  low : i + 1 < MOST_DOMAINS + 1
  low = domain_low m.domains (i + 1) h many there

  others : (e : ℕ) (k : Domain) → e ≢ i + 1 → domain_at m.domains e ≡ Some k → SameTree m.pool.words t.pool.words k.width k.root
  others e k ne at =
      let below : e < MOST_DOMAINS + 1 = domain_low m.domains e k many at in
      let stays : TreeStays m.pool pool1 (levels k.width) k.root =
      apart_stays m.pool pool1 (levels h.width) h.root (levels k.width) k.root r.cut.frames
      (tree_of m.pool (domain_at m.domains) (i + 1) h q.frames low there)
      cuts.moves
      (tree_of m.pool (domain_at m.domains) e k q.frames below at)
      (apart_of m.pool (domain_at m.domains) (i + 1) e h k q.frames low below ne there at) in tree_stays m.pool pool1 t.pool.words k.width
      k.root
      stays words

  zeroed_then : (e : ℕ) (k : Domain) → domain_at m.domains e ≡ Some k → (f : ℕ) → 0 < held_in k.records f → IsZeroed pool1.words f
  zeroed_then e k at f more =
      held_zeroed m.pool pool1 (domain_at m.domains) (i + 1) e h k r.cut.frames q.frames low (domain_low m.domains e k many at) there at
      cuts.moves f more

  zeroed : (e : ℕ) (k : Domain) → domain_at m.domains e ≡ Some k → (f : ℕ) → 0 < held_in k.records f → IsZeroed t.pool.words f
  zeroed e k at f more = subst (λ ws. IsZeroed ws f) (sym words) (zeroed_then e k at f more)

  domains_then : (new : Domain) → t.domains ≡ slice_set m.domains i (Some new)
      → (e : ℕ) → domain_at t.domains e ≡ put (i + 1) (Some new) (domain_at m.domains) e
  domains_then new domains e = ap (λ ds. domain_at ds e) domains ∙ domain_set m.domains i (Some new) less e

  used : (f : ℕ) → uses (memory t.pool.words) (levels h.width) h.root f ≡ uses (memory pool1.words) (levels h.width) h.root f
  used f = ap (λ ws. uses (memory ws) (levels h.width) h.root f) words

  -- ---- a strict unmap

  module _ (n : ℕ) (x : Descriptor) (space2 : Space) (strict : v.mode ≡ Strict) (sent : IsSent (i + 1) r.range r.cut x)
      (caches : t.iommu.unit.caches ≡ left_by_all (m.iommu.ring.waiting ++ x ∷ Wait n ∷ []) m.iommu.unit.caches)
      (mode : t.iommu.unit.caching ≡ m.iommu.unit.caching)
      (releases : Releases pool1 h1.space r t.pool space2)
      (domains : t.domains ≡ slice_set m.domains i (Some (domain_after h space2 h.records))) where
    purges : Purges x m.iommu.unit.caches t.iommu.unit.caches
    purges = purges_sent m.iommu.ring.waiting x n m.iommu.unit.caches t.iommu.unit.caches caches

    strict_changes : ChangesDomain m t (i + 1) h (domain_after h space2 h.records) v (unmapped r.range v)
    strict_changes = record {
      domains = domains_then (domain_after h space2 h.records) domains;
      row = row;
      tickets = tickets;
      root = refl;
      width = refl;
      frames = releases.frames ∙ cuts.moves.frames;
      mirrors =
          subst (λ ws. Mirrors ws (domain_after h space2 h.records) (unmapped r.range v)) (sym words)
          (mirrors_unmapped m.pool pool1 h h1 v r fits mirrors cuts t.pool space2 releases);
      others = others;
      account = λ f. omega (arith, used f, releases.free f, cuts.moves.account f);
      zeroed = releases.is_pool.zeroed;
      held = zeroed;
      held_here = λ f more. zeroed (i + 1) h there f more;
      leaves = λ l inside. let left = purges.leaves l inside in (
        left.0,
        λ same lawful. subst (λ ws. IsLawfulLeaf ws l (domain_after h space2 h.records) (unmapped r.range v)) (sym words)
            (strict_leaf m.pool pool1 h h1 v r fits mirrors cuts (zeroed_then (i + 1) h there) (i + 1) x sent space2 strict l same left.1
            lawful),
      );
      tables = λ k inside. let left = purges.tables k inside in (
        left.0,
        λ same lawful. subst (λ ws. IsLawfulTable ws k (domain_after h space2 h.records) (unmapped r.range v)) (sym words)
            (strict_non_leaf m.pool pool1 h h1 v r fits mirrors cuts (zeroed_then (i + 1) h there) (i + 1) x sent space2 k same left.1
            lawful),
      );
      contexts = λ k inside. (purges.contexts k inside).0;
      faults = record { mode = mode; left = λ f inside. (purges.faults f inside).0 };
      live = λ p none. without_none r.range v.live p none;
    }

    strict_keeps : Quarantine t (record w { domains = put (i + 1) (Some (unmapped r.range v)) w.domains })
    strict_keeps = changes_domain m t w (i + 1) h (domain_after h space2 h.records) v (unmapped r.range v) q many there here strict_changes

  -- ---- a lazy unmap, with room for its record

  module _ (lazy : v.mode ≡ Lazy) (same_pool : t.pool ≡ pool1) (unit : t.iommu.unit ≡ m.iommu.unit)
      (domains : t.domains ≡ slice_set m.domains i (Some (domain_after h h1.space (h.records ++ r ∷ [])))) where
    abbrev records1 : List Record
    records1 = h.records ++ r ∷ []

    held_more : (f : ℕ) → 0 < held_in records1 f → (0 < held_in h.records f) ⊎ (0 < occurs f r.cut.frames)
    held_more f more = ⊎_elim
        (λ (some : 0 < held_in h.records f). inl some)
        (λ (none : held_in h.records f ≤ 0). inr (omega (arith, none, more, held-last h.records r f)))
        (cases_lt 0 (held_in h.records f))

    lazy_changes : ChangesDomain m t (i + 1) h (domain_after h h1.space records1) v (put_off r.range v)
    lazy_changes = record {
      domains = domains_then (domain_after h h1.space records1) domains;
      row = row;
      tickets = tickets;
      root = refl;
      width = refl;
      frames = ap (λ (p : Pool). p.frames) same_pool ∙ cuts.moves.frames;
      mirrors =
          subst (λ ws. Mirrors ws (domain_after h h1.space records1) (put_off r.range v)) (sym words)
          (mirrors_put_off m.pool pool1 h h1 v r fits mirrors cuts);
      others = others;
      account =
          λ f.
          let free : occurs f t.pool.free ≡ occurs f pool1.free =
          ap (λ (p : Pool). occurs f p.free) same_pool in
          omega (arith, used f, free, held-last h.records r f, cuts.moves.account f);
      zeroed = subst (λ (p : Pool). (f : ℕ) → 0 < occurs f p.free → IsZeroed p.words f) (sym same_pool) cuts.is_pool.zeroed;
      held = zeroed;
      held_here = λ f more. elim (held_more f more) [
        | inl old_one ↦ zeroed (i + 1) h there f old_one
        | inr new_one ↦ subst (λ ws. IsZeroed ws f) (sym words) (cuts.unmaps.zeroed f new_one)
      ];
      leaves = λ l inside. (
        subst (λ u. IsIn l u.caches.leaves) unit inside,
        λ same lawful. subst (λ ws. IsLawfulLeaf ws l (domain_after h h1.space records1) (put_off r.range v)) (sym words)
            (lazy_leaf m.pool pool1 h h1 v r fits mirrors cuts (zeroed_then (i + 1) h there) lazy l lawful),
      );
      tables = λ k inside. (
        subst (λ u. IsIn k u.caches.non_leaves) unit inside,
        λ same lawful. subst (λ ws. IsLawfulTable ws k (domain_after h h1.space records1) (put_off r.range v)) (sym words)
            (lazy_non_leaf m.pool pool1 h h1 v r fits mirrors cuts (zeroed_then (i + 1) h there) k lawful),
      );
      contexts = λ k inside. subst (λ u. IsIn k u.caches.contexts) unit inside;
      faults = all_left m.iommu.unit t.iommu.unit unit;
      live = λ p none. without_none r.range v.live p none;
    }

    lazy_keeps : Quarantine t (record w { domains = put (i + 1) (Some (put_off r.range v)) w.domains })
    lazy_keeps = changes_domain m t w (i + 1) h (domain_after h h1.space records1) v (put_off r.range v) q many there here lazy_changes

-- ---- by what the calls below promise

-- an unmap of a strict domain: the descriptor was sent and done before its pages and the cut tables came free
pub strict_unmapped : (m t : State) (w : World) (i n : ℕ) (h h1 : Domain) (v : world.Domain) (r : Record) (x : Descriptor) (pool1 : Pool)
    (space2 : Space) → Quarantine m w → length m.domains ≡ MOST_DOMAINS → i < length m.domains → domain_at m.domains (i + 1) ≡ Some h
    → w.domains (i + 1) ≡ Some v → v.mode ≡ Strict → IsPageRange r.range × Fits r.range h.width → RetiresAndUnmaps m.pool h r pool1 h1
    → IsSent (i + 1) r.range r.cut x → t.iommu.unit.caches ≡ left_by_all (m.iommu.ring.waiting ++ x ∷ Wait n ∷ []) m.iommu.unit.caches
    → t.iommu.unit.caching ≡ m.iommu.unit.caching → Releases pool1 h1.space r t.pool space2
    → t.domains ≡ slice_set m.domains i (Some (domain_after h space2 h.records))
    → t.iommu.contexts ≡ m.iommu.contexts → t.tickets ≡ m.tickets
    → Quarantine t (record w { domains = put (i + 1) (Some (unmapped r.range v)) w.domains })
strict_unmapped m t w i n h h1 v r x pool1 space2 q many less there here strict fits cuts sent caches mode releases domains row tickets =
    strict_keeps m t w i h h1 v r pool1 q many less there here (mirrors_of m w (i + 1) h v q there here) fits cuts row tickets
    releases.words n x space2 strict sent caches mode releases domains

-- an unmap of a lazy domain that has room for one more record
pub lazy_put_off : (m t : State) (w : World) (i : ℕ) (h h1 : Domain) (v : world.Domain) (r : Record)
    → Quarantine m w → length m.domains ≡ MOST_DOMAINS → i < length m.domains → domain_at m.domains (i + 1) ≡ Some h
    → w.domains (i + 1) ≡ Some v
    → v.mode ≡ Lazy → IsPageRange r.range × Fits r.range h.width → RetiresAndUnmaps m.pool h r t.pool h1 → t.iommu.unit ≡ m.iommu.unit
    → t.domains ≡ slice_set m.domains i (Some (domain_after h h1.space (h.records ++ r ∷ []))) → t.iommu.contexts ≡ m.iommu.contexts
    → t.tickets ≡ m.tickets → Quarantine t (record w { domains = put (i + 1) (Some (put_off r.range v)) w.domains })
lazy_put_off m t w i h h1 v r q many less there here lazy fits cuts unit domains row tickets =
    lazy_keeps m t w i h h1 v r t.pool q many less there here (mirrors_of m w (i + 1) h v q there here) fits cuts row tickets refl
    lazy refl unit domains
