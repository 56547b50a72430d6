-- Retired records that come free, one after the other, and a domain once all of its are.
use Rattle.std.proofs.Common.{◌≡◌, ◌≢◌, ℕ, ◌+◌, ◌<◌, ◌≤◌, ◌⊎◌, inl, inr, false, List, [], ◌∷◌, ◌++◌, length, map, Some, refl, sym, ap}
use Rattle.std.proofs.Common.{subst, ◌∙◌, arith, slice_set}
use Rattle.std.proofs.lemmas.Bool.Decides.{nat_tests}
use Rattle.std.proofs.lemmas.List.Sums.{sum_by-cons}
use Rattle.dmatypes.specs.Page.{Range, IsWithin}
use Rattle.dmatypes.specs.World.{Retired, World, IsIn, flushed, put}
use Rattle.dmatypes.specs.World as world
use Rattle.dmatypes.proofs.numbers.Ranges.{within_or_not}
use Rattle.piece_tree.specs.declared.piece.PageState.TheVariants.{Free}
use Rattle.piece_tree.specs.declared.piece.PageState.TheVariants as pages
use Rattle.piece_tree.specs.declared.piece.Piece.{Piece}
use Rattle.iova.specs.Pieces.{piece_of, state_at}
use Rattle.iova.specs.Space.{Space, MayRetire}
use Rattle.tables.specs.Pool.{Pool, memory, occurs, IsZeroed}
use Rattle.tables.specs.Spelled.{AreSpelled}
use Rattle.tables.specs.Tree.{states, uses}
use Rattle.unit.specs.Caches.{CachedLeaf, CachedNonLeaf}
use Rattle.unit.specs.Filters.{drops_leaf, drops_non_leaf}
use Rattle.vtdbits.specs.declared.descriptor.Descriptor.TheVariants.{IotlbDomain, Wait}
use Rattle.engine.specs.declared.record.Record.{Record}
use Rattle.engine.specs.Ending.{Releases, ReleasesAll, left_by_all}
use Rattle.engine.specs.Ready.{AreReleasable}
use Rattle.engine.specs.Domains.{Domain, domain_at, held_in}
use Rattle.engine.specs.State.{State}
use Rattle.engine.specs.Quarantine.{Marked, Mirrors, Quarantine, marked_here, marked_there}
use Rattle.engine.proofs.states.OneDomain.{ChangesDomain, changes_domain}
use Rattle.engine.proofs.domains.Trees.{same_tree}
use Rattle.engine.proofs.frames.Held.{held-nil}
use Rattle.engine.proofs.domains.OneChanged.{domain_set}
use Rattle.engine.proofs.caches.Purged.{Purges, purges_sent}
use Rattle.engine.proofs.lists.Membership.{in_either, in_last, in_left, in_mapped, of_mapped}
use Rattle.engine.proofs.unmaps.DomainAfter.{domain_after, held-last, mirrors_of}
use Rattle.engine.proofs.unmaps.Pages.{not_within, pieces_flushed}
use Rattle.dmatypes.specs.declared.limits.TheConstants.{MOST_DOMAINS}
use Rattle.dmatypes.specs.Page.{levels}

-- ---- one record more

-- no record yet
pub releases_none : (pool : Pool) (space : Space) (all : List Record) → AreReleasable pool space all → ReleasesAll pool space [] pool space
releases_none pool space all are = record {
  is_space = are.is_space;
  last = refl;
  inside = λ r none. absurd none;
  outside = λ p none. refl;
  in_use = λ q used. (λ i. (i, λ r none. absurd none), λ both. both.0);
  fewer = omega arith;
  retirable = λ other may. may;
  free = λ f. omega (arith, held-nil f);
  more = omega arith;
  words = refl;
  trail = refl;
  frames = refl;
  zeroed = λ f some. are.zeroed f (omega (arith, some));
}

-- one record more, wherever it stands among those that are done
module _ (pool pool1 pool2 : Pool) (space space1 space2 : Space) (done all : List Record) (r : Record)
    (so_far : ReleasesAll pool space done pool1 space1) (next : Releases pool1 space1 r pool2 space2)
    (splits : (x : Record) → IsIn x all → IsIn x done ⊎ (x ≡ r)) (old : (x : Record) → IsIn x done → IsIn x all) (new : IsIn r all)
    (held : (f : ℕ) → held_in all f ≡ held_in done f + occurs f r.cut.frames)
    (retirable : (other : Range) → MayRetire space1.pieces other → MayRetire space2.pieces other)
    (more : length pool1.free ≤ length pool2.free) where
  free_then : (p : ℕ) → state_at space1.pieces p ≡ Some Free → state_at space2.pieces p ≡ Some Free
  free_then p was = elim (within_or_not r.range p) [
    | inl inside ↦ next.frees.states.inside p inside
    | inr past ↦ next.frees.states.outside p (not_within r.range p past) ∙ was
  ]

  releases_more : ReleasesAll pool space all pool2 space2
  releases_more = record {
    is_space = next.is_space;
    last = ap (λ (a : Space). a.last) next.frees.is ∙ so_far.last;
    inside = λ x i p within. elim (splits x i) [
      | inl before ↦ free_then p (so_far.inside x before p within)
      | inr last ↦ next.frees.states.inside p (subst (λ (y : Record). IsWithin y.range p) last within)
    ];
    outside = λ p none. next.frees.states.outside p (none r new) ∙ so_far.outside p (λ x i. none x (old x i));
    in_use = λ q used. (
      λ i.
          let now = (next.frees.in_use q used).0 i in
          let was = (so_far.in_use q used).0 now.0 in
          (was.0, λ x x_in. other q x (splits x x_in) was.1 now.1),
      λ both. (next.frees.in_use q used).1 ((so_far.in_use q used).1 (both.0, λ x i. both.1 x (old x i)), both.1 r new),
    );
    fewer = omega (arith, next.frees.fewer, so_far.fewer);
    retirable = λ other may. retirable other (so_far.retirable other may);
    more = omega (arith, more, so_far.more);
    free = λ f. omega (arith, next.free f, so_far.free f, held f);
    words = next.words ∙ so_far.words;
    trail = next.trail ∙ so_far.trail;
    frames = next.frames ∙ so_far.frames;
    zeroed = next.is_pool.zeroed;
  } where
    other : (q : Piece) (x : Record) → IsIn x done ⊎ (x ≡ r) → ((y : Record) → IsIn y done → q ≢ piece_of y.range pages.Retired)
        → q ≢ piece_of r.range pages.Retired → q ≢ piece_of x.range pages.Retired
    other q x (inl before) earlier now = earlier x before
    other q x (inr last) earlier now = subst (λ (y : Record). q ≢ piece_of y.range pages.Retired) (sym last) now

-- the record after those that are done, and the one before them
pub releases_last : (pool pool1 pool2 : Pool) (space space1 space2 : Space) (done : List Record) (r : Record)
    → ReleasesAll pool space done pool1 space1 → Releases pool1 space1 r pool2 space2
    → ((other : Range) → MayRetire space1.pieces other → MayRetire space2.pieces other) → length pool1.free ≤ length pool2.free
    → ReleasesAll pool space (done ++ r ∷ []) pool2 space2
releases_last pool pool1 pool2 space space1 space2 done r so_far next retirable more =
    releases_more pool pool1 pool2 space space1 space2 done (done ++ r ∷ []) r so_far next (λ x i. in_either x r done i)
    (λ x i. in_left x done (r ∷ []) i) (in_last r done) (λ f. held-last done r f) retirable more

pub releases_first : (pool pool1 pool2 : Pool) (space space1 space2 : Space) (done : List Record) (r : Record)
    → ReleasesAll pool space done pool1 space1 → Releases pool1 space1 r pool2 space2
    → ((other : Range) → MayRetire space1.pieces other → MayRetire space2.pieces other) → length pool1.free ≤ length pool2.free
    → ReleasesAll pool space (r ∷ done) pool2 space2
releases_first pool pool1 pool2 space space1 space2 done r so_far next retirable more =
    releases_more pool pool1 pool2 space space1 space2 done (r ∷ done) r so_far next first_or (λ x i. inr i) (inl refl)
    (λ f. sum_by-cons (λ (y : Record). occurs f y.cut.frames) r done ∙ omega arith) retirable more
  where
    first_or : (x : Record) → IsIn x (r ∷ done) → IsIn x done ⊎ (x ≡ r)
    first_or x (inl same) = inr same
    first_or x (inr rest) = inl rest

-- ---- a flush

-- the state's records are the world's
pub matched : (ks : List Record) (rs : List Retired) → map marked_here ks ≡ map marked_there rs → (r : Retired) → IsIn r rs
    → (k : Record) × IsIn k ks × (r.range ≡ k.range)
matched ks rs same r inside =
    let there : IsIn (marked_there r) (map marked_here ks) =
    subst (λ (xs : List Marked). IsIn (marked_there r) xs) (sym same) (in_mapped marked_there r rs inside) in
    let k = of_mapped marked_here (marked_there r) ks there in
    (k.0, k.1, ap (λ (x : Marked). x.range) k.2)

pub matching : (ks : List Record) (rs : List Retired) → map marked_here ks ≡ map marked_there rs → (k : Record) → IsIn k ks
    → (r : Retired) × IsIn r rs × (k.range ≡ r.range)
matching ks rs same k inside =
    let there : IsIn (marked_here k) (map marked_there rs) =
    subst (λ (xs : List Marked). IsIn (marked_here k) xs) same (in_mapped marked_here k ks inside) in
    let r = of_mapped marked_there (marked_here k) rs there in
    (r.0, r.1, ap (λ (x : Marked). x.range) r.2)

pub mirrors_flushed : (pool pool' : Pool) (space' : Space) (h : Domain) (v : world.Domain) → Mirrors pool.words h v
    → ReleasesAll pool h.space h.records pool' space' → Mirrors pool'.words (domain_after h space' []) (flushed v)
mirrors_flushed pool pool' space' h v mirrors all = record {
  ids = record { mode = mirrors.ids.mode; begun = mirrors.ids.begun; width = mirrors.ids.width; records = refl };
  tree = λ p low. ap (λ ws. states (memory ws) (levels h.width) h.root p) all.words ∙ mirrors.tree p low;
  spelled = subst (λ ws. AreSpelled ws (levels h.width) h.root) (sym all.words) mirrors.spelled;
  pieces = pieces_flushed h.space space' v mirrors.pieces all.is_space all.last
      (λ p some.
      let k = matched h.records v.retired mirrors.ids.records some.0 some.1 in
      all.inside k.0 k.1 p (subst (λ (x : Range). IsWithin x p) k.2 some.2))
      (λ p none.
      all.outside p (λ k i within.
      let r = matching h.records v.retired mirrors.ids.records k i in none (r.0, r.1, subst (λ (x : Range). IsWithin x p) r.2 within)));
}

-- the descriptor drops each entry of the domain
pub dropped_leaf : (d : ℕ) (l : CachedLeaf) → l.domain ≡ d → drops_leaf (IotlbDomain d) l ≡ false → ⊥
dropped_leaf d l same left = grind (arith, nat_tests)

pub dropped_table : (d : ℕ) (i : CachedNonLeaf) → i.domain ≡ d → drops_non_leaf (IotlbDomain d) i ≡ false → ⊥
dropped_table d i same left = grind (arith, nat_tests)

flush_changes : (m t : State) (w : World) (i : ℕ) (h : Domain) (v : world.Domain) (space : Space) → Quarantine m w
    → length m.domains ≡ MOST_DOMAINS
    → i < length m.domains → domain_at m.domains (i + 1) ≡ Some h → Mirrors m.pool.words h v
    → Purges (IotlbDomain (i + 1)) m.iommu.unit.caches t.iommu.unit.caches → t.iommu.unit.caching ≡ m.iommu.unit.caching
    → ReleasesAll m.pool h.space h.records t.pool space
    → t.domains ≡ slice_set m.domains i (Some (domain_after h space [])) → t.iommu.contexts ≡ m.iommu.contexts → t.tickets ≡ m.tickets
    → ChangesDomain m t (i + 1) h (domain_after h space []) v (flushed v)
flush_changes m t w i h v space q many less there mirrors purges mode all domains row tickets = record {
  domains = λ e. ap (λ hs. domain_at hs e) domains ∙ domain_set m.domains i (Some (domain_after h space [])) less e;
  row = row;
  tickets = tickets;
  root = refl;
  width = refl;
  frames = all.frames;
  mirrors = mirrors_flushed m.pool t.pool space h v mirrors all;
  others = λ e k ne at. same_tree m.pool.words t.pool.words k.width k.root all.words;
  account =
      λ f.
      let used : uses (memory t.pool.words) (levels h.width) h.root f ≡ uses (memory m.pool.words) (levels h.width) h.root f =
      ap (λ ws. uses (memory ws) (levels h.width) h.root f) all.words in
      omega (arith, used, all.free f, held-nil f);
  zeroed = all.zeroed;
  held = λ e k at f more. subst (λ ws. IsZeroed ws f) (sym all.words) (q.frames.held e f k at more);
  held_here = λ f more. absurd (omega (arith, more, held-nil f));
  leaves = λ l inside. let left = purges.leaves l inside in (left.0, λ same. absurd (dropped_leaf (i + 1) l same left.1));
  tables = λ k inside. let left = purges.tables k inside in (left.0, λ same. absurd (dropped_table (i + 1) k same left.1));
  contexts = λ k inside. (purges.contexts k inside).0;
  faults = record { mode = mode; left = λ f inside. (purges.faults f inside).0 };
  live = λ p none. none;
}

-- a flush: the descriptor was sent and done before the records came free
pub domain_flushed : (m t : State) (w : World) (i n : ℕ) (h : Domain) (v : world.Domain) (space : Space) → Quarantine m w
    → length m.domains ≡ MOST_DOMAINS → i < length m.domains → domain_at m.domains (i + 1) ≡ Some h → w.domains (i + 1) ≡ Some v
    → t.iommu.unit.caches ≡ left_by_all (m.iommu.ring.waiting ++ IotlbDomain (i + 1) ∷ Wait n ∷ []) m.iommu.unit.caches
    → t.iommu.unit.caching ≡ m.iommu.unit.caching → ReleasesAll m.pool h.space h.records t.pool space
    → t.domains ≡ slice_set m.domains i (Some (domain_after h space []))
    → t.iommu.contexts ≡ m.iommu.contexts → t.tickets ≡ m.tickets
    → Quarantine t (record w { domains = put (i + 1) (Some (flushed v)) w.domains })
domain_flushed m t w i n h v space q many less there here caches mode all domains row tickets =
    changes_domain m t w (i + 1) h (domain_after h space []) v (flushed v) q many there here
    (flush_changes m t w i h v space q many less there (mirrors_of m w (i + 1) h v q there here)
    (purges_sent m.iommu.ring.waiting (IotlbDomain (i + 1)) n m.iommu.unit.caches t.iommu.unit.caches caches) mode all domains row tickets)
