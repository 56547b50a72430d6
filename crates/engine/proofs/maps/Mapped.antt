-- A map: how it is refused, and what it changes.
use Rattle.std.proofs.Common.{map, ◌≡◌, ◌≢◌, ℕ, ◌+◌, ◌-◌, ◌*◌, ◌/◌, ◌%◌, ◌^◌, ◌<◌, ◌≤◌, ◌⊎◌, inl, inr, List, [], length, Option, Some, None}
use Rattle.std.proofs.Common.{Result, Ok, Err, refl, sym, ap, ap₂, subst, ◌∙◌, arith, slice_get, slice_set}
use Rattle.std.proofs.lemmas.Option.{none-some, same_Some}
use Rattle.dmatypes.specs.declared.call.Call.TheVariants as calls
use Rattle.dmatypes.specs.declared.reply.Reply.TheVariants.{Mapped, Refused}
use Rattle.dmatypes.specs.declared.refusal.Refusal.{Refusal}
use Rattle.dmatypes.specs.declared.refusal.Refusal.TheVariants as refusals
use Rattle.dmatypes.specs.World.{World, Target, AreFreePages, mapped, placed, put}
use Rattle.dmatypes.specs.World as world
use Rattle.dmatypes.proofs.numbers.Ranges.{within_or_not}
use Rattle.dmatypes.specs.declared.call.Segment.{Segment}
use Rattle.dmatypes.specs.Conditions.{HasNoRange, IsBadMap, Stands, total_pages}
use Rattle.dmatypes.specs.Step.{IsStep, Answers, next}
use Rattle.iova.specs.Changes.{Takes}
use Rattle.unit.specs.Walking.{stated_by}
use Rattle.engine.specs.declared.wanted.Wanted.{Wanted}
use Rattle.iova.specs.Space.{Space, IsFit}
use Rattle.tables.specs.Changes.{TreeStays}
use Rattle.arrayvec.specs.ArrayVec.{ArrayVec}
use Rattle.dmatypes.specs.Rights.{bits_of}
use Rattle.tables.specs.Pool.{Pool, memory, occurs, IsZeroed}
use Rattle.tables.specs.Segments.{one_segment}
use Rattle.tables.specs.Tree.{stated, states}
use Rattle.tables.proofs.pools.Kept.{apart_stays, map_leaves, map_tables, same_root, span-levels, some_levels}
use Rattle.engine.specs.Domains.{Domain, domain_at, held_in}
use Rattle.engine.specs.Judged.{AreMappable, AreOwned, IsJudged, Wants}
use Rattle.engine.specs.State.{State, Exact, Becomes, mapped_reply}
use Rattle.engine.specs.Placing.{IsCrowded, IsShort, IsUnplaced, Placement, Places}
use Rattle.engine.specs.Quarantine.{Mirrors, PartsPages, Quarantine, owned, ticket_there}
use Rattle.engine.specs.Steps.{Does}
use Rattle.engine.proofs.frames.Owners.{apart_of, frames_move, held_zeroed, tree_of}
use Rattle.engine.proofs.frames.Held.{held_stays}
use Rattle.engine.specs.declared.iommu.Iommu.{Iommu}
use Rattle.engine.specs.Ending.{SendsForMap}
use Rattle.engine.proofs.caches.Faults.{faults_mapped}
use Rattle.engine.proofs.caches.Lawful.{KeepsLawful, fewer_lawful, keeps_same, stay_lawful}
use Rattle.engine.proofs.caches.MapSent.{map_fewer, map_row}
use Rattle.engine.proofs.caches.Purged.{IsFewer}
use Rattle.dmatypes.proofs.histories.Maps.{put_same, put_other, same_or_not}
use Rattle.engine.proofs.lists.Places.{is_none, not_none, set_again}
use Rattle.engine.proofs.domains.Pieces.{fit_of, free_pages, mapped_inside, mapped_outside, pieces_mapped}
use Rattle.engine.proofs.domains.OneChanged.{both_absent, both_there, domain_low, domain_set, domains_put}
use Rattle.engine.proofs.domains.Trees.{tree_stays}
use Rattle.engine.proofs.states.Refused.{counted, refuses}
use Rattle.engine.proofs.maps.Segments.{some_page}
use Rattle.dmatypes.specs.declared.limits.TheConstants.{MOST_DOMAINS}
use Rattle.dmatypes.specs.declared.page.TheConstants.{PAGE_BYTES}
use Rattle.dmatypes.specs.Page.{levels, pages_end}

pub map_no_domain : (m t : State) (domain order rights : ℕ) (segments : ArrayVec Segment) → t ≡ counted m
    → domain_at m.domains domain ≡ None → Does m (calls.MapList domain order rights segments) (Refused refusals.NoDomain) t
unfolding Exact IsStep Stands
map_no_domain m t domain order rights segments is none = refuses m t (calls.MapList domain order rights segments) refusals.NoDomain is tt
    (λ w q.
    inl (inl (
      is_none (w.domains domain)
          (both_absent m.pool.words (domain_at m.domains domain) (w.domains domain) (q.domains domain) none),
      refl,
    )))

pub map_bad : (m t : State) (domain order rights : ℕ) (segments : ArrayVec Segment) (h : Domain) → t ≡ counted m
    → domain_at m.domains domain ≡ Some h → IsBadMap segments.items order rights
    → Does m (calls.MapList domain order rights segments) (Refused refusals.BadRange) t
unfolding Exact IsStep Stands
map_bad m t domain order rights segments h is there bad = refuses m t (calls.MapList domain order rights segments) refusals.BadRange is tt
    (λ w q.
    let v = both_there m.pool.words (domain_at m.domains domain) (w.domains domain) h (q.domains domain) there in
    inl (inr (not_none (w.domains domain) v.0 v.1, inl (bad, refl))))

pub map_owned : (m t : State) (domain order rights : ℕ) (segments : ArrayVec Segment) (h : Domain) → t ≡ counted m
    → domain_at m.domains domain ≡ Some h → (IsBadMap segments.items order rights → ⊥) → AreOwned m.pool.frames segments.items
    → Does m (calls.MapList domain order rights segments) (Refused refusals.FrameOwned) t
unfolding Exact IsStep Stands
map_owned m t domain order rights segments h is there good low =
    refuses m t (calls.MapList domain order rights segments) refusals.FrameOwned is tt
    (λ w q.
    let v = both_there m.pool.words (domain_at m.domains domain) (w.domains domain) h (q.domains domain) there in
    inl
    (inr (not_none (w.domains domain) v.0 v.1, inr (good, inl (subst (λ n. AreOwned n segments.items) (sym q.table_frames) low, refl)))))

occurs-nil : (f : ℕ) → occurs f [] ≡ 0
occurs-nil f = refl

-- as many table frames as the world says
owned_not : (frames frames' : ℕ) (segments : List Segment) → frames ≡ frames' → (AreOwned frames' segments → ⊥) → AreOwned frames segments
    → ⊥
owned_not frames frames' segments same high low = high (subst (λ n. AreOwned n segments) same low)

no_range : (w : World) (domain pages order : ℕ) (v : world.Domain) → w.domains domain ≡ Some v
    → ((s : ℕ) → s % 2 ^ order ≡ 0 → AreFreePages v (record { first = s; pages = pages }) → ⊥) → HasNoRange w domain pages order
no_range w domain pages order v is none = rw is none

some_range : (w : World) (domain pages order : ℕ) (v : world.Domain) (s : ℕ) → w.domains domain ≡ Some v → s % 2 ^ order ≡ 0
    → AreFreePages v (record { first = s; pages = pages }) → HasNoRange w domain pages order → ⊥
some_range w domain pages order v s is aligned free none = let no = rw is at none in no s aligned free

pub map_no_range : (m t : State) (domain order rights : ℕ) (segments : ArrayVec Segment) (h : Domain) → t ≡ counted m
    → domain_at m.domains domain ≡ Some h → (IsBadMap segments.items order rights → ⊥) → (AreOwned m.pool.frames segments.items → ⊥)
    → ((start : ℕ) → IsFit h.space.pieces (total_pages segments.items) (2 ^ order) start → ⊥)
    → Does m (calls.MapList domain order rights segments) (Refused refusals.NoRange) t
unfolding Exact IsStep Stands
map_no_range m t domain order rights segments h is there good high none =
    refuses m t (calls.MapList domain order rights segments) refusals.NoRange is tt
    (λ w q.
    let v = both_there m.pool.words (domain_at m.domains domain) (w.domains domain) h (q.domains domain) there in
    let all =
    no_range w domain (total_pages segments.items) order v.0 v.1
    (λ s aligned free. none s (fit_of h.space v.0 (total_pages segments.items) (2 ^ order) s v.2.pieces aligned free)) in
    inl (inr (
      not_none (w.domains domain) v.0 v.1,
      inr (
        good,
        inr (
          owned_not w.table_frames m.pool.frames segments.items q.table_frames high,
          inl (all, refl),
        ),
      ),
    )))

pub map_too_many : (m t : State) (domain order rights : ℕ) (segments : ArrayVec Segment) (h : Domain) → t ≡ counted m
    → domain_at m.domains domain ≡ Some h → (IsBadMap segments.items order rights → ⊥) → (AreOwned m.pool.frames segments.items → ⊥)
    → IsCrowded h (total_pages segments.items) order
    → Does m (calls.MapList domain order rights segments) (Refused refusals.TooManyPieces) t
unfolding Exact IsStep Stands
map_too_many m t domain order rights segments h is there good high many =
    refuses m t (calls.MapList domain order rights segments) refusals.TooManyPieces is (rw there many)
    (λ w q.
    let v = both_there m.pool.words (domain_at m.domains domain) (w.domains domain) h (q.domains domain) there in
    let fit : IsFit h.space.pieces (total_pages segments.items) (2 ^ order) many.0 = many.1.fit in
    let some =
    some_range w domain (total_pages segments.items) order v.0 many.0 v.1 fit.aligned
    (free_pages h.space v.0 (total_pages segments.items) (2 ^ order) many.0 v.2.pieces fit) in
    inr (
      (
        not_none (w.domains domain) v.0 v.1,
        (good, (owned_not w.table_frames m.pool.frames segments.items q.table_frames high, (some, tt))),
      ),
      tt,
    ))

pub map_short : (m t : State) (domain order rights : ℕ) (segments : ArrayVec Segment) (h : Domain) → t ≡ counted m
    → domain_at m.domains domain ≡ Some h → (IsBadMap segments.items order rights → ⊥) → (AreOwned m.pool.frames segments.items → ⊥)
    → IsShort m.pool h segments.items order → Does m (calls.MapList domain order rights segments) (Refused refusals.NoFrames) t
unfolding Exact IsStep Stands
map_short m t domain order rights segments h is there good high short =
    refuses m t (calls.MapList domain order rights segments) refusals.NoFrames is (rw there short)
    (λ w q.
    let v = both_there m.pool.words (domain_at m.domains domain) (w.domains domain) h (q.domains domain) there in
    let fit : IsFit h.space.pieces (total_pages segments.items) (2 ^ order) short.0 = short.1.lowest.fit in
    let some =
    some_range w domain (total_pages segments.items) order v.0 short.0 v.1 fit.aligned
    (free_pages h.space v.0 (total_pages segments.items) (2 ^ order) short.0 v.2.pieces fit) in
    inr (
      (
        not_none (w.domains domain) v.0 v.1,
        (good, (owned_not w.table_frames m.pool.frames segments.items q.table_frames high, (some, tt))),
      ),
      tt,
    ))

-- ---- the state with the map

-- the domain after the map
abbrev pub domain_mapped : Domain → Space → Domain
domain_mapped h space = record h { space = space }

-- the segments from a first page on
abbrev pub placement : List Segment → ℕ → ℕ → ℕ → Placement
placement segments order rights first = record { segments = segments; order = order; rights = rights; first = first }

-- the first page of a map is a page
first_low : (space space' : Space) (v : world.Domain) (first pages : ℕ) → PartsPages space v
    → Takes space space' (record { first = first; pages = pages }) → 1 ≤ pages → first < pages_end v.width
first_low space space' v first pages parts takes some = ((parts.free first).0 (takes.free first (omega arith, omega (arith, some)))).0.1

-- the domain after the map is the one of the world after it
maps_mirror : (pool pool' : Pool) (h h1 : Domain) (v : world.Domain) (segments : List Segment) (first order rights : ℕ)
    → Mirrors pool.words h v → Places pool h (placement segments order rights first) pool' h1 → 1 ≤ total_pages segments
    → Mirrors pool'.words (domain_mapped h h1.space) (mapped segments first rights v)
maps_mirror pool pool' h h1 v segments first order rights mirrors places some = record {
  ids = record { mode = mirrors.ids.mode; begun = mirrors.ids.begun; width = mirrors.ids.width; records = mirrors.ids.records };
  tree = λ p low. elim (within_or_not (record { first = first; pages = total_pages segments }) p) [
    | inl inside ↦ places.maps.mapped p inside.0 inside.1 ∙ sym (mapped_inside v segments first rights p inside)
    | inr past ↦
        ap (stated p)
        (places.maps.elsewhere p (same_root (levels h.width) p first (omega (arith, low, span-levels h.width))
        (omega (arith, start, span-levels h.width))) past)
        ∙ mirrors.tree p low ∙ sym (mapped_outside v segments first rights p past)
  ];
  spelled = places.spelled mirrors.spelled;
  pieces = pieces_mapped h.space h1.space v segments first rights mirrors.pieces places.takes places.is_space;
} where
  start : first < pages_end h.width
  start = subst (λ n. first < pages_end n) (sym mirrors.ids.width)
      (first_low h.space h1.space v first (total_pages segments) mirrors.pieces places.takes some)

-- what is cached of the domain stays lawful
maps_lawful : (pool pool' : Pool) (h h1 : Domain) (v : world.Domain) (segments : List Segment) (first order rights : ℕ)
    → Mirrors pool.words h v → Places pool h (placement segments order rights first) pool' h1 → 1 ≤ total_pages segments
    → ((f : ℕ) → 0 < held_in h.records f → IsZeroed pool'.words f)
    → KeepsLawful pool.words pool'.words h (domain_mapped h h1.space) v (mapped segments first rights v)
maps_lawful pool pool' h h1 v segments first order rights mirrors places some zeroed = record {
  leaf = λ l lawful. record {
    stated = λ p low high. elim (lawful.stated p low high) [ inl live ↦ inl (still p (stated_by p l) live) | inr retired ↦ inr retired ];
    entry =
        λ strict.
        map_leaves pool pool' (levels h.width) h.root first (first + total_pages segments) (placed segments first rights)
        (omega (arith, some_levels h.width)) (omega (arith, start, span-levels h.width))
        absent places.maps l.first l.pages l.frame l.rights (lawful.entry strict);
  };
  table = λ i lawful. record {
    span = lawful.span;
    named = elim lawful.named [
      | inl at ↦
          inl (map_tables pool pool' (levels h.width) h.root first (first + total_pages segments) (placed segments first rights)
          places.maps i.first
          i.level i.frame at)
      | inr has ↦ inr (held_stays pool.words pool'.words h.records zeroed i.first i.pages i.frame has)
    ];
  };
} where
  start : first < pages_end h.width
  start = subst (λ n. first < pages_end n) (sym mirrors.ids.width)
      (first_low h.space h1.space v first (total_pages segments) mirrors.pieces places.takes some)

  -- a page of the range was free, and so absent
  absent : (p : ℕ) → first ≤ p → p < first + total_pages segments → states (memory pool.words) (levels h.width) h.root p ≡ None
  absent p low high = let free = (mirrors.pieces.free p).0 (places.takes.free p (low, high)) in mirrors.tree p
      (subst (λ n. p < pages_end n) (sym mirrors.ids.width) free.0.1) ∙ free.1.not_live

  still : (p : ℕ) (t : Target) → v.live p ≡ Some t → (mapped segments first rights v).live p ≡ Some t
  still p t live = elim (within_or_not (record { first = first; pages = total_pages segments }) p) [
    | inl inside ↦ absurd (none-some t (sym ((mirrors.pieces.free p).0 (places.takes.free p inside)).1.not_live ∙ live))
    | inr past ↦ mapped_outside v segments first rights p past ∙ live
  ]

-- the other trees are as they were
others_stay : (m t : State) (w : World) (d : ℕ) (h h1 : Domain) (segments : List Segment) (first order rights : ℕ) → Quarantine m w
    → length m.domains ≡ MOST_DOMAINS → domain_at m.domains d ≡ Some h → Places m.pool h (placement segments order rights first) t.pool h1
    → (e : ℕ) (k : Domain) → e ≢ d → domain_at m.domains e ≡ Some k → TreeStays m.pool t.pool (levels k.width) k.root
others_stay m t w d h h1 segments first order rights q many there places e k ne here =
    let low : d < MOST_DOMAINS + 1 = domain_low m.domains d h many there in
    let less : e < MOST_DOMAINS + 1 = domain_low m.domains e k many here in
    apart_stays m.pool t.pool (levels h.width) h.root (levels k.width) k.root []
    (tree_of m.pool (domain_at m.domains) d h q.frames low there) places.moves
    (tree_of m.pool (domain_at m.domains) e k q.frames less here)
    (apart_of m.pool (domain_at m.domains) d e h k q.frames low less ne there here)

with_map : (m t : State) (w : World) (i : ℕ) (h h1 : Domain) (v : world.Domain) (segments : List Segment) (first order rights : ℕ)
    → Quarantine m w → length m.domains ≡ MOST_DOMAINS → i < length m.domains → domain_at m.domains (i + 1) ≡ Some h
    → w.domains (i + 1) ≡ Some v
    → Mirrors m.pool.words h v → Places m.pool h (placement segments order rights first) t.pool h1 → 1 ≤ total_pages segments
    → t.domains ≡ slice_set m.domains i (Some (domain_mapped h h1.space))
    → SendsForMap m.iommu.unit.caching m.iommu (i + 1) h.root (record { first = first; pages = total_pages segments }) t.iommu
    → t.tickets ≡ m.tickets
    → Quarantine t (record w { domains = put (i + 1) (Some (mapped segments first rights v)) w.domains })
with_map m t w i h h1 v segments first order rights q many less there here mirrors places some domains sends tickets = record {
  table_frames = q.table_frames ∙ sym places.moves.frames;
  domains =
      domains_put m t w (i + 1) (domain_mapped h h1.space) (mapped segments first rights v) q domains_are
      (maps_mirror m.pool t.pool h h1 v segments first order rights mirrors places some)
      (λ e k ne at. tree_stays m.pool t.pool t.pool.words k.width k.root (stays e k ne at) refl);
  caches =
      fewer_lawful t (record w { domains = put (i + 1) (Some (mapped segments first rights v)) w.domains }) m.iommu.unit.caches
      t.iommu.unit.caches
      (stay_lawful m t w (record w { domains = put (i + 1) (Some (mapped segments first rights v)) w.domains }) m.iommu.unit.caches
      q.caches (λ d k u at in_world. by_domain d k u at in_world (same_or_not d (i + 1)))) fewer.leaves fewer.tables;
  faults = faults_mapped m.iommu t.iommu w (i + 1) h.root first rights v segments here sends q.faults;
  contexts = record {
    devices = λ x. rw row (q.contexts.devices x);
    roots =
        λ x root domain width at.
        let was =
        q.contexts.roots x root domain width (rw row at at) in
        let now = kept_root domain was.0 was.1 in (now.0, now.1, now.2 ∙ was.2, now.3 ∙ was.3);
    cached = λ x inside. rw row (q.contexts.cached x (fewer.contexts x inside));
  };
  frames =
      frames_move m.pool t.pool (domain_at m.domains) (domain_at t.domains) (i + 1) (Some (domain_mapped h h1.space)) q.frames low
      domains_are places.moves.frames moves stay places.is_pool.zeroed held;
  tickets = q.tickets ∙ ap (map ticket_there) (sym tickets);
} where
  row : t.iommu.contexts ≡ m.iommu.contexts
  row = map_row m.iommu t.iommu (i + 1) h.root (record { first = first; pages = total_pages segments }) m.iommu.unit.caching sends

  fewer : IsFewer m.iommu.unit.caches t.iommu.unit.caches
  fewer = map_fewer m.iommu t.iommu (i + 1) h.root (record { first = first; pages = total_pages segments }) m.iommu.unit.caching sends

  low : i + 1 < MOST_DOMAINS + 1
  low = domain_low m.domains (i + 1) h many there

  stays : (e : ℕ) (k : Domain) → e ≢ i + 1 → domain_at m.domains e ≡ Some k → TreeStays m.pool t.pool (levels k.width) k.root
  stays e k ne at = others_stay m t w (i + 1) h h1 segments first order rights q many there places e k ne at

  zeroed : (e : ℕ) (k : Domain) → domain_at m.domains e ≡ Some k → (f : ℕ) → 0 < held_in k.records f → IsZeroed t.pool.words f
  zeroed e k at f more =
      held_zeroed m.pool t.pool (domain_at m.domains) (i + 1) e h k [] q.frames low (domain_low m.domains e k many at) there at places.moves
      f more

  domains_are : (e : ℕ) → domain_at t.domains e ≡ put (i + 1) (Some (domain_mapped h h1.space)) (domain_at m.domains) e
  domains_are e = ap (λ ds. domain_at ds e) domains ∙ domain_set m.domains i (Some (domain_mapped h h1.space)) less e

  at_new : (d : ℕ) → d ≡ i + 1 → domain_at t.domains d ≡ Some (domain_mapped h h1.space)
  at_new d same =
      domains_are d ∙ ap (put (i + 1) (Some (domain_mapped h h1.space)) (domain_at m.domains)) same
      ∙ put_same (i + 1) (Some (domain_mapped h h1.space)) (domain_at m.domains)

  at_other : (d : ℕ) (k : Domain) → d ≢ i + 1 → domain_at m.domains d ≡ Some k → domain_at t.domains d ≡ Some k
  at_other d k ne at = domains_are d ∙ put_other (i + 1) (Some (domain_mapped h h1.space)) (domain_at m.domains) d ne ∙ at

  kept_root : (d : ℕ) (k : Domain) → domain_at m.domains d ≡ Some k → (k' : Domain) × (domain_at t.domains d ≡ Some k') × (k'.root ≡ k.root)
      × (k'.width ≡ k.width)
  kept_root d k at = elim (same_or_not d (i + 1)) [
    | inl same ↦ (
      (domain_mapped h h1.space),
      at_new d same,
      ap (λ (x : Domain). x.root) (same_Some h k (sym there ∙ ap (domain_at m.domains) (sym same) ∙ at)),
      ap (λ (x : Domain). x.width) (same_Some h k (sym there ∙ ap (domain_at m.domains) (sym same) ∙ at)),
    )
    | inr ne ↦ (k, at_other d k ne at, refl, refl)
  ]

  by_domain : (d : ℕ) (k : Domain) (u : world.Domain) → domain_at m.domains d ≡ Some k → w.domains d ≡ Some u → (d ≡ i + 1) ⊎ (d ≢ i + 1)
      → (k' : Domain) × (u' : world.Domain) × (domain_at t.domains d ≡ Some k')
      × (put (i + 1) (Some (mapped segments first rights v)) w.domains d ≡ Some u') × KeepsLawful m.pool.words t.pool.words k k' u u'
  by_domain d k u at in_world (inl same) =
      let is_old : h ≡ k = same_Some h k (sym there ∙ ap (domain_at m.domains) (sym same) ∙ at) in
      let is_domain : v ≡ u = same_Some v u (sym here ∙ ap w.domains (sym same) ∙ in_world) in (
        (domain_mapped h h1.space),
        (mapped segments first rights v),
        at_new d same,
        ap (put (i + 1) (Some (mapped segments first rights v)) w.domains) same
            ∙ put_same (i + 1) (Some (mapped segments first rights v)) w.domains,
        subst
            (λ x. KeepsLawful m.pool.words t.pool.words x (domain_mapped h h1.space) u (mapped segments first rights v)) is_old
            (subst (λ y. KeepsLawful m.pool.words t.pool.words h (domain_mapped h h1.space) y (mapped segments first rights v)) is_domain
            (maps_lawful m.pool t.pool h h1 v segments first order rights mirrors places some (zeroed (i + 1) h there))),
      )
  by_domain d k u at in_world (inr ne) = (
    k,
    u,
    at_other d k ne at,
    put_other (i + 1) (Some (mapped segments first rights v)) w.domains d ne ∙ in_world,
    keeps_same m.pool.words t.pool.words k u (λ p. (stays d k ne at).same_leaves p) (λ p x. (stays d k ne at).same_tables p x)
        (held_stays m.pool.words t.pool.words k.records (zeroed d k at)),
  )

  moves : (f : ℕ)
      → owned (memory t.pool.words) (Some (domain_mapped h h1.space)) f + occurs f t.pool.free
      ≡ owned (memory m.pool.words) (domain_at m.domains (i + 1)) f + occurs f m.pool.free
  moves f =
      let was =
      ap (λ (o : Option Domain). owned (memory m.pool.words) o f) there in
      omega (arith, was, places.moves.account f, occurs-nil f)

  stay : (e f : ℕ) → e ≢ i + 1
      → owned (memory t.pool.words) (domain_at m.domains e) f ≡ owned (memory m.pool.words) (domain_at m.domains e) f
  stay e f ne = by_entry (domain_at m.domains e) refl
    where
      by_entry : (o : Option Domain) → domain_at m.domains e ≡ o → owned (memory t.pool.words) o f ≡ owned (memory m.pool.words) o f
      by_entry None at = refl
      by_entry (Some k) at = ap (λ n. n + held_in k.records f) ((stays e k ne at).same_frames f)

  held : (e f : ℕ) (k : Domain) → domain_at t.domains e ≡ Some k → 0 < held_in k.records f → IsZeroed t.pool.words f
  held e f k at more = elim (same_or_not e (i + 1)) [
    | inl same ↦
        let is : held_in k.records f ≡ held_in h.records f =
        ap (λ (x : Domain). held_in x.records f) (same_Some k (domain_mapped h h1.space) (sym at ∙ at_new e same)) in
        zeroed (i + 1) h there f (omega (arith, more, is))
    | inr ne ↦
        zeroed e k (sym (put_other (i + 1) (Some (domain_mapped h h1.space)) (domain_at m.domains) e ne) ∙ sym (domains_are e) ∙ at) f more
  ]

pub maps : (m t : State) (order rights i first : ℕ) (segments : ArrayVec Segment) (h h1 : Domain) → length m.domains ≡ MOST_DOMAINS
    → i < length m.domains → domain_at m.domains (i + 1) ≡ Some h → (IsBadMap segments.items order rights → ⊥)
    → (AreOwned m.pool.frames segments.items → ⊥) → AreMappable segments.items
    → Places m.pool h (placement segments.items order rights first) t.pool h1
    → SendsForMap m.iommu.unit.caching m.iommu (i + 1) h.root (record { first = first; pages = total_pages segments.items }) t.iommu
    → t ≡ record m { pool = t.pool; domains = slice_set m.domains i (Some h1); iommu = t.iommu; calls = m.calls + 1 }
    → Does m (calls.MapList (i + 1) order rights segments) (Mapped (PAGE_BYTES * first)) t
unfolding Exact Becomes IsStep Stands Answers next
maps m t order rights i first segments h h1 many less there good high are places sends is =
    let fit : IsFit h.space.pieces (total_pages segments.items) (2 ^ order) first = places.taken.lowest.fit in
    let page : PAGE_BYTES * first / PAGE_BYTES ≡ first = omega arith in
    let at_start : PAGE_BYTES * first ≡ PAGE_BYTES * first + 0 = omega arith in
    record {
      steps = λ w q.
          let v = both_there m.pool.words (domain_at m.domains (i + 1)) (w.domains (i + 1)) h (q.domains (i + 1)) there in
          let free = free_pages h.space v.0 (total_pages segments.items) (2 ^ order) first v.2.pieces fit in
          let some = some_range w (i + 1) (total_pages segments.items) order v.0 first v.1 fit.aligned free in (
            (
              (
                not_none (w.domains (i + 1)) v.0 v.1,
                (good, (owned_not w.table_frames m.pool.frames segments.items q.table_frames high, (some, tt))),
              ),
              (first, fit.aligned, rw v.1 free, ap (λ (a : ℕ). Mapped a) at_start),
            ),
            rw (v.1, page)
                (with_map m t w i h h1 v.0 segments.items first order rights q many less there v.1 v.2 places (some_page segments.items are)
                (ap (λ (x : State). x.domains) is ∙ ap (λ (d : Domain). slice_set m.domains i (Some d)) places.same)
                sends (ap (λ (x : State). x.tickets) is)),
          );
      exact = rw (there, page) (places.taken, omega (arith, places.count));
      becomes = let place : i + 1 - 1 ≡ i = omega arith in (h, h1, there, rw page places, rw page sends, rw place is);
      calls = ap (λ (x : State). x.calls) is;
    }

-- ---- by what is answered below

pub map_judged : (m t : State) (domain order rights : ℕ) (segments : ArrayVec Segment) (h : Domain) (refusal : Refusal) → t ≡ counted m
    → domain_at m.domains domain ≡ Some h → IsJudged m.pool.frames segments.items order rights (Err refusal)
    → Does m (calls.MapList domain order rights segments) (Refused refusal) t
map_judged m t domain order rights segments h refusals.BadRange is there judged = map_bad m t domain order rights segments h is there judged
map_judged m t domain order rights segments h refusals.FrameOwned is there judged =
    map_owned m t domain order rights segments h is there judged.0 judged.1
map_judged m t domain order rights segments h _ is there judged = absurd judged

pub map_unplaced : (m t : State) (domain order rights : ℕ) (segments : ArrayVec Segment) (h : Domain) (refusal : Refusal) → t ≡ counted m
    → domain_at m.domains domain ≡ Some h → (IsBadMap segments.items order rights → ⊥) → (AreOwned m.pool.frames segments.items → ⊥)
    → IsUnplaced m.pool h segments.items order refusal → Does m (calls.MapList domain order rights segments) (Refused refusal) t
map_unplaced m t domain order rights segments h refusals.NoRange is there good high none =
    map_no_range m t domain order rights segments h is there good high none
map_unplaced m t domain order rights segments h refusals.TooManyPieces is there good high crowded =
    map_too_many m t domain order rights segments h is there good high crowded
map_unplaced m t domain order rights segments h refusals.NoFrames is there good high short =
    map_short m t domain order rights segments h is there good high short
map_unplaced m t domain order rights segments h _ is there good high other = absurd other

pub map_refused : (m t : State) (domain order rights i : ℕ) (segments : ArrayVec Segment) (h h1 : Domain) (pool : Pool) (y : Iommu)
    (wanted : Wanted) (refusal : Refusal) → slice_get m.domains i ≡ Some (Some h) → domain_at m.domains domain ≡ Some h
    → (IsBadMap segments.items order rights → ⊥) → (AreOwned m.pool.frames segments.items → ⊥) → Wants wanted segments.items order rights
    → IsUnplaced m.pool h segments.items wanted.order refusal → pool ≡ m.pool → h1 ≡ h → y ≡ m.iommu
    → t ≡ record m { pool = pool; domains = slice_set m.domains i (Some h1); iommu = y; calls = m.calls + 1 }
    → Does m (calls.MapList domain order rights segments) (Refused refusal) t
map_refused m t domain order rights i segments h h1 pool y wanted refusal at there good high wants unplaced same_pool same quiet is =
    map_unplaced m t domain order rights segments h refusal
    (is ∙ ap (λ (x : Pool). record m { pool = x; domains = slice_set m.domains i (Some h1); iommu = y; calls = m.calls + 1 }) same_pool
    ∙ ap (λ (x : Iommu). record m { domains = slice_set m.domains i (Some h1); iommu = x; calls = m.calls + 1 }) quiet
    ∙ ap (λ (d : Domain). record m { domains = slice_set m.domains i (Some d); calls = m.calls + 1 }) same
    ∙ ap (λ (ds : List (Option Domain)). record m { domains = ds; calls = m.calls + 1 }) (set_again m.domains i (Some h) at))
    there good high (subst (λ o. IsUnplaced m.pool h segments.items o refusal) wants.order_is unplaced)

pub map_done : (m t : State) (domain order rights i first : ℕ) (segments : ArrayVec Segment) (h h1 : Domain) (pool : Pool) (y : Iommu)
    (wanted : Wanted) → length m.domains ≡ MOST_DOMAINS → i < length m.domains → domain ≡ i + 1 → domain_at m.domains domain ≡ Some h
    → (IsBadMap segments.items order rights → ⊥) → (AreOwned m.pool.frames segments.items → ⊥) → Wants wanted segments.items order rights
    → Places m.pool h (placement segments.items wanted.order (bits_of wanted.rights) first) pool h1
    → SendsForMap m.iommu.unit.caching m.iommu domain h.root (record { first = first; pages = total_pages segments.items }) y
    → t ≡ record m { pool = pool; domains = slice_set m.domains i (Some h1); iommu = y; calls = m.calls + 1 }
    → Does m (calls.MapList domain order rights segments) (Mapped (PAGE_BYTES * first)) t
map_done m t domain order rights i first segments h h1 pool y wanted many less id there good high wants places sends is =
    rw id (maps m t order rights i first segments h h1 many less (rw id at there) good high wants.mappable
    (subst (λ (p : Pool). Places m.pool h (placement segments.items order rights first) p h1) pool_is
    (subst (λ (n : ℕ). Places m.pool h (placement segments.items order n first) pool h1) wants.rights_are
    (subst (λ (n : ℕ). Places m.pool h (placement segments.items n (bits_of wanted.rights) first) pool h1) wants.order_is places)))
    (subst (λ (x : Iommu). SendsForMap m.iommu.unit.caching m.iommu (i + 1) h.root
    (record { first = first; pages = total_pages segments.items }) x) iommu_is (rw id at sends))
    (is ∙ ap₂ (λ (x : Pool) (z : Iommu). record m { pool = x; domains = slice_set m.domains i (Some h1); iommu = z; calls = m.calls + 1 })
    pool_is iommu_is))
  where
    pool_is : pool ≡ t.pool
    pool_is = sym (ap (λ (x : State). x.pool) is)

    iommu_is : y ≡ t.iommu
    iommu_is = sym (ap (λ (x : State). x.iommu) is)

-- ---- a map of one segment

-- is what a list of that one is
pub one_map : (m t : State) (domain frame pages order rights : ℕ) (answer : Result ℕ Refusal)
    → Does m (calls.MapList domain order rights (record { items = one_segment frame pages })) (mapped_reply answer) t
    → Does m (calls.Map domain frame pages order rights) (mapped_reply answer) t
unfolding Exact Becomes IsStep Stands Answers next
one_map m t domain frame pages order rights (Ok address) does = record {
  steps = λ w q. does.steps w q;
  exact = does.exact;
  becomes = does.becomes;
  calls = does.calls;
}
one_map m t domain frame pages order rights (Err refusal) does = record {
  steps = λ w q. does.steps w q;
  exact = does.exact;
  becomes = does.becomes;
  calls = does.calls;
}
