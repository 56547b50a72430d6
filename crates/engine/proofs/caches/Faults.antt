-- Pages that are remembered as absent stay absent, whatever a call does but to map them.
use Rattle.std.proofs.Common.{◌≡◌, ◌⊎◌, ℕ, inl, inr, Bool, true, false, List, Option, Some, None}
use Rattle.std.proofs.Common.{arith, if◌then◌else◌, refl, sym, ap, ◌∙◌}
use Rattle.std.proofs.lemmas.Bool.Decides.{nat_tests}
use Rattle.dmatypes.specs.Block.{Holds}
use Rattle.dmatypes.specs.Conditions.{total_pages}
use Rattle.dmatypes.specs.Page.{Range, IsWithin}
use Rattle.dmatypes.specs.World.{Target, World, IsIn, is_within, mapped, put, without}
use Rattle.dmatypes.specs.World as world
use Rattle.dmatypes.specs.declared.call.Segment.{Segment}
use Rattle.dmatypes.proofs.histories.Maps.{put_other, put_same, same_or_not}
use Rattle.dmatypes.proofs.numbers.Ranges.{within_or_not}
use Rattle.std.proofs.lemmas.Option.{none-some, same_Some}
use Rattle.unit.proofs.caches.Blocks.{inside_of_holds}
use Rattle.unit.specs.Caches.{CachedFault, UnitState}
use Rattle.unit.specs.Filters.{drops_fault, lie_in}
use Rattle.vtdbits.specs.declared.descriptor.Descriptor.{Descriptor}
use Rattle.vtdbits.specs.declared.descriptor.Descriptor.TheVariants.{IotlbDomain, IotlbPages}
use Rattle.engine.specs.declared.iommu.Iommu.{Iommu}
use Rattle.engine.specs.Ending.{IsSentForMap, SendsForMap, status_of}
use Rattle.engine.specs.Quarantine.{IsLawfulFault}
use Rattle.engine.proofs.caches.MapSent.{map_fewer, map_mode}
use Rattle.engine.proofs.caches.Purged.{purges_sent}
use Rattle.engine.proofs.domains.Pieces.{mapped_outside}

-- all that are remembered are lawful
abbrev pub AreLawfulFaults : UnitState → World → Type 0
AreLawfulFaults u w = (f : CachedFault) → IsIn f u.caches.faults → IsLawfulFault u w f

-- what is left of them was there, and the mode is the same
pub record LeavesFaults (u u' : UnitState) : Type 0 where
  pub mode : u'.caching ≡ u.caching
  pub left : (f : CachedFault) → IsIn f u'.caches.faults → IsIn f u.caches.faults

-- the page was live in the domain of this id already, or isn't live there
abbrev IsNoNewPage : (ℕ → Option world.Domain) → (ℕ → Option world.Domain) → ℕ → ℕ → Type 0
IsNoNewPage old new d p = (v' : world.Domain) → new d ≡ Some v'
    → (v'.live p ≡ None) ⊎ ((v : world.Domain) × (old d ≡ Some v) × (v.live p ≡ None → v'.live p ≡ None))

-- each domain has live what the one of its id had before, or nothing
abbrev pub NoNewPages : (ℕ → Option world.Domain) → (ℕ → Option world.Domain) → Type 0
NoNewPages old new = (d p : ℕ) → IsNoNewPage old new d p

left_absent : (u u' : UnitState) (w w' : World) → LeavesFaults u u'
    → ((f : CachedFault) → IsIn f u'.caches.faults → IsNoNewPage w.domains w'.domains f.domain f.page) → AreLawfulFaults u w
    → AreLawfulFaults u' w'
left_absent u u' w w' leaves no_new lawful f inside =
    let was = lawful f (leaves.left f inside) in (
      leaves.mode ∙ was.0,
      λ v' there. elim (no_new f inside v' there) [
        | inl none ↦ none
        | inr kept ↦ kept.2 (was.1 kept.0 kept.1)
      ],
    )

-- where no page becomes live, they stay lawful
pub faults_stay : (u u' : UnitState) (w w' : World) → LeavesFaults u u' → NoNewPages w.domains w'.domains → AreLawfulFaults u w
    → AreLawfulFaults u' w'
faults_stay u u' w w' leaves no_new lawful = left_absent u u' w w' leaves (λ f inside. no_new f.domain f.page) lawful

pub all_left : (u u' : UnitState) → u' ≡ u → LeavesFaults u u'
all_left u u' same = record { mode = ap (λ (x : UnitState). x.caching) same; left = λ f inside. rw same at inside }

-- ---- domains

pub same_pages : (domains : ℕ → Option world.Domain) → NoNewPages domains domains
same_pages domains d p v' there = inr (v', there, λ none. none)

-- one domain changes, and has no new page
pub fewer_pages : (domains : ℕ → Option world.Domain) (d : ℕ) (v v' : world.Domain) → domains d ≡ Some v
    → ((p : ℕ) → v.live p ≡ None → v'.live p ≡ None) → NoNewPages domains (put d (Some v') domains)
fewer_pages domains d v v' here none e p u there = elim (same_or_not e d) [
  | inl same ↦
      let is : v' ≡ u = same_Some v' u (sym (put_same d (Some v') domains) ∙ ap (put d (Some v') domains) (sym same) ∙ there) in
      inr (v, ap domains same ∙ here, λ was. ap (λ (x : world.Domain). x.live p) (sym is) ∙ none p was)
  | inr ne ↦ inr (u, sym (put_other d (Some v') domains e ne) ∙ there, λ was. was)
]

-- one domain is made, and has no page
pub no_pages : (domains : ℕ → Option world.Domain) (d : ℕ) (v' : world.Domain) → ((p : ℕ) → v'.live p ≡ None)
    → NoNewPages domains (put d (Some v') domains)
no_pages domains d v' none e p u there = elim (same_or_not e d) [
  | inl same ↦
      let is : v' ≡ u = same_Some v' u (sym (put_same d (Some v') domains) ∙ ap (put d (Some v') domains) (sym same) ∙ there) in
      inl (ap (λ (x : world.Domain). x.live p) (sym is) ∙ none p)
  | inr ne ↦ inr (u, sym (put_other d (Some v') domains e ne) ∙ there, λ was. was)
]

-- one domain goes
pub gone_pages : (domains : ℕ → Option world.Domain) (d : ℕ) → NoNewPages domains (put d None domains)
gone_pages domains d e p u there = elim (same_or_not e d) [
  | inl same ↦ absurd (none-some u (sym (put_same d None domains) ∙ ap (put d None domains) (sym same) ∙ there))
  | inr ne ↦ inr (u, sym (put_other d None domains e ne) ∙ there, λ was. was)
]

-- a page that isn't live isn't so without the pages of a range
pub without_none : (range : Range) (live : ℕ → Option Target) (p : ℕ) → live p ≡ None → without range live p ≡ None
without_none range live p none = by_test (is_within range p)
  where
    by_test : (b : Bool) → (if b then None else live p) ≡ None
    by_test true = refl
    by_test false = none

-- ---- a map

-- the descriptor of a map drops each that is of its pages
dropped_by_map : (d : ℕ) (range : Range) (x : Descriptor) (f : CachedFault) → IsSentForMap d range x → f.domain ≡ d → IsWithin range f.page
    → drops_fault x f ≡ false → ⊥
dropped_by_map d range x f (b, is, inl (small, same)) own inside left =
    let held : Holds b (record { first = f.page; pages = 1 }) =
    (λ q within. let at : q ≡ f.page = omega (arith, within.0, within.1) in rw at (is.holds f.page inside)) in
    let lies : lie_in b f.page 1 ≡ true = inside_of_holds b f.page 1 (omega arith) held in
    let kept : drops_fault (IotlbPages d b false) f ≡ false = rw same at left in
    grind (arith, nat_tests)
dropped_by_map d range x f (b, is, inr (large, same)) own inside left =
    let kept : drops_fault (IotlbDomain d) f ≡ false = rw same at left in grind (arith, nat_tests)

-- what is left after a map is of none of its pages: without Caching Mode there was none
module _ (x x' : Iommu) (w : World) (d root : ℕ) (range : Range) (lawful : AreLawfulFaults x.unit w) where
  none_of_map : (caching : Bool) → x.unit.caching ≡ caching → SendsForMap caching x d root range x'
      → (f : CachedFault) → IsIn f x'.unit.caches.faults → f.domain ≡ d → IsWithin range f.page → ⊥
  none_of_map false off sends f inside own within =
      let was = lawful f ((map_fewer x x' d root range false sends).faults f inside) in
      let clash : true ≡ false = sym was.0 ∙ off in
      absurd cc
  none_of_map true on (t, is, sends) f inside own within =
      dropped_by_map d range t f is own within
      ((purges_sent x.ring.waiting t (status_of x'.sent) x.unit.caches x'.unit.caches sends.caches).faults f inside).1

-- so they stay lawful
pub faults_mapped : (x x' : Iommu) (w : World) (d root first rights : ℕ) (v : world.Domain) (segments : List Segment)
    → w.domains d ≡ Some v → SendsForMap x.unit.caching x d root (record { first = first; pages = total_pages segments }) x'
    → AreLawfulFaults x.unit w
    → AreLawfulFaults x'.unit (record w { domains = put d (Some (mapped segments first rights v)) w.domains })
faults_mapped x x' w d root first rights v segments here sends lawful =
    left_absent x.unit x'.unit w (record w { domains = put d (Some (mapped segments first rights v)) w.domains })
    (record {
      mode = map_mode x x' d root range x.unit.caching sends;
      left = (map_fewer x x' d root range x.unit.caching sends).faults;
    })
    no_new lawful
  where
    range : Range
    range = record { first = first; pages = total_pages segments }

    no_new : (f : CachedFault) → IsIn f x'.unit.caches.faults
        → IsNoNewPage w.domains (put d (Some (mapped segments first rights v)) w.domains) f.domain f.page
    no_new f inside u there = elim (same_or_not f.domain d) [
      | inl own ↦ elim (within_or_not range f.page) [
        | inl within ↦ absurd (none_of_map x x' w d root range lawful x.unit.caching refl sends f inside own within)
        | inr past ↦
            let is : mapped segments first rights v ≡ u =
            same_Some (mapped segments first rights v) u (sym (put_same d (Some (mapped segments first rights v)) w.domains)
            ∙ ap (put d (Some (mapped segments first rights v)) w.domains) (sym own) ∙ there) in
            inr (
              v,
              ap w.domains own ∙ here,
              λ was. ap (λ (y : world.Domain). y.live f.page) (sym is) ∙ mapped_outside v segments first rights f.page past ∙ was,
            )
      ]
      | inr ne ↦ inr (u, sym (put_other d (Some (mapped segments first rights v)) w.domains f.domain ne) ∙ there, λ was. was)
    ]
