-- An unmap is a step of the model: refused, or done, and then it keeps the quarantine.
use Rattle.std.proofs.Common.{◌≡◌, ◌≢◌, ℕ, ◌+◌, ◌%◌, ◌<◌, inl, inr, [], ◌∷◌, ◌++◌, length, Option, Some, None, IsNone, IsSome, refl, sym}
use Rattle.dmatypes.specs.declared.width.Width.{Width}
use Rattle.std.proofs.Common.{ap, subst, ◌∙◌, slice_set}
use Rattle.std.proofs.lemmas.Bool.{eq-eqb, ne_eqb}
use Rattle.std.proofs.lemmas.List.{length-map}
use Rattle.dmatypes.specs.declared.call.Call.TheVariants as calls
use Rattle.dmatypes.specs.declared.call.Mode.{Mode}
use Rattle.dmatypes.specs.declared.call.Mode.TheVariants.{Strict, Lazy}
use Rattle.dmatypes.specs.declared.reply.Reply.TheVariants.{Refused, Unmapped}
use Rattle.dmatypes.specs.declared.refusal.Refusal.TheVariants as refusals
use Rattle.dmatypes.specs.Conditions.{IsBadUnmap, NoConditionStands, SomeIsNotLive, Stands}
use Rattle.dmatypes.specs.Page.{Fits, IsPageRange, IsWithin, Range, range_at}
use Rattle.dmatypes.specs.Step.{Answers, IsStep, IsUnmapAnswer, next}
use Rattle.dmatypes.specs.World.{Target, World, flushed, put, put_off, unmapped, unmapped_by}
use Rattle.dmatypes.specs.World as world
use Rattle.piece_tree.specs.declared.piece.PageState.TheVariants.{Live}
use Rattle.iova.specs.Pieces.{AllIn, state_at}
use Rattle.iova.specs.Space.{Space}
use Rattle.tables.specs.Pool.{Pool}
use Rattle.vtdbits.specs.declared.descriptor.Descriptor.{Descriptor}
use Rattle.vtdbits.specs.declared.descriptor.Descriptor.TheVariants.{IotlbDomain, Wait}
use Rattle.engine.specs.Ending.{RetiresAndUnmaps, IsSent, Releases, ReleasesAll, left_by_all}
use Rattle.engine.specs.Domains.{Domain, domain_at}
use Rattle.engine.specs.declared.record.Record.{Record}
use Rattle.engine.specs.State.{State}
use Rattle.engine.specs.Quarantine.{IsOfDomain, PartsPages, Quarantine, marked_here, marked_there}
use Rattle.engine.specs.Steps.{Steps}
use Rattle.engine.proofs.unmaps.FullList.{full_put_off}
use Rattle.engine.proofs.lists.Places.{is_none, not_none}
use Rattle.engine.proofs.domains.OneChanged.{both_absent, both_there}
use Rattle.engine.proofs.unmaps.DomainAfter.{domain_after, lazy_put_off, strict_unmapped}
use Rattle.dmatypes.specs.declared.limits.TheConstants.{MOST_DOMAINS, MOST_RECORDS}
use Rattle.dmatypes.specs.declared.page.TheConstants.{PAGE_BYTES}

-- ---- the world

-- there are as many records in the world
pub records_count : (h : Domain) (v : world.Domain) → IsOfDomain h v → length h.records ≡ length v.retired
records_count h v ids = sym (length-map h.records marked_here) ∙ ap length ids.records ∙ length-map v.retired marked_there

-- the world after an unmap
next_unmapped : (w : World) (d address pages released : ℕ) (v after : world.Domain) → w.domains d ≡ Some v
    → unmapped_by v.mode (range_at address pages) v ≡ after
    → next w (calls.Unmap d address pages) (Unmapped released) ≡ record w { domains = put d (Some after) w.domains }
unfolding next
next_unmapped w d address pages released v after here is = rw (here, is) refl

strict_after : (range : Range) (v : world.Domain) → v.mode ≡ Strict → unmapped_by v.mode range v ≡ unmapped range v
strict_after range v strict = ap (λ (mode : Mode). unmapped_by mode range v) strict

room_after : (range : Range) (v : world.Domain) → v.mode ≡ Lazy → length v.retired ≢ MOST_RECORDS
    → unmapped_by v.mode range v ≡ put_off range v
room_after range v lazy room = ap (λ (mode : Mode). unmapped_by mode range v) lazy ∙ (rw (ne_eqb (length v.retired) MOST_RECORDS room) refl)

full_after : (range : Range) (v : world.Domain) → v.mode ≡ Lazy → length v.retired ≡ MOST_RECORDS
    → unmapped_by v.mode range v ≡ put_off range (flushed v)
full_after range v lazy full = ap (λ (mode : Mode). unmapped_by mode range v) lazy ∙ (rw (eq-eqb (length v.retired) MOST_RECORDS full) refl)

-- ---- no refusal stands

some_not_none : (o : Option Target) → IsSome o → IsNone o → ⊥
some_not_none None some none = absurd cc
some_not_none (Some x) some none = absurd cc

all_live : (w : World) (d : ℕ) (space : Space) (v : world.Domain) (range : Range) → w.domains d ≡ Some v → PartsPages space v
    → AllIn Live range space.pieces → SomeIsNotLive w d range → ⊥
all_live w d space v range here parts live some =
    let dead = rw here at some in some_not_none (v.live dead.0) ((parts.live dead.0).0 (live dead.0 dead.1)) dead.2

not_bad : (width : Width) (address pages : ℕ) → address % PAGE_BYTES ≡ 0
    → IsPageRange (range_at address pages) × Fits (range_at address pages) width → IsBadUnmap width address pages → ⊥
not_bad width address pages whole fits (inl uneven) = uneven whole
not_bad width address pages whole fits (inr unfit) = unfit fits

none_stands : (w : World) (d address pages : ℕ) (space : Space) (v : world.Domain) → w.domains d ≡ Some v → PartsPages space v
    → AllIn Live (range_at address pages) space.pieces → address % PAGE_BYTES ≡ 0 → IsPageRange (range_at address pages)
    × Fits (range_at address pages) v.width
    → NoConditionStands w (calls.Unmap d address pages)
unfolding Stands
none_stands w d address pages space v here parts live whole fits = (
  not_none (w.domains d) v here,
  (
    rw here (not_bad v.width address pages whole fits),
    (all_live w d space v (range_at address pages) here parts live, tt),
  ),
)

-- so it is a step with its answer
answered : (w : World) (d address pages released : ℕ) (v : world.Domain) → w.domains d ≡ Some v
    → NoConditionStands w (calls.Unmap d address pages) → IsUnmapAnswer v.mode v.retired (Unmapped released)
    → IsStep w (calls.Unmap d address pages) (Unmapped released)
unfolding IsStep Answers
answered w d address pages released v here none answer = (none, rw here answer)

-- ---- the calls

module _ (m t : State) (i address pages : ℕ) (h h1 : Domain) (r : Record) (many : length m.domains ≡ MOST_DOMAINS)
    (less : i < length m.domains)
    (there : domain_at m.domains (i + 1) ≡ Some h) (whole : address % PAGE_BYTES ≡ 0)
    (fits : IsPageRange (range_at address pages) × Fits (range_at address pages) h.width)
    (of_range : r.range ≡ range_at address pages) (row : t.iommu.contexts ≡ m.iommu.contexts)
    (tickets : t.tickets ≡ m.tickets) where
  fits_record : IsPageRange r.range × Fits r.range h.width
  fits_record = subst (λ (x : Range). IsPageRange x × Fits x h.width) (sym of_range) fits

  -- the world after it, by the range of the call
  of_call : (w : World) (after : Range → world.Domain) → Quarantine t (record w { domains = put (i + 1) (Some (after r.range)) w.domains })
      → Quarantine t (record w { domains = put (i + 1) (Some (after (range_at address pages))) w.domains })
  of_call w after q = subst (λ (x : Range). Quarantine t (record w { domains = put (i + 1) (Some (after x)) w.domains })) of_range q

  live_in : (space : Space) → AllIn Live r.range space.pieces → AllIn Live (range_at address pages) space.pieces
  live_in space live = subst (λ (x : Range). AllIn Live x space.pieces) of_range live

  pub strict_steps : (n : ℕ) (x : Descriptor) (pool1 : Pool) (space2 : Space) → h.mode ≡ Strict → RetiresAndUnmaps m.pool h r pool1 h1
      → IsSent (i + 1) r.range r.cut x → t.iommu.unit.caches ≡ left_by_all (m.iommu.ring.waiting ++ x ∷ Wait n ∷ []) m.iommu.unit.caches
      → t.iommu.unit.caching ≡ m.iommu.unit.caching → Releases pool1 h1.space r t.pool space2
      → t.domains ≡ slice_set m.domains i (Some (domain_after h space2 h.records))
      → Steps m (calls.Unmap (i + 1) address pages) (Unmapped 0) t
  strict_steps n x pool1 space2 mode cuts sent caches caching releases domains w q =
      let both = both_there m.pool.words (domain_at m.domains (i + 1)) (w.domains (i + 1)) h (q.domains (i + 1)) there in
      let strict : both.0.mode ≡ Strict = sym both.2.ids.mode ∙ mode in (
        answered w (i + 1) address pages 0 both.0 both.1
            (none_stands w (i + 1) address pages h.space both.0 both.1 both.2.pieces (live_in h.space cuts.may.live) whole
            (fits.0, subst (Fits (range_at address pages)) both.2.ids.width fits.1))
            (rw strict refl),
        rw (next_unmapped w (i + 1) address pages 0 both.0 (unmapped (range_at address pages) both.0) both.1
            (strict_after (range_at address pages) both.0 strict))
            (of_call w (λ (x : Range). unmapped x both.0)
            (strict_unmapped m t w i n h h1 both.0 r x pool1 space2 q many less there both.1 strict fits_record cuts sent caches caching
            releases
            domains row tickets)),
      )

  pub room_steps : h.mode ≡ Lazy → length h.records ≢ MOST_RECORDS → RetiresAndUnmaps m.pool h r t.pool h1 → t.iommu.unit ≡ m.iommu.unit
      → t.domains ≡ slice_set m.domains i (Some (domain_after h h1.space (h.records ++ r ∷ [])))
      → Steps m (calls.Unmap (i + 1) address pages) (Unmapped 0) t
  room_steps mode room cuts unit domains w q =
      let both = both_there m.pool.words (domain_at m.domains (i + 1)) (w.domains (i + 1)) h (q.domains (i + 1)) there in
      let lazy : both.0.mode ≡ Lazy = sym both.2.ids.mode ∙ mode in
      let few : length both.0.retired ≢ MOST_RECORDS = (λ e. room (records_count h both.0 both.2.ids ∙ e)) in (
        answered w (i + 1) address pages 0 both.0 both.1
            (none_stands w (i + 1) address pages h.space both.0 both.1 both.2.pieces (live_in h.space cuts.may.live) whole
            (fits.0, subst (Fits (range_at address pages)) both.2.ids.width fits.1))
            (rw lazy (inr (few, refl))),
        rw (next_unmapped w (i + 1) address pages 0 both.0 (put_off (range_at address pages) both.0) both.1
            (room_after (range_at address pages) both.0 lazy few))
            (of_call w (λ (x : Range). put_off x both.0)
            (lazy_put_off m t w i h h1 both.0 r q many less there both.1 lazy fits_record cuts unit domains row tickets)),
      )

  -- the pages may be retired before the flush, and so after it
  pub full_steps : (n : ℕ) (pool1 : Pool) (space1 : Space) → h.mode ≡ Lazy → length h.records ≡ MOST_RECORDS
      → AllIn Live (range_at address pages) h.space.pieces
      → t.iommu.unit.caches ≡ left_by_all (m.iommu.ring.waiting ++ IotlbDomain (i + 1) ∷ Wait n ∷ []) m.iommu.unit.caches
      → t.iommu.unit.caching ≡ m.iommu.unit.caching → ReleasesAll m.pool h.space h.records pool1 space1
      → RetiresAndUnmaps pool1 (domain_after h space1 []) r t.pool h1
      → t.domains ≡ slice_set m.domains i (Some (domain_after h h1.space (r ∷ [])))
      → Steps m (calls.Unmap (i + 1) address pages) (Unmapped MOST_RECORDS) t
  full_steps n pool1 space1 mode full live caches caching all cuts domains w q =
      let both = both_there m.pool.words (domain_at m.domains (i + 1)) (w.domains (i + 1)) h (q.domains (i + 1)) there in
      let lazy : both.0.mode ≡ Lazy = sym both.2.ids.mode ∙ mode in
      let most : length both.0.retired ≡ MOST_RECORDS = sym (records_count h both.0 both.2.ids) ∙ full in (
        answered w (i + 1) address pages MOST_RECORDS both.0 both.1
            (none_stands w (i + 1) address pages h.space both.0 both.1 both.2.pieces live whole
            (fits.0, subst (Fits (range_at address pages)) both.2.ids.width fits.1)) (rw lazy (inl (most, refl))),
        rw (next_unmapped w (i + 1) address pages MOST_RECORDS both.0 (put_off (range_at address pages) (flushed both.0)) both.1
            (full_after (range_at address pages) both.0 lazy most))
            (of_call w (λ (x : Range). put_off x (flushed both.0))
            (full_put_off m t w i n h h1 both.0 r pool1 space1 q many less there both.1 lazy fits_record caches caching all cuts domains row
            tickets)),
      )

-- ---- refusals

pub no_domain_step : (m : State) (w : World) (d address pages : ℕ) → Quarantine m w → domain_at m.domains d ≡ None
    → IsStep w (calls.Unmap d address pages) (Refused refusals.NoDomain)
unfolding IsStep Stands
no_domain_step m w d address pages q none =
    inl (inl (is_none (w.domains d) (both_absent m.pool.words (domain_at m.domains d) (w.domains d) (q.domains d) none), refl))

pub bad_range_step : (m : State) (w : World) (d address pages : ℕ) (h : Domain) → Quarantine m w → domain_at m.domains d ≡ Some h
    → IsBadUnmap h.width address pages → IsStep w (calls.Unmap d address pages) (Refused refusals.BadRange)
unfolding IsStep Stands
bad_range_step m w d address pages h q there bad =
    let both = both_there m.pool.words (domain_at m.domains d) (w.domains d) h (q.domains d) there in
    inl (inr (
      not_none (w.domains d) both.0 both.1,
      inl (rw both.1 (subst (λ n. IsBadUnmap n address pages) both.2.ids.width bad), refl),
    ))

-- a page that is in no live piece isn't live
not_live_page : (space : Space) (v : world.Domain) (p : ℕ) → PartsPages space v → state_at space.pieces p ≢ Some Live → IsNone (v.live p)
not_live_page space v p parts dead = by_target (v.live p) (λ some. dead ((parts.live p).1 some))
  where
    by_target : (o : Option Target) → (IsSome o → ⊥) → IsNone o
    by_target None never = refl
    by_target (Some x) never = absurd (never refl)

not_live_stands : (w : World) (d : ℕ) (v : world.Domain) (range : Range) (p : ℕ) → w.domains d ≡ Some v → IsWithin range p
    → IsNone (v.live p) → SomeIsNotLive w d range
not_live_stands w d v range p here inside dead = rw here (p, inside, dead)

pub not_live_step : (m : State) (w : World) (d address pages : ℕ) (h : Domain) → Quarantine m w → domain_at m.domains d ≡ Some h
    → address % PAGE_BYTES ≡ 0 → IsPageRange (range_at address pages) × Fits (range_at address pages) h.width
    → ((p : ℕ) × IsWithin (range_at address pages) p × (state_at h.space.pieces p ≢ Some Live))
    → IsStep w (calls.Unmap d address pages) (Refused refusals.NotLive)
unfolding IsStep Stands
not_live_step m w d address pages h q there whole fits (p, inside, dead) =
    let both = both_there m.pool.words (domain_at m.domains d) (w.domains d) h (q.domains d) there in
    inl (inr (
      not_none (w.domains d) both.0 both.1,
      inr (
        rw both.1 (not_bad both.0.width address pages whole (fits.0, subst (Fits (range_at address pages)) both.2.ids.width fits.1)),
        inl (
          not_live_stands w d both.0 (range_at address pages) p both.1 inside (not_live_page h.space both.0 p both.2.pieces dead),
          refl,
        ),
      ),
    ))

live_stands : (m : State) (w : World) (d address pages : ℕ) (h : Domain) → Quarantine m w → domain_at m.domains d ≡ Some h
    → address % PAGE_BYTES ≡ 0 → IsPageRange (range_at address pages) × Fits (range_at address pages) h.width
    → AllIn Live (range_at address pages) h.space.pieces
    → NoConditionStands w (calls.Unmap d address pages)
live_stands m w d address pages h q there whole fits live =
    let both = both_there m.pool.words (domain_at m.domains d) (w.domains d) h (q.domains d) there in
    none_stands w d address pages h.space both.0 both.1 both.2.pieces live whole
    (fits.0, subst (Fits (range_at address pages)) both.2.ids.width fits.1)

pub too_many_step : (m : State) (w : World) (d address pages : ℕ) (h : Domain) → Quarantine m w → domain_at m.domains d ≡ Some h
    → address % PAGE_BYTES ≡ 0 → IsPageRange (range_at address pages) × Fits (range_at address pages) h.width
    → AllIn Live (range_at address pages) h.space.pieces
    → IsStep w (calls.Unmap d address pages) (Refused refusals.TooManyPieces)
unfolding IsStep
too_many_step m w d address pages h q there whole fits live = inr (live_stands m w d address pages h q there whole fits live, tt)

pub no_frames_step : (m : State) (w : World) (d address pages : ℕ) (h : Domain) → Quarantine m w → domain_at m.domains d ≡ Some h
    → address % PAGE_BYTES ≡ 0 → IsPageRange (range_at address pages) × Fits (range_at address pages) h.width
    → AllIn Live (range_at address pages) h.space.pieces
    → IsStep w (calls.Unmap d address pages) (Refused refusals.NoFrames)
unfolding IsStep
no_frames_step m w d address pages h q there whole fits live = inr (live_stands m w d address pages h q there whole fits live, tt)
