-- What the parts of a call's effects bring and send.
use Rattle.std.specs.Prelude.{◌≡◌, ◌≢◌, ◌⊎◌, ℕ, ◌+◌, ◌-◌, ◌*◌, ◌/◌, ◌%◌, ◌<◌, ◌≤◌}
use Rattle.std.specs.Prelude.{Bool, true, false, List, [], ◌∷◌, ◌++◌, All, length, Option, None, Some}
use Rattle.std.specs.Prelude.{slice_get}
use Rattle.dmatypes.specs.declared.page.TheConstants.{SPAN_PAGES}
use Rattle.vtdbits.specs.declared.descriptor.Descriptor.{Descriptor}
use Rattle.queue.specs.Ring.{submitted_in}
use Rattle.tables.specs.declared.entries.TheConstants.{TABLE_ENTRIES}
use Rattle.tables.specs.Changes.{IsCovered}
use Rattle.tables.specs.Pool.{Pool}
use Rattle.tables.specs.Tree.{index_in, span}
use Rattle.engine.specs.Domains.{Domain}
use Rattle.engine.specs.State.{State}
use Rattle.engine.specs.Walkable.{table_at}
use Rattle.driven.specs.declared.effect.Effect.{Effect}
use Rattle.driven.specs.declared.effect.Effect.TheVariants.{Await, Barrier}
use Rattle.driven.specs.Effects.{Brings, EndInBarrier, IsBrought, IsForFrames, IsForTables, IsSending}

-- in how many tables of a level the words of the pages from one to another can lie
abbrev pub most_tables : ℕ → ℕ → ℕ → ℕ
most_tables level first last =
    last / span (level - 1) / TABLE_ENTRIES + 1 - first / span (level - 1) / TABLE_ENTRIES

-- the words from the entry of a number to that of another in the table of that frame, and no word of another frame
abbrev pub BringsPart : ℕ → ℕ → ℕ → Effect → Type 0
BringsPart frame from to effect =
    IsForTables effect × ((e : ℕ) → from ≤ e → e ≤ to → Brings effect frame (e % TABLE_ENTRIES))
    × ((f k : ℕ) → k < TABLE_ENTRIES → Brings effect f k → frame ≡ f)

-- the frame is the table of this level on the way of one of the pages from one up to another
abbrev pub IsTableOnWays : Pool → Option Domain → ℕ → ℕ → ℕ → ℕ → Type 0
IsTableOnWays pool h level from to f = (p : ℕ) × ((from ≤ p) × (p < to) × (table_at pool h p level ≡ Some f))

-- it is so of this level or of one above it
abbrev pub IsTableOnWaysFrom : Pool → Option Domain → ℕ → ℕ → ℕ → ℕ → Type 0
IsTableOnWaysFrom pool h lowest from to f = (level : ℕ) × ((lowest ≤ level) × (level ≤ 4) × IsTableOnWays pool h level from to f)

-- the words of a level on the ways of the pages from one to another, and no word of a table that is on none of them
pub record BringsLevel (pool : Pool) (h : Option Domain) (level first last : ℕ) (effects : List Effect) : Type 0 where
  pub for_memory : All IsForTables effects
  pub only : (f k : ℕ) → k < TABLE_ENTRIES → IsBrought effects f k → IsTableOnWays pool h level first (last + 1) f
  pub brings : (p f : ℕ) → first ≤ p → p ≤ last → table_at pool h p level ≡ Some f → IsBrought effects f (index_in (level - 1) p)

-- the same of the levels above the lowest, between two barriers
pub record BringsUpper (pool : Pool) (h : Option Domain) (first last : ℕ) (effects : List Effect) : Type 0 where
  pub rest : List Effect
  pub begins : effects ≡ Barrier ∷ rest
  pub ends : EndInBarrier effects
  pub for_memory : All IsForTables effects
  pub only : (f k : ℕ) → k < TABLE_ENTRIES → IsBrought effects f k → IsTableOnWaysFrom pool h 2 first (last + 1) f
  pub brings : (level p f : ℕ) → 2 ≤ level → level ≤ 4 → first ≤ p → p ≤ last → table_at pool h p level ≡ Some f
      → IsBrought effects f (index_in (level - 1) p)

-- all words of a table, if there is one
pub record BringsWhole (table : Option ℕ) (effects : List Effect) : Type 0 where
  pub for_memory : All IsForTables effects
  pub brings : (f k : ℕ) → table ≡ Some f → k < TABLE_ENTRIES → IsBrought effects f k
  pub only : (f k : ℕ) → k < TABLE_ENTRIES → IsBrought effects f k → table ≡ Some f

-- of a table that stays the words of the pages from one to another, else all words of the one that went and of the one that came
pub record BringsTable (was now : Option ℕ) (from to : ℕ) (effects : List Effect) : Type 0 where
  pub for_memory : All IsForTables effects
  pub stays : (f e : ℕ) → was ≡ Some f → now ≡ Some f → from ≤ e → e ≤ to → IsBrought effects f (e % TABLE_ENTRIES)
  pub changes : (f k : ℕ) → was ≢ now → (was ≡ Some f) ⊎ (now ≡ Some f) → k < TABLE_ENTRIES → IsBrought effects f k
  pub only : (f k : ℕ) → k < TABLE_ENTRIES → IsBrought effects f k → (was ≡ Some f) ⊎ (now ≡ Some f)

-- the tables of level 1 on the ways of the pages from one to another, by spans of 512 pages
pub record AreTablesOf (pool : Pool) (h : Option Domain) (first last : ℕ) (tables : List (Option ℕ)) : Type 0 where
  pub count : length tables ≡ last / SPAN_PAGES + 1 - first / SPAN_PAGES
  pub each : (k : ℕ) → k < length tables → slice_get tables k ≡ Some (table_at pool h ((first / SPAN_PAGES + k) * SPAN_PAGES) 1)

-- no table is taken for one that was on those ways
abbrev pub AreLeftOut : ℕ → ℕ → List (Option ℕ) → Type 0
AreLeftOut first last tables =
    (length tables ≡ last / SPAN_PAGES + 1 - first / SPAN_PAGES)
    × ((k : ℕ) → k < length tables → slice_get tables k ≡ Some None)

-- the frame is the table of level 1 of a page, after the call or, as these tell, before it
abbrev pub IsLowest : Pool → Option Domain → ℕ → ℕ → List (Option ℕ) → ℕ → ℕ → Type 0
IsLowest pool h first last before p f =
    (first ≤ p) × (p ≤ last)
    × ((slice_get before (p / SPAN_PAGES - first / SPAN_PAGES) ≡ Some (Some f)) ⊎ (table_at pool h p 1 ≡ Some f))

-- the same of the table of each such span, which was one of these
pub record BringsLowest (pool : Pool) (h : Option Domain) (first last : ℕ) (before : List (Option ℕ)) (effects : List Effect)
    : Type 0 where
  pub for_memory : All IsForTables effects
  pub only : (f k : ℕ) → k < TABLE_ENTRIES → IsBrought effects f k → (p : ℕ) × IsLowest pool h first last before p f
  pub spans : (p : ℕ) (was : Option ℕ) → first ≤ p → p ≤ last → slice_get before (p / SPAN_PAGES - first / SPAN_PAGES) ≡ Some was
      → ((f : ℕ) → was ≡ Some f → table_at pool h p 1 ≡ Some f → IsBrought effects f (p % TABLE_ENTRIES))
      × ((f k : ℕ) → was ≢ table_at pool h p 1 → (was ≡ Some f) ⊎ (table_at pool h p 1 ≡ Some f) → k < TABLE_ENTRIES
      → IsBrought effects f k)

-- a table of level 1 that was there is so still where one of its span is none of these pages
abbrev pub StayInPart : Pool → Option Domain → ℕ → ℕ → List (Option ℕ) → Type 0
StayInPart pool h first last before =
    (p f : ℕ) → first ≤ p → p ≤ last → (IsCovered first (last + 1) p → ⊥)
    → slice_get before (p / SPAN_PAGES - first / SPAN_PAGES) ≡ Some (Some f) → table_at pool h p 1 ≡ Some f

-- each of these pages had a table of level 1, as these tell, and has it still
abbrev pub TablesStay : Pool → Option Domain → ℕ → ℕ → List (Option ℕ) → Type 0
TablesStay pool h first last before =
    (p : ℕ) → first ≤ p → p ≤ last
    → (f : ℕ) × ((slice_get before (p / SPAN_PAGES - first / SPAN_PAGES) ≡ Some (Some f)) × (table_at pool h p 1 ≡ Some f))

-- the words on the ways of the pages from one up to another, and no word of a table that is on none of them
pub record BringsWalks (pool : Pool) (h : Option Domain) (from to : ℕ) (effects : List Effect) : Type 0 where
  pub ends : EndInBarrier effects
  pub for_memory : All IsForTables effects
  pub only : (f k : ℕ) → k < TABLE_ENTRIES → IsBrought effects f k → IsTableOnWaysFrom pool h 1 from to f
  pub brings : (level p f : ℕ) → 1 ≤ level → level ≤ 4 → from ≤ p → p < to → table_at pool h p level ≡ Some f
      → IsBrought effects f (index_in (level - 1) p)

-- what a map of the pages from one up to another changed. Where it made no table and they are of one span that has its table, their words
-- in that table alone, else all words on their ways
pub record BringsMapped (pool : Pool) (h : Option Domain) (from to : ℕ) (grew : Bool) (effects : List Effect) : Type 0 where
  pub ends : EndInBarrier effects
  pub for_memory : All IsForTables effects
  pub only : (f k : ℕ) → k < TABLE_ENTRIES → IsBrought effects f k → IsTableOnWaysFrom pool h 1 from to f
  pub brings : BringsWalks pool h from to effects
      ⊎ ((frame : ℕ) × ((grew ≡ false) × (table_at pool h from 1 ≡ Some frame)
      × ((p : ℕ) → from ≤ p → p < to → p / SPAN_PAGES ≡ from / SPAN_PAGES)
      × ((p : ℕ) → from ≤ p → p < to → IsBrought effects frame (p % TABLE_ENTRIES))))

-- what an unmap of the pages from one to another changed, where these were the tables of level 1 on their ways. Where all of these stay,
-- no word of a level above is told
pub record BringsUnmapped (pool : Pool) (h : Option Domain) (first last : ℕ) (before : List (Option ℕ)) (effects : List Effect)
    : Type 0 where
  pub lowest : List Effect
  pub rest : List Effect
  pub parted : effects ≡ lowest ++ Barrier ∷ rest
  pub ends : EndInBarrier effects
  pub brings_lowest : BringsLowest pool h first last before lowest
  pub for_memory : All IsForTables effects
  pub only : (f k : ℕ) → k < TABLE_ENTRIES → IsBrought effects f k
      → ((p : ℕ) × IsLowest pool h first last before p f) ⊎ IsTableOnWaysFrom pool h 2 first (last + 1) f
  pub upper : TablesStay pool h first last before
      ⊎ ((level p f : ℕ) → 2 ≤ level → level ≤ 4 → first ≤ p → p ≤ last → table_at pool h p level ≡ Some f
      → IsBrought effects f (index_in (level - 1) p))
  pub spans : (p : ℕ) (was : Option ℕ) → first ≤ p → p ≤ last → slice_get before (p / SPAN_PAGES - first / SPAN_PAGES) ≡ Some was
      → ((f : ℕ) → was ≡ Some f → table_at pool h p 1 ≡ Some f → IsBrought effects f (p % TABLE_ENTRIES))
      × ((f k : ℕ) → was ≢ table_at pool h p 1 → (was ≡ Some f) ⊎ (table_at pool h p 1 ≡ Some f) → k < TABLE_ENTRIES
      → IsBrought effects f k)

-- all words of so many table frames, and no word of one after them
pub record BringsFrames (frames : ℕ) (effects : List Effect) : Type 0 where
  pub ends : EndInBarrier effects
  pub for_memory : All IsForFrames effects
  pub only : (f k : ℕ) → k < TABLE_ENTRIES → IsBrought effects f k → f < frames
  pub brings : (f k : ℕ) → f < frames → k < TABLE_ENTRIES → IsBrought effects f k

-- since so many waits were sent, a descriptor and its wait were submitted, or nothing was
abbrev pub HasSent : State → ℕ → Type 0
HasSent m waits = (m.iommu.sent ≡ waits) ⊎ (2 ≤ length (submitted_in m.iommu.ring))

abbrev pub with_wait : Bool → ℕ → List Effect
with_wait true number = Await number ∷ []
with_wait false number = []

-- they are sent in their order, and the wait is waited for, or not
abbrev pub IsSentBy : State → ℕ → Bool → List Effect → Type 0
IsSentBy m waits awaits effects =
    ((m.iommu.sent ≡ waits) × (effects ≡ []))
    ⊎ ((d w : Descriptor) × (e f : Effect) × ((m.iommu.sent ≢ waits) × (slice_get (submitted_in m.iommu.ring) 1 ≡ Some d)
    × (slice_get (submitted_in m.iommu.ring) 0 ≡ Some w) × IsSending d e × IsSending w f
    × (effects ≡ e ∷ f ∷ with_wait awaits m.iommu.sent)))
