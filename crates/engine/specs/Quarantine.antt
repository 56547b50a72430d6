-- When the state is one of a world, part by part: no page that may still be used is free, and no table that may
-- still be walked.
use Rattle.std.specs.Prelude.{◌≡◌, ◌↔◌, ℕ, ◌+◌, ◌-◌, ◌<◌, ◌≤◌, ◌⊎◌, List, [], ◌∷◌, map, Option, Some, None, IsSome, IsTrue, slice_get}
use Rattle.dmatypes.specs.declared.limits.TheConstants.{MOST_DOMAINS}
use Rattle.dmatypes.specs.Page.{levels, pages_end}
use Rattle.dmatypes.specs.declared.call.Mode.TheVariants.{Strict}
use Rattle.dmatypes.specs.declared.width.Width.{Width}
use Rattle.dmatypes.specs.Page.{Range, IsPageOf, IsWithin}
use Rattle.dmatypes.specs.World.{World, Retired, IsFree, IsIn, IsLive, IsRetired}
use Rattle.dmatypes.specs.World as world
use Rattle.piece_tree.specs.declared.piece.PageState.TheVariants.{Free, Live}
use Rattle.piece_tree.specs.declared.piece.PageState.TheVariants as pages
use Rattle.iova.specs.Pieces.{piece_of, state_at}
use Rattle.iova.specs.Space.{Space, IsSpace}
use Rattle.tables.specs.Pool.{Pool, memory, occurs, IsZeroed}
use Rattle.tables.specs.Spelled.{AreSpelled}
use Rattle.tables.specs.Tree.{IsLeafAt, IsTableAt, Memory, span, states, sum_below, uses}
use Rattle.vtdbits.specs.Context.{attached}
use Rattle.vtdbits.specs.declared.context.ContextEntry.TheVariants.{Present}
use Rattle.unit.specs.Caches.{Caches, CachedContext, CachedFault, CachedLeaf, CachedNonLeaf, UnitState}
use Rattle.unit.specs.Walking.{stated_by}
use Rattle.engine.specs.declared.record.Record.{Record}
use Rattle.engine.specs.declared.ticket.Ticket.{Ticket}
use Rattle.engine.specs.Domains.{Domain, held_in, domain_at}
use Rattle.engine.specs.State.{State}

-- ---- ids

-- a record's range and mark
pub record Marked : Type 0 where
  pub range : Range
  pub mark : ℕ

abbrev pub marked_here : Record → Marked
marked_here r = record { range = r.range; mark = r.mark }

abbrev pub marked_there : Retired → Marked
marked_there r = record { range = r.range; mark = r.mark }

-- the mode, the number of flushes begun, the width, and the records' ranges and marks are the world's
pub record IsOfDomain (h : Domain) (v : world.Domain) : Type 0 where
  pub mode : h.mode ≡ v.mode
  pub begun : h.begun ≡ v.begun
  pub width : h.width ≡ v.width
  pub records : map marked_here h.records ≡ map marked_there v.retired

-- ---- tree

-- the meaning of the root of this width is what is live
abbrev pub MeansLive : List ℕ → Width → ℕ → world.Domain → Type 0
MeansLive words width root v = (p : ℕ) → p < pages_end width → states (memory words) (levels width) root p ≡ v.live p

-- ---- pieces

-- the page is in a record
abbrev pub IsInRecord : world.Domain → ℕ → Type 0
IsInRecord v p = (r : Retired) × IsIn r v.retired × IsWithin r.range p

-- the ranges have no page in common
abbrev pub AreApart : Range → Range → Type 0
AreApart a b = (p : ℕ) → IsWithin a p → IsWithin b p → ⊥

-- no two of the records have one
unfoldable pub AllApart : List Retired → Type 0
AllApart [] = Unit {0}
AllApart (r ∷ rs) = ((q : Retired) → IsIn q rs → AreApart r.range q.range) × AllApart rs

-- a page of the whole space lies in a free, live or retired piece exactly where it is free, live or in a record. The retired pieces are
-- the records' ranges, no two of which have a page in common. Each record says what was mapped at its pages
pub record PartsPages (space : Space) (v : world.Domain) : Type 0 where
  pub is_space : IsSpace space
  pub whole : space.last ≡ pages_end v.width - 1
  pub free : (p : ℕ) → (state_at space.pieces p ≡ Some Free) ↔ (IsPageOf v.width p × IsFree v p)
  pub live : (p : ℕ) → (state_at space.pieces p ≡ Some Live) ↔ IsSome (v.live p)
  pub retired : (p : ℕ) → (state_at space.pieces p ≡ Some pages.Retired) ↔ IsInRecord v p
  pub ranges : (r : Retired) → IsIn r v.retired → IsIn (piece_of r.range pages.Retired) space.pieces
  pub apart : AllApart v.retired
  pub targets_known : (r : Retired) (p : ℕ) → IsIn r v.retired → IsWithin r.range p → IsSome (r.targets p)

-- the domain of the state is the one of the world, and the words of its tables spell entries
pub record Mirrors (words : List ℕ) (h : Domain) (v : world.Domain) : Type 0 where
  pub ids : IsOfDomain h v
  pub tree : MeansLive words h.width h.root v
  pub spelled : AreSpelled words (levels h.width) h.root
  pub pieces : PartsPages h.space v

-- a domain is there exactly where the world has one of this id
abbrev pub MirrorsIfAny : List ℕ → Option Domain → Option world.Domain → Type 0
MirrorsIfAny words None None = Unit {0}
MirrorsIfAny words None (Some v) = ⊥
MirrorsIfAny words (Some h) None = ⊥
MirrorsIfAny words (Some h) (Some v) = Mirrors words h v

-- ---- caches

-- a domain of the state and of the world has the property
abbrev pub InDomain : State → World → ℕ → (Domain → world.Domain → Type 0) → Type 0
InDomain m w d P = (h : Domain) × (v : world.Domain) × (domain_at m.domains d ≡ Some h) × (w.domains d ≡ Some v) × P h v

-- leaf: every page of a cached leaf is live or retired in its domain, with the frame and the rights that the leaf states. In a strict
-- domain the leaf is one entry of its tree
pub record IsLawfulLeaf (words : List ℕ) (l : CachedLeaf) (h : Domain) (v : world.Domain) : Type 0 where
  pub stated : (p : ℕ) → l.first ≤ p → p < l.first + l.pages → IsLive v p (stated_by p l) ⊎ IsRetired v p (stated_by p l)
  pub entry : v.mode ≡ Strict → IsLeafAt (memory words) (levels h.width) h.root l.first l.pages l.frame l.rights

-- the frame is held, zeroed, by a record whose range covers these pages
abbrev pub IsHeld : List ℕ → List Record → ℕ → ℕ → ℕ → Type 0
IsHeld words records first pages frame =
    (r : Record) × IsIn r records × (0 < occurs frame r.cut.frames) × IsZeroed words frame
    × (r.range.first ≤ first) × (first + pages ≤ r.range.first + r.range.pages)

-- non-leaf: a cached table is in use for its domain and span, or held, zeroed, by a record of that domain whose range
-- covers the span
pub record IsLawfulTable (words : List ℕ) (i : CachedNonLeaf) (h : Domain) (v : world.Domain) : Type 0 where
  pub span : i.pages ≡ span i.level
  pub named : IsTableAt (memory words) (levels h.width) h.root i.first i.level i.frame ⊎ IsHeld words h.records i.first i.pages i.frame

pub record AreLawfulCaches (m : State) (w : World) (c : Caches) : Type 0 where
  pub leaves : (l : CachedLeaf) → IsIn l c.leaves → InDomain m w l.domain (IsLawfulLeaf m.pool.words l)
  pub tables : (i : CachedNonLeaf) → IsIn i c.non_leaves → InDomain m w i.domain (IsLawfulTable m.pool.words i)

-- faults: whatever domain the world has of its id, a cached fault's page isn't live there; and without Caching Mode none is
-- cached
abbrev pub IsLawfulFault : UnitState → World → CachedFault → Type 0
IsLawfulFault u w f = IsTrue u.caching × ((v : world.Domain) → w.domains f.domain ≡ Some v → v.live f.page ≡ None)

-- ---- contexts

-- context: the row is the devices' attachments with their domains' roots and widths, and each cached context is one of these
pub record Attaches (m : State) (w : World) : Type 0 where
  pub devices : (v : ℕ) → w.devices v ≡ attached (slice_get m.iommu.contexts v)
  pub roots : (v root domain : ℕ) (width : Width) → slice_get m.iommu.contexts v ≡ Some (Present root width domain)
      → (h : Domain) × (domain_at m.domains domain ≡ Some h) × (h.root ≡ root) × (h.width ≡ width)
  pub cached : (x : CachedContext) → IsIn x m.iommu.unit.caches.contexts
      → slice_get m.iommu.contexts x.device ≡ Some (Present x.root x.width x.domain)

-- ---- frames

-- how often a domain has a frame: in its tree and in its records
abbrev pub owned : Memory → Option Domain → ℕ → ℕ
owned m None f = 0
owned m (Some h) f = uses m (levels h.width) h.root f + held_in h.records f

-- frames: each is free, used by one tree in one place, or held by one record; they are those below the number of
-- table frames, and the free and the held ones are zeroed
pub record PartsFrames (pool : Pool) (domains : ℕ → Option Domain) : Type 0 where
  pub once : (f : ℕ) → f < pool.frames
      → sum_below (λ d. owned (memory pool.words) (domains d) f) (MOST_DOMAINS + 1) + occurs f pool.free ≡ 1
  pub past : (f : ℕ) → pool.frames ≤ f
      → sum_below (λ d. owned (memory pool.words) (domains d) f) (MOST_DOMAINS + 1) + occurs f pool.free ≡ 0
  pub zeroed : (f : ℕ) → 0 < occurs f pool.free → IsZeroed pool.words f
  pub held : (d f : ℕ) (h : Domain) → domains d ≡ Some h → 0 < held_in h.records f → IsZeroed pool.words f

-- ---- tickets

-- a ticket as the world has it: its domain and number
abbrev pub ticket_there : Ticket → world.Ticket
ticket_there t = record { domain = t.domain; number = t.number }

-- ---- all parts

pub record Quarantine (m : State) (w : World) : Type 0 where
  pub table_frames : w.table_frames ≡ m.pool.frames
  pub domains : (d : ℕ) → MirrorsIfAny m.pool.words (domain_at m.domains d) (w.domains d)
  pub caches : AreLawfulCaches m w m.iommu.unit.caches
  pub faults : (f : CachedFault) → IsIn f m.iommu.unit.caches.faults → IsLawfulFault m.iommu.unit w f
  pub contexts : Attaches m w
  pub frames : PartsFrames m.pool (domain_at m.domains)
  pub tickets : w.tickets ≡ map ticket_there m.tickets

-- it is the state of some world
abbrev pub IsOfSomeWorld : State → Type 0
IsOfSomeWorld m = (w : World) × Quarantine m w
