-- What the parts of the state ask of their callers before pages end, are released, or the unit is run. Whoever reads what the state does
-- needs none of it: each state has it. A flush goes from the last record on, and releases those at once that it finds to be of one range.
use Rattle.std.specs.Prelude.{◌≡◌, ◌≢◌, ℕ, ◌+◌, ◌-◌, ◌%◌, ◌^◌, ◌<◌, ◌≤◌, ◌⊎◌, List, [], ◌∷◌, ◌++◌, length, None, Some, IsSome, IsTrue}
use Rattle.dmatypes.specs.Block.{Holds, IsAligned}
use Rattle.dmatypes.specs.Page.{Range, IsWithin, levels}
use Rattle.dmatypes.specs.World.{IsIn}
use Rattle.dmatypes.specs.declared.limits.TheConstants.{MOST_STEPS}
use Rattle.dmatypes.specs.declared.page.TheConstants.{SPAN_ORDER}
use Rattle.dmatypes.specs.declared.width.Width.{Width}
use Rattle.piece_tree.specs.declared.piece.PageState.TheVariants.{Live, Retired}
use Rattle.iova.specs.Pieces.{piece_of, state_at}
use Rattle.iova.specs.Space.{Space, IsSpace, MayRetire}
use Rattle.tables.specs.Pool.{Pool, memory, occurs, IsTree, IsZeroed}
use Rattle.tables.specs.Tree.{states}
use Rattle.unit.specs.Filters.{status_after}
use Rattle.vtdbits.specs.declared.descriptor.Descriptor.{Descriptor}
use Rattle.vtdbits.specs.declared.descriptor.Descriptor.TheVariants.{ContextDevice, ContextDomain, ContextGlobal, IotlbDomain, IotlbGlobal}
use Rattle.vtdbits.specs.declared.descriptor.Descriptor.TheVariants.{IotlbPages, Wait}
use Rattle.engine.specs.declared.iommu.Iommu.{Iommu}
use Rattle.engine.specs.declared.record.Record.{Record}
use Rattle.engine.specs.Ending.{ReleasesAll, hint_of, status_of}
use Rattle.engine.specs.Domains.{Domain, IsMadeBefore, held_in}

-- its tree is one of the pool, and maps each live page
pub record CanCut (pool : Pool) (domain : Domain) : Type 0 where
  pub tree : IsTree pool (levels domain.width) domain.root
  pub there : (p : ℕ) → state_at domain.space.pieces p ≡ Some Live → IsSome (states (memory pool.words) (levels domain.width) domain.root p)

-- the tree of the root states no page of the range
abbrev pub IsUnstated : Pool → Width → ℕ → Range → Type 0
IsUnstated pool width root range = (p : ℕ) → IsWithin range p → states (memory pool.words) (levels width) root p ≡ None

-- the tree of the root states each page of the range
abbrev pub IsStated : Pool → Width → ℕ → Range → Type 0
IsStated pool width root range = (p : ℕ) → IsWithin range p → IsSome (states (memory pool.words) (levels width) root p)

-- the record's range is one retired piece, and what was cut are different zeroed frames of the pool that are not free
pub record IsReleasable (pool : Pool) (space : Space) (r : Record) : Type 0 where
  pub piece : IsIn (piece_of r.range Retired) space.pieces
  pub once : (f : ℕ) → occurs f pool.free + occurs f r.cut.frames ≤ 1
  pub within : (f : ℕ) → 0 < occurs f r.cut.frames → f < pool.frames
  pub zeroed : (f : ℕ) → 0 < occurs f r.cut.frames → IsZeroed pool.words f

-- the record's range is live still, and what was cut are different zeroed frames of the pool that are not free
pub record IsFreeable (pool : Pool) (space : Space) (r : Record) : Type 0 where
  pub live : MayRetire space.pieces r.range
  pub once : (f : ℕ) → occurs f pool.free + occurs f r.cut.frames ≤ 1
  pub within : (f : ℕ) → 0 < occurs f r.cut.frames → f < pool.frames
  pub zeroed : (f : ℕ) → 0 < occurs f r.cut.frames → IsZeroed pool.words f

-- no two of the records are of one piece
unfoldable pub AllDiffer : List Record → Type 0
AllDiffer [] = Unit {0}
AllDiffer (r ∷ rs) = ((q : Record) → IsIn q rs → piece_of r.range Retired ≢ piece_of q.range Retired) × AllDiffer rs

-- each of the records can be released, whichever went before it
pub record AreReleasable (pool : Pool) (space : Space) (records : List Record) : Type 0 where
  pub is_space : IsSpace space
  pub pieces : (r : Record) → IsIn r records → IsIn (piece_of r.range Retired) space.pieces
  pub differ : AllDiffer records
  pub once : (f : ℕ) → occurs f pool.free + held_in records f ≤ 1
  pub within : (f : ℕ) → 0 < held_in records f → f < pool.frames
  pub zeroed : (f : ℕ) → 0 < occurs f pool.free + held_in records f → IsZeroed pool.words f

-- the pages of the range are those of the records, all together
pub record IsRangeOf (range : Range) (records : List Record) : Type 0 where
  pub some : (p : ℕ) → IsWithin range p → (r : Record) × IsIn r records × IsWithin r.range p
  pub whole : (r : Record) → IsIn r records
      → (range.first ≤ r.range.first) × (r.range.first + r.range.pages ≤ range.first + range.pages)

-- one of two ranges ends where the other begins, and this one has the pages of both
abbrev pub AreJoined : Range → Range → Range → Type 0
AreJoined a b range = (range.pages ≡ a.pages + b.pages)
    × (((range.first ≡ a.first) × (a.first + a.pages ≡ b.first)) ⊎ ((range.first ≡ b.first) × (b.first + b.pages ≡ a.first)))

-- the last ones of the records are released, one at least, and these are left
pub record ReleasesLast (pool : Pool) (space : Space) (all : List Record) (pool' : Pool) (space' : Space)
    (rest : List Record) : Type 0 where
  pub last : List Record
  pub parts : rest ++ last ≡ all
  pub some : 0 < length last
  pub releases : ReleasesAll pool space last pool' space'

-- it names pages, and no device: its IOTLB is invalidated, and not its contexts
abbrev pub IsOfIotlb : Descriptor → Type 0
IsOfIotlb IotlbGlobal = Unit {0}
IsOfIotlb (IotlbDomain domain) = Unit {0}
IsOfIotlb (IotlbPages domain block hint) = Unit {0}
IsOfIotlb ContextGlobal = ⊥
IsOfIotlb (ContextDomain domain) = ⊥
IsOfIotlb (ContextDevice domain device) = ⊥
IsOfIotlb (Wait number) = ⊥

-- the number of the last wait that is done: as many were sent after it as the status is short of the last one's, modulo 2^32
abbrev pub last_done : Iommu → ℕ
last_done x = x.sent - (status_of x.sent + 2 ^ 32 - x.ring.status) % 2 ^ 32

-- the descriptor and right after it the wait of this number were taken, and the wait is done
pub record IsDone (x : Iommu) (d : Descriptor) (number : ℕ) : Type 0 where
  pub later : List Descriptor
  pub earlier : List Descriptor
  pub taken : x.ring.taken ≡ later ++ Wait (status_of number) ∷ d ∷ earlier
  pub reached : number ≤ last_done x

-- once it is done, the unit can translate no page of the record for the domain any more, nor walk a table that was cut with it. It names
-- all of the domain, or an aligned block that holds the record's range, of at least 512 pages where a leaf of 2 MiB was split. The
-- invalidation hint is set only where no table was cut and no leaf was split
abbrev pub Covers : ℕ → Record → Descriptor → Type 0
Covers domain r IotlbGlobal = Unit {0}
Covers domain r (IotlbDomain named) = named ≡ domain
Covers domain r (IotlbPages named block hint) =
    (named ≡ domain) × IsAligned block × Holds block r.range × (IsTrue r.cut.split → SPAN_ORDER ≤ block.order)
    × (IsTrue hint → IsTrue (hint_of r.cut))
Covers domain r ContextGlobal = ⊥
Covers domain r (ContextDomain named) = ⊥
Covers domain r (ContextDevice named device) = ⊥
Covers domain r (Wait number) = ⊥

-- a wait that was sent after the record was made is done, and the descriptor before it covers the record: nothing that
-- the unit forgot by it can come back
pub record IsInvalidated (x : Iommu) (domain : ℕ) (r : Record) : Type 0 where
  pub descriptor : Descriptor
  pub covers : Covers domain r descriptor
  pub number : ℕ
  pub made : IsMadeBefore number r
  pub sent : number ≤ x.sent
  pub done : IsDone x descriptor number

abbrev pub AreInvalidated : Iommu → ℕ → List Record → Type 0
AreInvalidated x domain records = (r : Record) → IsIn r records → IsInvalidated x domain r

-- none of the descriptors leaves this status where another one was
unfoldable pub NoneWrites : ℕ → List Descriptor → Type 0
NoneWrites status [] = Unit {0}
NoneWrites status (d ∷ ds) = ((old : ℕ) → status_after d old ≡ status → old ≡ status) × NoneWrites status ds

-- there is room for a descriptor and a wait, whose status is neither there nor written by what waits, and numbers are
-- left for the wait and for all steps of the unit
pub record IsReady (x : Iommu) : Type 0 where
  pub room : length x.ring.waiting + 2 ≤ MOST_STEPS
  pub fresh : x.ring.status ≢ status_of (x.sent + 1)
  pub others : NoneWrites (status_of (x.sent + 1)) x.ring.waiting
  pub few : x.sent + 1 < 2 ^ 64
  pub steps : x.unit.steps + (length x.ring.waiting + 2) ≤ 2 ^ 63

-- its live pages can be cut from its tree, its records released, and then too its live pages be cut
pub record CanUnmap (pool : Pool) (domain : Domain) : Type 0 where
  pub cut : CanCut pool domain
  pub releasable : AreReleasable pool domain.space domain.records
  pub emptied : (pool' : Pool) (space' : Space) → ReleasesAll pool domain.space domain.records pool' space'
      → CanCut pool' (record domain { space = space'; records = [] })
