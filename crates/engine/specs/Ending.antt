-- How an unmap ends a range: in the tree and the address space, by what it sends to the unit, and what then comes
-- free.
use Rattle.std.specs.Prelude.{◌≡◌, ◌≢◌, ◌↔◌, ℕ, ◌+◌, ◌-◌, ◌%◌, ◌^◌, ◌<◌, ◌≤◌, ◌⊎◌, ◌++◌, Bool, true, false, IsTrue, not, ◌&&◌, List, []}
use Rattle.std.specs.Prelude.{◌∷◌, length}
use Rattle.std.specs.Prelude.{filter, nat_lt, reverse, take, Option, None, Some, Result, Ok, Err}
use Rattle.dmatypes.specs.declared.limits.TheConstants.{MOST_RECORDS, MOST_STEPS}
use Rattle.dmatypes.specs.Block.{Block, Holds, IsAligned}
use Rattle.dmatypes.specs.Page.{Range, IsWithin, levels}
use Rattle.dmatypes.specs.World.{IsIn}
use Rattle.dmatypes.specs.declared.page.TheConstants.{SPAN_ORDER, SPAN_PAGES}
use Rattle.dmatypes.specs.declared.width.Width.{Width}
use Rattle.dmatypes.specs.declared.call.Mode.{Mode}
use Rattle.dmatypes.specs.declared.call.Mode.TheVariants.{Strict, Lazy}
use Rattle.dmatypes.specs.declared.refusal.Refusal.{Refusal}
use Rattle.dmatypes.specs.declared.refusal.Refusal.TheVariants as refusals
use Rattle.iova.specs.Changes.{Frees, FreesLive, Retires}
use Rattle.piece_tree.specs.declared.piece.PageState.TheVariants.{Free, Live, Retired}
use Rattle.piece_tree.specs.declared.piece.Piece.{Piece}
use Rattle.iova.specs.Pieces.{AllIn, piece_of, state_at}
use Rattle.iova.specs.Space.{Space, IsSpace, IsTooMany, MayRetire}
use Rattle.queue.specs.Ring.{ring_of, with_last}
use Rattle.queue.specs.declared.ring.TheConstants.Ring.{CAPACITY}
use Rattle.tables.specs.Changes.{IsApart, KeepsSpellings, TakesAndGivesFrames, TreeStays, UnmapsPages}
use Rattle.tables.specs.Lacks.{leaves_splitting}
use Rattle.tables.specs.Pool.{Pool, memory, occurs, word, IsPool, IsTree, IsZeroed}
use Rattle.tables.specs.Tree.{uses}
use Rattle.tables.specs.Trail.{EndsInOrder, WritesInOrder}
use Rattle.tables.specs.Cut.{Cut}
use Rattle.unit.specs.Caches.{Caches}
use Rattle.unit.specs.Filters.{left_by}
use Rattle.vtdbits.specs.declared.descriptor.Descriptor.{Descriptor}
use Rattle.vtdbits.specs.declared.descriptor.Descriptor.TheVariants.{IotlbDomain, IotlbPages, Wait}
use Rattle.vtdbits.specs.declared.number.TheConstants.{MOST_BLOCK_ORDER}
use Rattle.engine.specs.declared.answer.Unmapped.{Unmapped}
use Rattle.engine.specs.declared.record.Record.{Record}
use Rattle.engine.specs.declared.iommu.Iommu.{Iommu}
use Rattle.engine.specs.declared.iommu.Shown.{Shown}
use Rattle.engine.specs.declared.iommu.Shown.TheVariants.{Mapped, OneRecord, Records}
use Rattle.engine.specs.Details.{released_by}
use Rattle.engine.specs.Domains.{Domain, Operands, held_in}

-- ---- in the tree and the address space

-- how many leaves of 2 MiB an unmap splits
abbrev pub leaves_split : Pool → Width → ℕ → Range → ℕ
leaves_split pool width root range = leaves_splitting (memory pool.words) (levels width) root range.first (range.first + range.pages)

-- the pages of the record are retired in the domain's address space, and gone from its tree, whose words spell entries still;
-- what was cut from the tree is zeroed and neither free nor used. Nothing else of the domain changes
pub record RetiresAndUnmaps (pool : Pool) (old : Domain) (r : Record) (pool' : Pool) (new : Domain) : Type 0 where
  pub may : MayRetire old.space.pieces r.range
  pub mark : r.mark ≡ old.begun
  pub retires : Retires old.space new.space r.range
  pub is_space : IsSpace new.space
  pub count : length pool'.free + leaves_split pool old.width old.root r.range ≡ length pool.free
  pub moves : TakesAndGivesFrames pool pool' (levels old.width) old.root r.cut.frames
  pub spelled : KeepsSpellings pool pool' (levels old.width) old.root
  pub unmaps : UnmapsPages pool pool' (levels old.width) old.root r.range.first (r.range.first + r.range.pages) r.cut.frames
  pub order : WritesInOrder pool pool'
  pub split : IsTrue r.cut.split ↔ (0 < leaves_split pool old.width old.root r.range)
  pub is_pool : IsPool pool'
  pub same : new ≡ record old { space = new.space }

-- the tree loses the range, and the record says what was cut; the words of the tree spell entries still, and the address space
-- is as it was
pub record UnmapsAlone (pool : Pool) (domain : Domain) (r : Record) (pool' : Pool) : Type 0 where
  pub mark : r.mark ≡ domain.begun
  pub count : length pool'.free + leaves_split pool domain.width domain.root r.range ≡ length pool.free
  pub moves : TakesAndGivesFrames pool pool' (levels domain.width) domain.root r.cut.frames
  pub spelled : KeepsSpellings pool pool' (levels domain.width) domain.root
  pub unmaps : UnmapsPages pool pool' (levels domain.width) domain.root r.range.first (r.range.first + r.range.pages) r.cut.frames
  pub order : WritesInOrder pool pool'
  pub split : IsTrue r.cut.split ↔ (0 < leaves_split pool domain.width domain.root r.range)
  pub is_pool : IsPool pool'

-- what an end is refused for: a page that isn't live, else a range that cuts a piece where there are more than 1,022,
-- else more leaves to split than frames are free
abbrev pub IsJudgedEnd : Pool → Domain → Range → Result (Unit {0}) Refusal → Type 0
IsJudgedEnd pool domain range (Ok u) = MayRetire domain.space.pieces range
    × (leaves_split pool domain.width domain.root range ≤ length pool.free)
IsJudgedEnd pool domain range (Err refusals.NotLive) =
    (p : ℕ) × IsWithin range p × (state_at domain.space.pieces p ≢ Some Live)
IsJudgedEnd pool domain range (Err refusals.TooManyPieces) = AllIn Live range domain.space.pieces × IsTooMany domain.space.pieces range
IsJudgedEnd pool domain range (Err refusals.NoFrames) =
    MayRetire domain.space.pieces range × (length pool.free < leaves_split pool domain.width domain.root range)
IsJudgedEnd pool domain range (Err _) = ⊥

-- ---- what is sent

-- the smallest aligned block that holds the range, and where a leaf of 2 MiB was split of at least 512 pages
pub record IsBlockOf (range : Range) (split : Bool) (b : Block) : Type 0 where
  pub aligned : IsAligned b
  pub holds : Holds b range
  pub wide : IsTrue split → SPAN_ORDER ≤ b.order
  pub smallest : (c : Block) → IsAligned c → Holds c range → (IsTrue split → SPAN_ORDER ≤ c.order) → b.order ≤ c.order

abbrev pub is_empty : List ℕ → Bool
is_empty [] = true
is_empty (f ∷ fs) = false

-- the invalidation hint is set exactly where no table was cut and no leaf was split
abbrev pub hint_of : Cut → Bool
hint_of cut = is_empty cut.frames && not cut.split

-- a page-selective descriptor of the block, or beyond 512 pages a domain-selective one
abbrev pub IsSent : ℕ → Range → Cut → Descriptor → Type 0
IsSent domain range cut d =
    (b : Block) × IsBlockOf range cut.split b
    × (((b.order ≤ MOST_BLOCK_ORDER) × (d ≡ IotlbPages domain b (hint_of cut))) ⊎ ((MOST_BLOCK_ORDER < b.order) × (d ≡ IotlbDomain domain)))

-- what a map sends in Caching Mode: page-selective for the smallest aligned block that holds the range, or beyond 512 pages
-- domain-selective; the hint is clear (own)
abbrev pub IsSentForMap : ℕ → Range → Descriptor → Type 0
IsSentForMap domain range d =
    (b : Block) × IsBlockOf range false b
    × (((b.order ≤ MOST_BLOCK_ORDER) × (d ≡ IotlbPages domain b false)) ⊎ ((MOST_BLOCK_ORDER < b.order) × (d ≡ IotlbDomain domain)))

-- ---- the unit

-- what the descriptors leave of the caches, one after the other
unfoldable pub left_by_all : List Descriptor → Caches → Caches
left_by_all [] c = c
left_by_all (d ∷ ds) c = left_by_all ds (left_by d c)

-- what was taken, the last one first, once these were too, one after the other: as many as the ring's page still holds
abbrev pub taken_after : List Descriptor → List Descriptor → List Descriptor
taken_after ds taken = reverse ds ++ take (CAPACITY + 1 - length ds) taken

-- a tree of this root, and the number of records that could be released, while this number of table frames is free
abbrev pub shown_of : ℕ → ℕ → ℕ → Option Shown
shown_of root records free = Some (Records root records free)

-- the tree and all records of a domain
abbrev pub domain_shown : Pool → Domain → Option Shown
domain_shown pool domain = shown_of domain.root (length domain.records) (length pool.free)

-- a tree of this root that states no page of the range, and its record that could be released, while this number of frames is free
abbrev pub record_shown : ℕ → Range → ℕ → Option Shown
record_shown root range free = Some (OneRecord root range free)

-- what the wait of a number writes: its low 32 bits
abbrev pub status_of : ℕ → ℕ
status_of number = number % 2 ^ 32

-- what waited, then the descriptor, then a wait were taken, in this order, and nothing else was. The unit has done as many as were
-- taken, each in a step of its own, with no other step, in at most `MOST_STEPS`. The row of context entries and the unit's mode stay.
-- This was shown of a domain when it was sent
pub record Invalidates (old : Iommu) (d : Descriptor) (seen : Option Shown) (new : Iommu) : Type 0 where
  pub number : new.sent ≡ old.sent + 1
  pub done : new.ring ≡ ring_of [] (status_of new.sent) (taken_after (old.ring.waiting ++ d ∷ Wait (status_of new.sent) ∷ [])
      old.ring.taken)
  pub caches : new.unit.caches ≡ left_by_all (old.ring.waiting ++ d ∷ Wait (status_of new.sent) ∷ []) old.unit.caches
  pub steps : new.unit.steps ≡ old.unit.steps + (length old.ring.waiting + 2)
  pub each : new.unit.done ≡ old.unit.done + (length old.ring.waiting + 2)
  pub few : length old.ring.waiting + 2 ≤ MOST_STEPS
  pub caching : new.unit.caching ≡ old.unit.caching
  pub contexts : new.contexts ≡ old.contexts
  pub shown : new.shown ≡ seen

-- after a map in Caching Mode: the unit did the descriptor for the range and a wait, and was shown the tree of the root, which
-- states the range. Without the mode nothing is sent
abbrev pub SendsForMap : Bool → Iommu → ℕ → ℕ → Range → Iommu → Type 0
SendsForMap false old domain root range new = new ≡ old
SendsForMap true old domain root range new =
    (d : Descriptor) × IsSentForMap domain range d × Invalidates old d (Some (Mapped root range)) new

-- a descriptor that names the domain and then a wait wait last, and nothing is taken. Nothing is shown of the domain: nothing
-- comes free by it alone
abbrev pub Begins : Iommu → ℕ → Iommu → Type 0
Begins old domain new =
    new ≡ record old {
      ring = with_last (Wait (status_of (old.sent + 1))) (with_last (IotlbDomain domain) old.ring);
      sent = old.sent + 1;
      shown = None;
    }

-- ---- what comes free

-- the pages of a record, and the table frames that were cut with them
pub record Releases (pool : Pool) (space : Space) (r : Record) (pool' : Pool) (space' : Space) : Type 0 where
  pub frees : Frees space space' r.range Retired
  pub is_space : IsSpace space'
  pub free : (f : ℕ) → occurs f pool'.free ≡ occurs f pool.free + occurs f r.cut.frames
  pub words : pool'.words ≡ pool.words
  pub trail : pool'.trail ≡ pool.trail
  pub frames : pool'.frames ≡ pool.frames
  pub is_pool : IsPool pool'

-- the pages of a record, which were live until now, and the table frames that were cut with them
pub record FreesEnded (pool : Pool) (space : Space) (r : Record) (pool' : Pool) (space' : Space) : Type 0 where
  pub frees : FreesLive space space' r.range
  pub is_space : IsSpace space'
  pub free : (f : ℕ) → occurs f pool'.free ≡ occurs f pool.free + occurs f r.cut.frames
  pub words : pool'.words ≡ pool.words
  pub trail : pool'.trail ≡ pool.trail
  pub frames : pool'.frames ≡ pool.frames
  pub is_pool : IsPool pool'

-- the pages of all these records, and the table frames that were cut with them
pub record ReleasesAll (pool : Pool) (space : Space) (records : List Record) (pool' : Pool) (space' : Space) : Type 0 where
  pub is_space : IsSpace space'
  pub last : space'.last ≡ space.last
  pub inside : (r : Record) → IsIn r records → AllIn Free r.range space'.pieces
  pub outside : (p : ℕ) → ((r : Record) → IsIn r records → IsWithin r.range p → ⊥)
      → state_at space'.pieces p ≡ state_at space.pieces p
  pub in_use : (q : Piece) → q.state ≢ Free
      → (IsIn q space'.pieces ↔ (IsIn q space.pieces × ((r : Record) → IsIn r records → q ≢ piece_of r.range Retired)))
  pub fewer : length space'.pieces ≤ length space.pieces
  -- what could be retired still can be
  pub retirable : (other : Range) → MayRetire space.pieces other → MayRetire space'.pieces other
  pub free : (f : ℕ) → occurs f pool'.free ≡ occurs f pool.free + held_in records f
  pub more : length pool.free ≤ length pool'.free
  pub words : pool'.words ≡ pool.words
  pub trail : pool'.trail ≡ pool.trail
  pub frames : pool'.frames ≡ pool.frames
  pub zeroed : (f : ℕ) → 0 < occurs f pool'.free → IsZeroed pool'.words f

-- ---- an unmap, whole

-- strict: the range is retired and unmapped, the descriptor for it is sent and done, and what was cut is released
pub record UnmapsStrictly (old : Operands) (id : ℕ) (range : Range) (new : Operands) : Type 0 where
  pub retired : Record
  pub of_range : retired.range ≡ range
  pub descriptor : Descriptor
  pub pool_between : Pool
  pub between : Domain
  pub retires : RetiresAndUnmaps old.pool old.domain retired pool_between between
  pub made : retired.sent ≡ old.iommu.sent
  pub sent : IsSent id retired.range retired.cut descriptor
  pub invalidates : Invalidates old.iommu descriptor (record_shown old.domain.root range (length pool_between.free)) new.iommu
  pub releases : Releases pool_between between.space retired new.pool new.domain.space
  pub same : new.domain ≡ record between { space = new.domain.space }

-- all that is remembered of the domain is invalidated, with its tree and all its records shown; these are released, and
-- none is left
pub record Flushes (old : Operands) (id : ℕ) (new : Operands) : Type 0 where
  pub invalidates : Invalidates old.iommu (IotlbDomain id) (domain_shown old.pool old.domain) new.iommu
  pub releases : ReleasesAll old.pool old.domain.space old.domain.records new.pool new.domain.space
  pub same : new.domain ≡ record old.domain { space = new.domain.space; records = [] }

-- a record was there before the flush of this number was begun
abbrev pub was_before : ℕ → Record → Bool
was_before number r = nat_lt r.mark number

-- the records that were there before the flush of this number was begun are released; the others are left
pub record Reaps (pool : Pool) (old : Domain) (number : ℕ) (pool' : Pool) (new : Domain) : Type 0 where
  pub releases : ReleasesAll pool old.space (filter (was_before number) old.records) pool' new.space
  pub same : new ≡ record old { space = new.space; records = filter (λ r. not (was_before number r)) old.records }

-- the tree of a root is gone: its frames are free and zeroed, none of them before the word that named it was cleared, and no other tree
-- changed
pub record Destroys (pool : Pool) (width : Width) (root : ℕ) (pool' : Pool) : Type 0 where
  pub free : (f : ℕ) → occurs f pool'.free ≡ occurs f pool.free + uses (memory pool.words) (levels width) root f
  pub words : (f k : ℕ) → k < SPAN_PAGES → uses (memory pool.words) (levels width) root f ≡ 0
      → word pool'.words f k ≡ word pool.words f k
  pub others : (level table : ℕ) → IsTree pool level table → IsApart pool (levels width) root level table
      → TreeStays pool pool' level table
  pub frames : pool'.frames ≡ pool.frames
  pub is_pool : IsPool pool'
  pub order : EndsInOrder pool pool' (levels width) root

-- a domain ends: all records are flushed, and then its tree goes
pub record Closes (old : Operands) (id : ℕ) (pool' : Pool) (iommu' : Iommu) : Type 0 where
  pub flushed : Operands
  pub flushes : Flushes old id flushed
  pub destroys : Destroys flushed.pool flushed.domain.width flushed.domain.root pool'
  pub quiet : iommu' ≡ flushed.iommu

-- there is room for one more record: with fewer than `MOST_RECORDS` nothing changes, else all are flushed
pub record HasRoom (old : Operands) (released : ℕ) (new : Operands) : Type 0 where
  pub some : length old.domain.records ≢ MOST_RECORDS
  pub none : released ≡ 0
  pub same : new ≡ old

pub record Empties (old : Operands) (id released : ℕ) (new : Operands) : Type 0 where
  pub full : length old.domain.records ≡ MOST_RECORDS
  pub all : released ≡ MOST_RECORDS
  pub flushes : Flushes old id new

abbrev pub MakesRoom : Operands → ℕ → ℕ → Operands → Type 0
MakesRoom old id released new = HasRoom old released new ⊎ Empties old id released new

-- lazy: where there is room for a record, the range is retired and unmapped, and its record is the last
pub record PutsOff (old : Operands) (id : ℕ) (range : Range) (released : ℕ) (new : Operands) : Type 0 where
  pub roomy : Operands
  pub room : MakesRoom old id released roomy
  pub retired : Record
  pub of_range : retired.range ≡ range
  pub between : Domain
  pub retires : RetiresAndUnmaps roomy.pool roomy.domain retired new.pool between
  pub made : retired.sent ≡ roomy.iommu.sent
  pub last : new.domain ≡ record between { records = between.records ++ retired ∷ [] }
  pub quiet : new.iommu ≡ roomy.iommu

abbrev pub ByMode : Mode → Type 0 → Type 0 → Type 0
ByMode Strict P Q = P
ByMode Lazy P Q = Q

-- by the mode of the domain
abbrev pub EndsBy : Operands → ℕ → Range → ℕ → Operands → Type 0
EndsBy old id range released new =
    ByMode old.domain.mode ((released ≡ 0) × UnmapsStrictly old id range new) (PutsOff old id range released new)

-- what is answered, and what the table frames, the domain and the IOMMU are then
abbrev pub IsUnmapped : Operands → ℕ → Range → Result Unmapped Refusal → Operands → Type 0
IsUnmapped old id range (Ok unmapped) new =
    IsJudgedEnd old.pool old.domain range (Ok tt) × EndsBy old id range (released_by unmapped) new
IsUnmapped old id range (Err refusal) new = (new ≡ old) × IsJudgedEnd old.pool old.domain range (Err refusal)
