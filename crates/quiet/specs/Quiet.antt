-- What a unit that isn't ours may have cached of a domain: entries that a walk met, in the memory of one moment or while a call was
-- written. No list of the simulated unit is asked. The laws take for granted four things that a unit has to do. It caches only what a walk
-- met. It uses an entry for its own domain alone. A descriptor is done only when no walk that began before it will still cache or use what
-- it names. A wait is done only when all descriptors before it are. All walks here are from the root. One that begins at a cached table is
-- such a walk, which read the levels above when that was cached. If that was before the call, and the table is in its place still, it goes
-- on as one that reads those levels as before the call (`WalksFromTablesAreFromRoot`). If a lazy unmap has cut the table since, it waits in
-- a record (`LazyUnmapsRetireTables`). No walk from the root leads there any more, and one that begins there finds nothing
-- (`RetiredTablesStateNothing`).
use Rattle.std.specs.Prelude.{◌≡◌, ◌⊎◌, ℕ, ◌<◌, IsTrue, List, [], ◌∷◌, false, length, None, Some, slice_get}
use Rattle.dmatypes.specs.declared.limits.TheConstants.{MOST_DOMAINS}
use Rattle.dmatypes.specs.declared.reply.Event.{Event}
use Rattle.dmatypes.specs.declared.reply.Reply.{Reply}
use Rattle.dmatypes.specs.declared.reply.Reply.TheVariants.{Mapped, Unmapped}
use Rattle.dmatypes.specs.Page.{IsWithin, Range, levels, pages_end}
use Rattle.dmatypes.specs.World.{IsIn}
use Rattle.vtdbits.specs.declared.context.ContextEntry.TheVariants.{Present}
use Rattle.vtdbits.specs.declared.descriptor.Descriptor.{Descriptor}
use Rattle.vtdbits.specs.declared.descriptor.Descriptor.TheVariants.{Wait}
use Rattle.vtdbits.specs.declared.entry.SsEntry.TheVariants.{Absent}
use Rattle.tables.specs.declared.entries.TheConstants.{TABLE_ENTRIES}
use Rattle.tables.specs.Pool.{memory, occurs}
use Rattle.tables.specs.Tree.{IsLeafAt, IsTableAt, Memory, leaf_from, span, table_from}
use Rattle.moments.specs.Moments.{IsFilledFirst, Reached, meanwhile}
use Rattle.unit.specs.Caches.{CachedContext, CachedLeaf, CachedNonLeaf}
use Rattle.unit.specs.Filters.{drops_leaf, drops_non_leaf}
use Rattle.unit.specs.Walking.{IsPassed, hold, met}
use Rattle.engine.specs.declared.record.Record.{Record}
use Rattle.engine.specs.Domains.{Domain, domain_at}
use Rattle.engine.specs.Quarantine.{IsOfSomeWorld}
use Rattle.engine.specs.State.{State}
use Rattle.engine.specs.Steps.{Does, Goes}

-- a state of some world, with places for domains 1 to 15; each state is whole (`IsWhole`), and so it is this
pub record IsSound (m : State) : Type 0 where
  pub of_world : IsOfSomeWorld m
  pub places : length m.domains ≡ MOST_DOMAINS

-- ---- the tree

-- the leaf is an entry of the domain's tree
abbrev pub IsEntry : List ℕ → Domain → CachedLeaf → Type 0
IsEntry words h leaf = IsLeafAt (memory words) (levels h.width) h.root leaf.first leaf.pages leaf.frame leaf.rights

-- the table is in its place in the domain's tree
abbrev pub IsInPlace : List ℕ → Domain → CachedNonLeaf → Type 0
IsInPlace words h table =
    (table.pages ≡ span table.level) × IsTableAt (memory words) (levels h.width) h.root table.first table.level table.frame

-- the leaf holds a page of the range
abbrev pub HoldsPageOf : CachedLeaf → Range → Type 0
HoldsPageOf leaf range = (page : ℕ) × IsTrue (hold leaf.first leaf.pages page) × IsWithin range page

-- the table frame waits in a record of the domain
abbrev pub IsRetired : Domain → ℕ → Type 0
IsRetired h frame = (r : Record) × IsIn r h.records × (0 < occurs frame r.cut.frames)

-- ---- what a walk met

-- a walk of the domain's tree met the leaf, in what it read
abbrev pub IsMetIn : Memory → Domain → CachedLeaf → Type 0
IsMetIn now h leaf =
    (page : ℕ) × (page < pages_end h.width) × (met leaf.domain page (leaf_from now (levels h.width) h.root page) ≡ Some leaf)

-- it passed the table
abbrev pub IsPassedIn : Memory → Domain → CachedNonLeaf → Type 0
IsPassedIn now h table =
    (page : ℕ) × (page < pages_end h.width) × IsPassed now (levels h.width) h.root table.domain page table

-- a walk met the leaf while a call was written, whatever words had reached memory
abbrev pub IsMetDuring : State → State → Domain → CachedLeaf → Type 0
IsMetDuring m t h leaf =
    (reached : Reached) × IsFilledFirst m.pool.words t.pool.words reached
    × IsMetIn (meanwhile m.pool.words t.pool.words reached) h leaf

abbrev pub IsPassedDuring : State → State → Domain → CachedNonLeaf → Type 0
IsPassedDuring m t h table =
    (reached : Reached) × IsFilledFirst m.pool.words t.pool.words reached
    × IsPassedIn (meanwhile m.pool.words t.pool.words reached) h table

-- a walk for the page that begins at the table, in one memory, meets the leaf that a walk from the root meets in another, and passes the
-- same tables below
pub record GoesOnFromRoot (now : Memory) (table : CachedNonLeaf) (whole : Memory) (h : Domain) (page : ℕ) : Type 0 where
  pub leaf : leaf_from now table.level table.frame page ≡ leaf_from whole (levels h.width) h.root page
  pub tables : (below : ℕ) → below < table.level
      → table_from now table.level table.frame page below ≡ table_from whole (levels h.width) h.root page below

-- in this memory a walk that begins at the table finds no entry: it meets no leaf, and passes no other table
pub record StatesNothing (now : Memory) (table : ℕ) : Type 0 where
  pub entries : (level index : ℕ) → index < TABLE_ENTRIES → now level table index ≡ Absent
  pub leaves : (level page : ℕ) → leaf_from now level table page ≡ None
  pub tables : (level page below : ℕ) → below < level → table_from now level table page below ≡ None

-- this is the answer of a map or an unmap that was done
abbrev pub IsMapOrUnmap : Reply → Type 0
IsMapOrUnmap (Mapped address) = Unit {0}
IsMapOrUnmap (Unmapped released) = Unit {0}
IsMapOrUnmap reply = ⊥

-- ---- descriptors

-- the unit took this descriptor and after it a wait, and has taken none since
abbrev pub IsDoneLast : State → Descriptor → Type 0
IsDoneLast t d = (status : ℕ) × (earlier : List Descriptor) × (t.iommu.ring.taken ≡ Wait status ∷ d ∷ earlier)

-- a leaf is cached once the descriptor was done: whatever it is, the descriptor left it, or a walk met it since
abbrev pub IsCachedSince : State → State → Domain → Descriptor → CachedLeaf → Type 0
IsCachedSince m t h d leaf = (drops_leaf d leaf ≡ false) ⊎ IsMetDuring m t h leaf

-- so is a table
abbrev pub IsTableCachedSince : State → State → Domain → Descriptor → CachedNonLeaf → Type 0
IsTableCachedSince m t h d table = (drops_non_leaf d table ≡ false) ⊎ IsPassedDuring m t h table

-- the row of contexts leads the device of the context to its domain
abbrev pub IsOfRow : State → CachedContext → Type 0
IsOfRow m x = slice_get m.iommu.contexts x.device ≡ Some (Present x.root x.width x.domain)

-- ---- a course of calls

-- in the course of these events, each by what a method does, a walk of the domain's tree met the leaf
abbrev pub IsMetAmong : State → List Event → State → ℕ → CachedLeaf → Type 0
IsMetAmong m [] t domain leaf = ⊥
IsMetAmong m (e ∷ es) t domain leaf =
    (s : State) × Does m e.call e.reply s × Goes s es t
    × (((h : Domain) × (domain_at m.domains domain ≡ Some h) × IsMetDuring m s h leaf) ⊎ IsMetAmong s es t domain leaf)

-- or passed the table
abbrev pub IsPassedAmong : State → List Event → State → ℕ → CachedNonLeaf → Type 0
IsPassedAmong m [] t domain table = ⊥
IsPassedAmong m (e ∷ es) t domain table =
    (s : State) × Does m e.call e.reply s × Goes s es t
    × (((h : Domain) × (domain_at m.domains domain ≡ Some h) × IsPassedDuring m s h table) ⊎ IsPassedAmong s es t domain table)
