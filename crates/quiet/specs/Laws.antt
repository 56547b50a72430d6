-- The law of quiet: what may still be cached once a call is done.
use Rattle.std.specs.Prelude.{◌≡◌, ◌≢◌, ◌⊎◌, ℕ, ◌+◌, ◌<◌, ◌≤◌, ◌++◌, List, false, true, Some}
use Rattle.arrayvec.specs.ArrayVec.{ArrayVec}
use Rattle.dmatypes.specs.Conditions.{total_pages}
use Rattle.dmatypes.specs.Page.{IsWithin, pages_end, range_at}
use Rattle.dmatypes.specs.History.{event}
use Rattle.dmatypes.specs.World.{IsIn}
use Rattle.dmatypes.specs.declared.call.Call.{Call}
use Rattle.dmatypes.specs.declared.call.Call.TheVariants as calls
use Rattle.dmatypes.specs.declared.call.Mode.TheVariants.{Lazy, Strict}
use Rattle.dmatypes.specs.declared.call.Segment.{Segment}
use Rattle.dmatypes.specs.declared.reply.Event.{Event}
use Rattle.dmatypes.specs.declared.reply.Reply.{Reply}
use Rattle.dmatypes.specs.declared.reply.Reply.TheVariants.{Done, Flushed, Mapped, Reaped, Unmapped}
use Rattle.vtdbits.specs.declared.descriptor.Descriptor.{Descriptor}
use Rattle.vtdbits.specs.declared.descriptor.Descriptor.TheVariants.{IotlbDomain}
use Rattle.tables.specs.Pool.{IsZeroed, Moment, memory, occurs}
use Rattle.tables.specs.Tree.{root_states}
use Rattle.tables.specs.declared.entries.TheConstants.{TABLE_ENTRIES}
use Rattle.moments.specs.Moments.{GoesDown, in_place, IsFilledFirst, IsOldOrAbsent, IsOldOrNew, IsOldOrNewIn, meanwhile, Reached}
use Rattle.moments.specs.Moments.{ReadsSpelled, word_read, words_at}
use Rattle.unit.specs.Caches.{CachedContext, CachedFault, CachedLeaf, CachedNonLeaf}
use Rattle.unit.specs.Filters.{drops_context, drops_fault, drops_leaf, drops_non_leaf}
use Rattle.engine.specs.declared.record.Record.{Record}
use Rattle.engine.specs.Domains.{Domain, domain_at}
use Rattle.engine.specs.State.{State}
use Rattle.engine.specs.Steps.{Does, Goes}
use Rattle.quiet.specs.Quiet.{GoesOnFromRoot, HoldsPageOf, IsCachedSince, IsDoneLast, IsEntry, IsInPlace, IsMetAmong, IsMetDuring, IsOfRow}
use Rattle.quiet.specs.Quiet.{IsMapOrUnmap, IsPassedAmong, IsPassedDuring, IsRetired, IsSound, IsTableCachedSince, StatesNothing}

-- ---- any call

-- Whatever words of a call have reached memory when a walk reads them, each level at its own moment, each page is found as before the
-- call or as after it. So it is in each domain that is there before and after the call. That asks only that a table that takes the place
-- of a leaf of 2 MiB is written before the word that names it.
abbrev pub CallsAreOldOrNew : Type 0
CallsAreOldOrNew =
    (m t : State) (call : Call) (reply : Reply) (domain : ℕ) (h h' : Domain) (reached : Reached) (page : ℕ)
    → IsSound m
    → Does m call reply t
    → domain_at m.domains domain ≡ Some h
    → domain_at t.domains domain ≡ Some h'
    → IsFilledFirst m.pool.words t.pool.words reached
    → IsOldOrNew m.pool.words t.pool.words reached h.width h.root page

-- And of the one domain that a drop ends, as before it or not at all.
abbrev pub DropsAreOldOrAbsent : Type 0
DropsAreOldOrAbsent =
    (m t : State) (domain : ℕ) (h : Domain) (reached : Reached) (page : ℕ)
    → Does m (calls.Drop domain) Done t
    → domain_at m.domains domain ≡ Some h
    → IsOldOrAbsent m.pool.words t.pool.words reached h.width h.root page

-- Each word that the walk reads then spells what it sees there, so that a unit which reads more into words than entries finds no more.
abbrev pub CallsReadSpelledWords : Type 0
CallsReadSpelledWords =
    (m t : State) (call : Call) (reply : Reply) (domain : ℕ) (h h' : Domain) (reached : Reached) (page : ℕ)
    → IsSound m
    → Does m call reply t
    → domain_at m.domains domain ≡ Some h
    → domain_at t.domains domain ≡ Some h'
    → page < pages_end h.width
    → ReadsSpelled m.pool.words t.pool.words reached h.width h.root page

-- So a leaf that is cached while a call is written is an entry of the tree before the call or after it. A table that is cached then is
-- in its place before the call or after it.
abbrev pub CachedDuringIsOldOrNew : Type 0
CachedDuringIsOldOrNew =
    (m t : State) (call : Call) (reply : Reply) (domain : ℕ) (h h' : Domain)
    → IsSound m
    → Does m call reply t
    → domain_at m.domains domain ≡ Some h
    → domain_at t.domains domain ≡ Some h'
    → ((leaf : CachedLeaf) → IsMetDuring m t h leaf → IsEntry m.pool.words h leaf ⊎ IsEntry t.pool.words h leaf)
    × ((table : CachedNonLeaf) → IsPassedDuring m t h table → IsInPlace m.pool.words h table ⊎ IsInPlace t.pool.words h table)

-- From call to call, what a unit has cached of a domain's tree stays of it, but for an unmap in the domain that is done. A leaf that was
-- an entry before a call or was cached during it is an entry after it, and a table in its place likewise. The laws of strict unmaps
-- begin with such leaves and tables and end with such. So they speak of all that a unit has ever cached of a strict domain.
abbrev pub CachesStay : Type 0
CachesStay =
    (m t : State) (call : Call) (reply : Reply) (domain : ℕ) (h h' : Domain)
    → IsSound m
    → Does m call reply t
    → domain_at m.domains domain ≡ Some h
    → domain_at t.domains domain ≡ Some h'
    → ((address pages released : ℕ) → call ≡ calls.Unmap domain address pages → reply ≢ Unmapped released)
    → ((leaf : CachedLeaf) → IsEntry m.pool.words h leaf ⊎ IsMetDuring m t h leaf → IsEntry t.pool.words h leaf)
    × ((table : CachedNonLeaf) → IsInPlace m.pool.words h table ⊎ IsPassedDuring m t h table → IsInPlace t.pool.words h table)

-- A walk that begins at a cached table, where that is in its place before a call, goes on as one from the root that reads the levels above
-- as before the call. So what is said of walks from the root is said of it too.
abbrev pub WalksFromTablesAreFromRoot : Type 0
WalksFromTablesAreFromRoot =
    (m t : State) (h : Domain) (table : CachedNonLeaf) (reached : Reached) (page : ℕ)
    → IsInPlace m.pool.words h table
    → IsFilledFirst m.pool.words t.pool.words reached
    → table.first ≤ page
    → page < table.first + table.pages
    → (whole : Reached) × IsFilledFirst m.pool.words t.pool.words whole
    × GoesOnFromRoot (meanwhile m.pool.words t.pool.words reached) table (meanwhile m.pool.words t.pool.words whole) h page

-- Where the tables lie in place likewise.
abbrev pub WalksFromTablesInPlaceAreFromRoot : Type 0
WalksFromTablesInPlaceAreFromRoot =
    (m : State) (moments : List Moment) (h : Domain) (table : CachedNonLeaf) (moment : ℕ → ℕ) (page : ℕ)
    → IsInPlace m.pool.words h table
    → GoesDown moment
    → table.first ≤ page
    → page < table.first + table.pages
    → (whole : ℕ → ℕ) × GoesDown whole
    × GoesOnFromRoot (in_place m.pool.words moments moment) table (in_place m.pool.words moments whole) h page

-- ---- where the tables lie in place

-- A walk that reads their words while a map writes them, each level at any moment, finds each page as before the call or as after it. So it
-- is in each domain that is there. The leaf that it meets and each table that it passes, which may be cached, are of before the call or of
-- after it too.
abbrev pub MapCallsInPlaceAreOldOrNew : Type 0
MapCallsInPlaceAreOldOrNew =
    (m t : State) (call : Call) (address domain : ℕ) (h : Domain)
    → IsSound m
    → Does m call (Mapped address) t
    → domain_at m.domains domain ≡ Some h
    → (moments : List Moment) × (t.pool.trail ≡ m.pool.trail ++ moments)
    × ((moment : ℕ → ℕ) (page : ℕ)
    → IsOldOrNewIn m.pool.words t.pool.words (in_place m.pool.words moments moment) h.width h.root page)

-- A walk that reads them while an unmap writes them, each level no sooner than the level above, finds each page as before the call or as
-- after it. So it is in each domain that is there, whether the unmap is strict or lazy, and also where it flushes first.
abbrev pub UnmapCallsInPlaceAreOldOrNew : Type 0
UnmapCallsInPlaceAreOldOrNew =
    (m t : State) (call : Call) (released domain : ℕ) (h : Domain)
    → IsSound m
    → Does m call (Unmapped released) t
    → domain_at m.domains domain ≡ Some h
    → (moments : List Moment) × (t.pool.trail ≡ m.pool.trail ++ moments)
    × ((moment : ℕ → ℕ) (page : ℕ) → GoesDown moment
    → (root_states (in_place m.pool.words moments moment) h.width h.root page ≡ root_states (memory m.pool.words) h.width h.root page)
    ⊎ (root_states (in_place m.pool.words moments moment) h.width h.root page ≡ root_states (memory t.pool.words) h.width h.root page))

-- ---- strict domains

-- Once a strict unmap's descriptor is done, no leaf of the domain that was cached before the call or during it, and that the descriptor
-- leaves, holds an unmapped page. Each such leaf is an entry of the tree that is left.
abbrev pub StrictUnmapsForgetPages : Type 0
StrictUnmapsForgetPages =
    (m t : State) (domain address pages released : ℕ) (h : Domain) (d : Descriptor) (leaf : CachedLeaf)
    → IsSound m
    → Does m (calls.Unmap domain address pages) (Unmapped released) t
    → domain_at m.domains domain ≡ Some h
    → h.mode ≡ Strict
    → IsDoneLast t d
    → leaf.domain ≡ domain
    → IsEntry m.pool.words h leaf ⊎ IsMetDuring m t h leaf
    → drops_leaf d leaf ≡ false
    → IsEntry t.pool.words h leaf × (HoldsPageOf leaf (range_at address pages) → ⊥)

-- Nor is a leaf of a single one of these pages left, whatever it states: where tables lie in place, a unit may meet such a leaf in a table
-- that took the place of a leaf of 2 MiB, before its word is cleared (`moments`), and it is an entry neither before the call nor after it.
abbrev pub StrictUnmapsForgetSinglePages : Type 0
StrictUnmapsForgetSinglePages =
    (m t : State) (domain address pages released : ℕ) (h : Domain) (d : Descriptor) (leaf : CachedLeaf)
    → IsSound m
    → Does m (calls.Unmap domain address pages) (Unmapped released) t
    → domain_at m.domains domain ≡ Some h
    → h.mode ≡ Strict
    → IsDoneLast t d
    → leaf.domain ≡ domain
    → leaf.pages ≡ 1
    → drops_leaf d leaf ≡ false
    → HoldsPageOf leaf (range_at address pages) → ⊥

-- Nor is a table of the domain one that was cut. Each that was cached before the call or during it, and that the descriptor leaves, is
-- in its place in the tree that is left, and no free frame.
abbrev pub StrictUnmapsForgetTables : Type 0
StrictUnmapsForgetTables =
    (m t : State) (domain address pages released : ℕ) (h : Domain) (d : Descriptor) (table : CachedNonLeaf)
    → IsSound m
    → Does m (calls.Unmap domain address pages) (Unmapped released) t
    → domain_at m.domains domain ≡ Some h
    → h.mode ≡ Strict
    → IsDoneLast t d
    → table.domain ≡ domain
    → IsInPlace m.pool.words h table ⊎ IsPassedDuring m t h table
    → drops_non_leaf d table ≡ false
    → IsInPlace t.pool.words h table × (occurs table.frame t.pool.free ≡ 0)

-- ---- lazy domains

-- Each table of the domain that was cached before a lazy unmap or during it is in its place in the tree after it, or was cut and waits in a
-- record of the domain.
abbrev pub LazyUnmapsRetireTables : Type 0
LazyUnmapsRetireTables =
    (m t : State) (domain address pages released : ℕ) (h h' : Domain) (table : CachedNonLeaf)
    → IsSound m
    → Does m (calls.Unmap domain address pages) (Unmapped released) t
    → domain_at m.domains domain ≡ Some h
    → domain_at t.domains domain ≡ Some h'
    → h.mode ≡ Lazy
    → IsInPlace m.pool.words h table ⊎ IsPassedDuring m t h table
    → IsInPlace t.pool.words h table ⊎ IsRetired h' table.frame

-- A table that waits in a record is in no tree, but a unit that has it cached may begin a walk there, until a flush has it forget that.
-- Whatever words of a call have reached memory meanwhile, such a walk finds nothing: each word that it reads there is 0. So it is at every
-- call but an unmap of the domain that flushes first, which may use the frame again once its descriptor is done.
abbrev pub RetiredTablesStateNothing : Type 0
RetiredTablesStateNothing =
    (m t : State) (call : Call) (reply : Reply) (domain frame : ℕ) (h : Domain) (reached : Reached)
    → IsSound m
    → Does m call reply t
    → domain_at m.domains domain ≡ Some h
    → IsRetired h frame
    → ((address pages released : ℕ) → call ≡ calls.Unmap domain address pages → reply ≡ Unmapped released → released ≡ 0)
    → StatesNothing (meanwhile m.pool.words t.pool.words reached) frame
    × ((level index : ℕ) → index < TABLE_ENTRIES → word_read m.pool.words t.pool.words reached level frame index ≡ 0)

-- Nor does it find anything where the tables lie in place, while a map or any other unmap writes their words: the table is zeroed all the
-- time.
abbrev pub RetiredTablesInPlaceStateNothing : Type 0
RetiredTablesInPlaceStateNothing =
    (m t : State) (call : Call) (reply : Reply) (domain frame : ℕ) (h : Domain)
    → IsSound m
    → Does m call reply t
    → IsMapOrUnmap reply
    → domain_at m.domains domain ≡ Some h
    → IsRetired h frame
    → ((address pages released : ℕ) → call ≡ calls.Unmap domain address pages → reply ≡ Unmapped released → released ≡ 0)
    → (moments : List Moment) × (t.pool.trail ≡ m.pool.trail ++ moments)
    × ((written : ℕ) → IsZeroed (words_at m.pool.words moments written) frame)
    × ((moment : ℕ → ℕ) → StatesNothing (in_place m.pool.words moments moment) frame)

-- Once a flush's descriptor is done, nothing of the domain that is cached then or is cached later in the call holds a page of a record
-- or a table that was cut with one. Whatever was cached, of which nothing is asked, the descriptor leaves none of the domain.
abbrev pub FlushesForget : Type 0
FlushesForget =
    (m t : State) (domain released : ℕ) (h : Domain) (d : Descriptor) (r : Record)
    → IsSound m
    → Does m (calls.Flush domain) (Flushed released) t
    → domain_at m.domains domain ≡ Some h
    → IsDoneLast t d
    → IsIn r h.records
    → ((leaf : CachedLeaf) → leaf.domain ≡ domain → IsCachedSince m t h d leaf → HoldsPageOf leaf r.range → ⊥)
    × ((table : CachedNonLeaf) → table.domain ≡ domain → IsTableCachedSince m t h d table → occurs table.frame r.cut.frames ≡ 0)

-- The same of an unmap that finds the list of records full and flushes first. Its own words are written after the flush, and may make a
-- table of a frame that came free. So a cached table is in its place before the call or after it.
abbrev pub FullListsForget : Type 0
FullListsForget =
    (m t : State) (domain address pages released : ℕ) (h : Domain) (d : Descriptor) (r : Record)
    → IsSound m
    → Does m (calls.Unmap domain address pages) (Unmapped released) t
    → domain_at m.domains domain ≡ Some h
    → h.mode ≡ Lazy
    → released ≢ 0
    → IsDoneLast t d
    → IsIn r h.records
    → ((leaf : CachedLeaf) → leaf.domain ≡ domain → IsCachedSince m t h d leaf → HoldsPageOf leaf r.range → ⊥)
    × ((table : CachedNonLeaf) → table.domain ≡ domain → IsTableCachedSince m t h d table
    → IsInPlace m.pool.words h table ⊎ IsInPlace t.pool.words h table)

-- A flush of this number was begun, and its descriptor is done in a state. From there on calls are made, and then a reap of that number
-- releases a record. Say that something of the domain was cached when the descriptor was done, in the course of those calls, or in the
-- reap. Then it holds no page of the record, and is no table that was cut with it. Meanwhile the domain isn't dropped, as the model
-- refuses while the ticket is open.
abbrev pub ReapsForget : Type 0
ReapsForget =
    (s m t : State) (events : List Event) (domain number released : ℕ) (k h : Domain) (r : Record)
    → IsSound s
    → domain_at s.domains domain ≡ Some k
    → number ≤ k.begun
    → Goes s events m
    → (IsIn (event (calls.Drop domain) Done) events → ⊥)
    → Does m (calls.Reap domain number) (Reaped released) t
    → domain_at m.domains domain ≡ Some h
    → IsIn r h.records
    → r.mark < number
    → ((leaf : CachedLeaf) → leaf.domain ≡ domain
    → (drops_leaf (IotlbDomain domain) leaf ≡ false) ⊎ (IsMetAmong s events m domain leaf ⊎ IsMetDuring m t h leaf)
    → HoldsPageOf leaf r.range → ⊥)
    × ((table : CachedNonLeaf) → table.domain ≡ domain
    → (drops_non_leaf (IotlbDomain domain) table ≡ false) ⊎ (IsPassedAmong s events m domain table ⊎ IsPassedDuring m t h table)
    → occurs table.frame r.cut.frames ≡ 0)

-- ---- ends of domains and of attachments

-- Once a drop's descriptor is done, nothing that is cached is of the domain, and no device's context leads there, so that no walk can
-- cache anything of it either.
abbrev pub DropsForget : Type 0
DropsForget =
    (m t : State) (domain : ℕ) (d : Descriptor)
    → IsSound m
    → Does m (calls.Drop domain) Done t
    → IsDoneLast t d
    → ((leaf : CachedLeaf) → drops_leaf d leaf ≡ false → leaf.domain ≢ domain)
    × ((table : CachedNonLeaf) → drops_non_leaf d table ≡ false → table.domain ≢ domain)
    × ((fault : CachedFault) → drops_fault d fault ≡ false → fault.domain ≢ domain)
    × ((x : CachedContext) → IsOfRow m x ⊎ IsOfRow t x → x.domain ≢ domain)

-- Once a detach's descriptor is done, no context that is cached is the device's: none that the descriptor leaves, and none that is read
-- off the row since.
abbrev pub DetachesForget : Type 0
DetachesForget =
    (m t : State) (device : ℕ) (d : Descriptor) (x : CachedContext)
    → IsSound m
    → Does m (calls.Detach device) Done t
    → IsDoneLast t d
    → (drops_context d x ≡ false) ⊎ IsOfRow t x
    → x.device ≢ device

-- ---- Caching Mode

-- Once a map's descriptor is done, no page that it mapped is cached as absent, whatever was cached before the call or during it.
abbrev pub MapsForgetFaults : Type 0
MapsForgetFaults =
    (m t : State) (domain order rights address : ℕ) (segments : ArrayVec Segment) (d : Descriptor) (fault : CachedFault)
    → m.iommu.unit.caching ≡ true
    → Does m (calls.MapList domain order rights segments) (Mapped address) t
    → IsDoneLast t d
    → fault.domain ≡ domain
    → drops_fault d fault ≡ false
    → IsWithin (range_at address (total_pages segments.items)) fault.page → ⊥

-- The same of a map of one segment.
abbrev pub MapsOfOneForgetFaults : Type 0
MapsOfOneForgetFaults =
    (m t : State) (domain frame pages order rights address : ℕ) (d : Descriptor) (fault : CachedFault)
    → m.iommu.unit.caching ≡ true
    → Does m (calls.Map domain frame pages order rights) (Mapped address) t
    → IsDoneLast t d
    → fault.domain ≡ domain
    → drops_fault d fault ≡ false
    → IsWithin (range_at address pages) fault.page → ⊥
