-- Which words of table frames each call changes, what it submits, what a walk finds while its effects reach memory, and what is cached once
-- a detach and a flush after it are done.
use Rattle.std.specs.Prelude.{◌≡◌, ◌≢◌, ◌⊎◌, ℕ, suc, ◌+◌, ◌/◌, ◌%◌, ◌<◌, Bool, false, true, if◌then◌else◌, List, ◌∷◌, ◌++◌, Some, take}
use Rattle.vtdbits.specs.declared.descriptor.Descriptor.{Descriptor}
use Rattle.vtdbits.specs.declared.words.Words.{Words}
use Rattle.queue.specs.Ring.{submitted_in}
use Rattle.dmatypes.specs.Conditions.{total_pages}
use Rattle.dmatypes.specs.Page.{levels}
use Rattle.dmatypes.specs.declared.call.Call.{Call}
use Rattle.dmatypes.specs.declared.call.Call.TheVariants as calls
use Rattle.dmatypes.specs.declared.page.TheConstants.{PAGE_BYTES}
use Rattle.dmatypes.specs.declared.reply.Reply.{Reply}
use Rattle.dmatypes.specs.declared.reply.Reply.TheVariants.{Done, Mapped, Unmapped}
use Rattle.tables.specs.declared.entries.TheConstants.{TABLE_ENTRIES}
use Rattle.tables.specs.Pool.{word}
use Rattle.moments.specs.Moments.{GoesDown, IsFilledFirst, IsOldOrNew, Reached, word_read}
use Rattle.unit.specs.Caches.{CachedContext, CachedFault, CachedLeaf, CachedNonLeaf}
use Rattle.unit.specs.Filters.{drops_context, drops_fault, drops_leaf, drops_non_leaf}
use Rattle.engine.specs.Domains.{Domain, domain_at}
use Rattle.engine.specs.State.{State}
use Rattle.engine.specs.Steps.{Does}
use Rattle.engine.specs.Tickets.{KeepsTickets}
use Rattle.engine.specs.Walkable.{SpellsContext}
use Rattle.quiet.specs.Quiet.{IsDoneLast, IsOfRow, IsSound}
use Rattle.driven.specs.declared.effect.Half.{Half}
use Rattle.driven.specs.declared.effect.Half.TheVariants.{High, Low}
use Rattle.driven.specs.declared.effect.Effect.{Effect}
use Rattle.driven.specs.declared.effect.Effect.TheVariants.{Barrier}
use Rattle.driven.specs.Effects.{AreEffects, GoesFirst, IsBrought, IsDetachedAndFlushed, SendsWith}
use Rattle.driven.specs.Walks.{IsExchanged, IsOnWalks}

-- the word lies on the way of one of so many pages of the domain, from a first one on, after the call
abbrev pub IsOnWalksOf : State → State → ℕ → ℕ → ℕ → ℕ → ℕ → Type 0
IsOnWalksOf m t domain first pages frame index =
    (h : Domain) × ((domain_at m.domains domain ≡ Some h)
    × IsOnWalks t.pool.words (levels h.width) h.root first (first + pages) frame index)

-- or in a table of level 1 that came into the domain's tree, or went out of it, on such a way
abbrev pub IsOfExchanged : State → State → ℕ → ℕ → ℕ → ℕ → Type 0
IsOfExchanged m t domain first pages frame =
    (h : Domain) × ((domain_at m.domains domain ≡ Some h)
    × IsExchanged m.pool.words t.pool.words (levels h.width) h.root first (first + pages) frame)

-- A map may change the words on the ways of its pages. An unmap may change these, and all words of the tables of level 1 that it cuts or
-- splits a leaf into. A drop may change any word. No other call changes one, nor one that is refused
abbrev pub MayChange : State → Call → Reply → State → ℕ → ℕ → Type 0
MayChange m (calls.Map domain frame pages order rights) (Mapped address) t f k =
    IsOnWalksOf m t domain (address / PAGE_BYTES) pages f k
MayChange m (calls.MapList domain order rights segments) (Mapped address) t f k =
    IsOnWalksOf m t domain (address / PAGE_BYTES) (total_pages segments.items) f k
MayChange m (calls.Unmap domain address pages) (Unmapped released) t f k =
    IsOnWalksOf m t domain (address / PAGE_BYTES) pages f k ⊎ IsOfExchanged m t domain (address / PAGE_BYTES) pages f
MayChange m (calls.Drop domain) Done t f k = Unit {0}
MayChange m call reply t f k = ⊥

-- no other word differs after a call
abbrev pub CallsChangeTheseWords : Type 0
CallsChangeTheseWords =
    (m t : State) (call : Call) (reply : Reply) (frame index : ℕ)
    → IsSound m
    → Does m call reply t
    → index < TABLE_ENTRIES
    → word m.pool.words frame index ≢ word t.pool.words frame index
    → MayChange m call reply t frame index

-- a call submits nothing, or one descriptor and then the wait of the next number. What the ring tells of before stands behind them, as far
-- as it has room. Each state that a caller has keeps its tickets (`IsWhole`)
abbrev pub CallsSubmitAtMostOne : Type 0
CallsSubmitAtMostOne =
    (m t : State) (call : Call) (reply : Reply)
    → KeepsTickets m
    → Does m call reply t
    → ((t.iommu.sent ≡ m.iommu.sent) × (submitted_in t.iommu.ring ≡ submitted_in m.iommu.ring))
    ⊎ ((d : Descriptor) × SendsWith m t d)

-- what is brought after a barrier alone reaches memory when all has that is brought before it. So where a walk reads such a word as
-- brought, it reads what was brought before that barrier in the tables of the next level
abbrev pub IsReadInOrder : List Effect → Reached → Type 0
IsReadInOrder effects reached =
    (first rest : List Effect) (level table index below k : ℕ) → effects ≡ first ++ Barrier ∷ rest
    → (IsBrought first table index → ⊥)
    → IsBrought rest table index
    → reached (suc level) table index ≡ true
    → IsBrought first below k
    → reached level below k ≡ true

-- Whatever of a call's effects has reached memory when a walk reads it, each level at its own moment, each page is found as before the call
-- or as after it. That asks only that barriers are kept.
abbrev pub EffectsAreOldOrNew : Type 0
EffectsAreOldOrNew =
    (m t : State) (call : Call) (reply : Reply) (effects : List Effect) (domain : ℕ) (h h' : Domain) (reached : Reached) (page : ℕ)
    → IsSound m
    → Does m call reply t
    → AreEffects m call reply t effects
    → domain_at m.domains domain ≡ Some h
    → domain_at t.domains domain ≡ Some h'
    → IsReadInOrder effects reached
    → IsOldOrNew m.pool.words t.pool.words reached h.width h.root page

-- Nor is a table in the place of a leaf of 2 MiB read before it is filled. So the laws of what may be cached once a call is done (`quiet`)
-- speak of what a walk met that read so.
abbrev pub EffectsFillFirst : Type 0
EffectsFillFirst =
    (m t : State) (call : Call) (reply : Reply) (effects : List Effect) (reached : Reached)
    → AreEffects m call reply t effects
    → IsReadInOrder effects reached
    → IsFilledFirst m.pool.words t.pool.words reached

-- The effects are done in their order, the first first. When a walk reads a level, so many of them are done, and the next one maybe in
-- part. It reads as brought what these bring, and nothing that only later ones bring
pub record IsReadMeanwhile (effects : List Effect) (done : ℕ → ℕ) (reached : Reached) : Type 0 where
  pub brought : (level frame index : ℕ) → IsBrought (take (done level) effects) frame index → reached level frame index ≡ true
  pub only : (level frame index : ℕ) → reached level frame index ≡ true → IsBrought (take (suc (done level)) effects) frame index

-- Whoever does them so keeps the barriers, as far as a walk can tell that reads each level no sooner than the level above
abbrev pub EffectsDoneAreReadInOrder : Type 0
EffectsDoneAreReadInOrder =
    (effects : List Effect) (done : ℕ → ℕ) (reached : Reached)
    → GoesDown done
    → IsReadMeanwhile effects done reached
    → IsReadInOrder effects reached

-- So such a walk finds each page as before the call or as after it, however many of its effects are done when it reads each level
abbrev pub EachStageIsOldOrNew : Type 0
EachStageIsOldOrNew =
    (m t : State) (call : Call) (reply : Reply) (effects : List Effect) (domain : ℕ) (h h' : Domain) (done : ℕ → ℕ) (reached : Reached)
    (page : ℕ)
    → IsSound m
    → Does m call reply t
    → AreEffects m call reply t effects
    → domain_at m.domains domain ≡ Some h
    → domain_at t.domains domain ≡ Some h'
    → GoesDown done
    → IsReadMeanwhile effects done reached
    → IsOldOrNew m.pool.words t.pool.words reached h.width h.root page

-- and where all that is brought has reached memory, each word is read as after the call
abbrev pub EffectsLeadThere : Type 0
EffectsLeadThere =
    (m t : State) (call : Call) (reply : Reply) (effects : List Effect) (reached : Reached) (level frame index : ℕ)
    → AreEffects m call reply t effects
    → index < TABLE_ENTRIES
    → (IsBrought effects frame index → reached level frame index ≡ true)
    → word_read m.pool.words t.pool.words reached level frame index ≡ word t.pool.words frame index

-- ---- context entries

-- the words of a context entry that a unit reads: those halves as after the call that have reached memory, and else as before it
abbrev pub halves_read : Words → Words → (Half → Bool) → Words
halves_read old new reached = record {
  low = if reached Low then new.low else old.low;
  high = if reached High then new.high else old.high;
}

-- the half that is brought first is read as brought where the other is
abbrev pub IsReadFirst : Half → (Half → Bool) → Type 0
IsReadFirst first reached = (half : Half) → reached half ≡ true → reached first ≡ true

-- bit 0 says whether an entry is present: where it isn't, a unit looks at no other
abbrev pub IsReadAs : Words → Words → Type 0
IsReadAs read words = (read ≡ words) ⊎ ((read.low % 2 ≡ 0) × (words.low % 2 ≡ 0))

-- Whatever halves of a device's context entry have reached memory when a unit reads it, it reads the entry as before the call or as after
-- it. That asks only that the half that the effects bring first reaches memory first.
abbrev pub ContextsAreOldOrNew : Type 0
ContextsAreOldOrNew =
    (m t : State) (call : Call) (reply : Reply) (device : ℕ) (first : Half) (old new : Words) (reached : Half → Bool)
    → IsSound m
    → Does m call reply t
    → SpellsContext m device old
    → SpellsContext t device new
    → GoesFirst t device first
    → IsReadFirst first reached
    → IsReadAs (halves_read old new reached) old ⊎ IsReadAs (halves_read old new reached) new

-- ---- a detach, and a flush after it

-- A device is detached, and then the domain that it had is flushed. Once the flush's descriptor is done, nothing that is cached is of the
-- domain, whatever was cached before: no leaf of a page, be it live or retired, no table, and no page as absent. Nor is a context that is
-- cached the device's: none that the detach's descriptor leaves, and none that is read off the row since. So no walk of the device caches
-- anything of the domain anew.
abbrev pub DetachesAllForget : Type 0
DetachesAllForget =
    (m t : State) (device released : ℕ) (both : IsDetachedAndFlushed m device released t) (c d : Descriptor)
    → IsSound m
    → IsDoneLast both.between c
    → IsDoneLast t d
    → ((leaf : CachedLeaf) → drops_leaf d leaf ≡ false → leaf.domain ≢ both.domain)
    × ((table : CachedNonLeaf) → drops_non_leaf d table ≡ false → table.domain ≢ both.domain)
    × ((fault : CachedFault) → drops_fault d fault ≡ false → fault.domain ≢ both.domain)
    × ((x : CachedContext) → (drops_context c x ≡ false) ⊎ (IsOfRow both.between x ⊎ IsOfRow t x) → x.device ≢ device)
