-- What a call asks of whoever keeps the memory and the queue that a unit reads.
use Rattle.std.specs.Prelude.{◌≡◌, ◌≢◌, ◌⊎◌, ℕ, ◌+◌, ◌*◌, ◌<◌, ◌≤◌, List, [], ◌∷◌, ◌++◌, All, Option, None, Some, slice_get, take}
use Rattle.std.specs.Prelude.{Result, IfErr, IfOk}
use Rattle.dmatypes.specs.World.{IsIn, Target}
use Rattle.dmatypes.specs.declared.call.Call.{Call}
use Rattle.dmatypes.specs.declared.call.Call.TheVariants as calls
use Rattle.dmatypes.specs.declared.call.Mode.{Mode}
use Rattle.dmatypes.specs.declared.call.Mode.TheVariants.{Lazy, Strict}
use Rattle.dmatypes.specs.declared.refusal.Refusal.{Refusal}
use Rattle.dmatypes.specs.declared.reply.Reply.{Reply}
use Rattle.dmatypes.specs.declared.reply.Reply.TheVariants.{Done, Flushed, Refused}
use Rattle.vtdbits.specs.Context.{attached}
use Rattle.vtdbits.specs.declared.context.ContextEntry.{ContextEntry}
use Rattle.vtdbits.specs.declared.context.ContextEntry.TheVariants.{Absent, Present}
use Rattle.vtdbits.specs.Descriptor.{descriptor_of}
use Rattle.vtdbits.specs.declared.descriptor.Descriptor.{Descriptor}
use Rattle.vtdbits.specs.declared.descriptor.Descriptor.TheVariants.{Wait}
use Rattle.queue.specs.Ring.{submitted_in}
use Rattle.tables.specs.declared.entries.TheConstants.{TABLE_ENTRIES}
use Rattle.vtdbits.specs.declared.entry.SsEntry.TheVariants.{LargeLeaf, Table}
use Rattle.tables.specs.Pool.{memory, word}
use Rattle.engine.specs.Domains.{Domain, domain_at}
use Rattle.engine.specs.Ending.{status_of}
use Rattle.engine.specs.State.{State}
use Rattle.engine.specs.Steps.{Does}
use Rattle.driven.specs.declared.effect.Half.{Half}
use Rattle.driven.specs.declared.effect.Half.TheVariants.{High, Low}
use Rattle.driven.specs.declared.effect.Effect.{Effect}
use Rattle.driven.specs.declared.effect.Effect.TheVariants.{Await, Barrier, Context, Send, Words}

-- ---- what is brought to memory

-- the effect brings the word at an index of a frame
abbrev pub Brings : Effect → ℕ → ℕ → Type 0
Brings (Words frame first count) f k =
    (frame * TABLE_ENTRIES + first ≤ f * TABLE_ENTRIES + k) × (f * TABLE_ENTRIES + k < frame * TABLE_ENTRIES + first + count)
Brings effect f k = ⊥

-- one of them does
abbrev pub IsBrought : List Effect → ℕ → ℕ → Type 0
IsBrought effects f k = (effect : Effect) × (IsIn effect effects × Brings effect f k)

-- words of table frames, or a barrier
abbrev pub IsForFrames : Effect → Type 0
IsForFrames (Words frame first count) = Unit {0}
IsForFrames Barrier = Unit {0}
IsForFrames effect = ⊥

-- the words that it brings, if any, are of one table frame
abbrev pub StaysInFrame : Effect → Type 0
StaysInFrame (Words frame first count) = first + count ≤ TABLE_ENTRIES
StaysInFrame effect = Unit {0}

-- words of one table frame, or a barrier
abbrev pub IsForTables : Effect → Type 0
IsForTables (Words frame first count) = StaysInFrame (Words frame first count)
IsForTables Barrier = Unit {0}
IsForTables effect = ⊥

-- which half of a context entry is brought first: where the entry is absent after the call the one with the present bit, else the other, so
-- that an entry that is read as present is whole
abbrev pub first_half : ContextEntry → Half
first_half Absent = Low
first_half (Present root width domain) = High

-- the device has an entry after the call, and this is that half of it
abbrev pub GoesFirst : State → ℕ → Half → Type 0
GoesFirst t device half = (e : ContextEntry) × ((slice_get t.iommu.contexts device ≡ Some e) × (half ≡ first_half e))

-- nothing is sent and nothing waited for, and a context entry is brought by that half first
abbrev pub IsForMemory : State → Effect → Type 0
IsForMemory t (Words frame first count) = Unit {0}
IsForMemory t Barrier = Unit {0}
IsForMemory t (Context device first) = GoesFirst t device first
IsForMemory t effect = ⊥

-- where a table takes the place of a leaf of 2 MiB, all of its words are brought before a barrier, and the word that names it isn't
abbrev pub FillsTables : State → State → List Effect → Type 0
FillsTables m t effects =
    (table index below : ℕ) (leaf : Target) → index < TABLE_ENTRIES
    → memory m.pool.words 2 table index ≡ LargeLeaf leaf
    → memory t.pool.words 2 table index ≡ Table below
    → (first rest : List Effect) × ((effects ≡ first ++ Barrier ∷ rest)
    × ((k : ℕ) → k < TABLE_ENTRIES → IsBrought first below k)
    × (IsBrought first table index → ⊥))

-- there are none, or a barrier is the last
abbrev pub EndInBarrier : List Effect → Type 0
EndInBarrier effects = (effects ≡ []) ⊎ ((earlier : List Effect) × (effects ≡ earlier ++ Barrier ∷ []))

-- They bring every word of a table frame, and every context entry, that isn't as before. All of it is in memory before what follows: a
-- descriptor, or the next call
pub record BringsAll (m t : State) (effects : List Effect) : Type 0 where
  pub for_memory : All (λ effect. IsForMemory t effect) effects
  pub words : (f k : ℕ) → k < TABLE_ENTRIES → word m.pool.words f k ≢ word t.pool.words f k → IsBrought effects f k
  -- no word is brought of a frame that the pool doesn't have
  pub inside : (f k : ℕ) → k < TABLE_ENTRIES → IsBrought effects f k → f < t.pool.frames
  pub contexts : (v : ℕ) → slice_get m.iommu.contexts v ≢ slice_get t.iommu.contexts v
      → (first : Half) × (GoesFirst t v first × IsIn (Context v first) effects)
  pub fills : FillsTables m t effects
  pub ends : EndInBarrier effects

-- ---- what is sent

-- nothing was submitted
pub record SendsNothing (m t : State) (effects : List Effect) : Type 0 where
  pub none : effects ≡ []
  pub waits : t.iommu.sent ≡ m.iommu.sent
  pub submitted : submitted_in t.iommu.ring ≡ submitted_in m.iommu.ring

-- the descriptor and then the wait of the next number were submitted, and nothing else. The ring tells no more than 256 of them
pub record SendsWith (m t : State) (descriptor : Descriptor) : Type 0 where
  pub waits : t.iommu.sent ≡ m.iommu.sent + 1
  pub submitted : submitted_in t.iommu.ring
      ≡ Wait (status_of t.iommu.sent) ∷ descriptor ∷ take 254 (submitted_in m.iommu.ring)

-- the effect sends the words of this descriptor
abbrev pub IsSending : Descriptor → Effect → Type 0
IsSending d (Send low high) = descriptor_of (record { low = low; high = high }) ≡ Some d
IsSending d effect = ⊥

-- the wait is waited for, but where a flush is begun
abbrev pub waited : Call → ℕ → List Effect
waited (calls.Begin domain) number = []
waited call number = Await number ∷ []

-- nothing, or a descriptor and its wait in this order
abbrev pub Sends : State → Call → State → List Effect → Type 0
Sends m call t effects =
    SendsNothing m t effects
    ⊎ ((d : Descriptor) × (e w : Effect) × (SendsWith m t d × IsSending d e × IsSending (Wait (status_of t.iommu.sent)) w
    × (effects ≡ e ∷ w ∷ waited call t.iommu.sent)))

-- ---- in which order

-- A drop, and an unmap in a lazy domain, send before they bring words: what they wait for is why tables are free or used anew. All else
-- brings words first: an unmap in a strict domain has cleared all before its descriptor
abbrev pub by_mode : Mode → List Effect → List Effect → List Effect
by_mode Strict brought sent = brought ++ sent
by_mode Lazy brought sent = sent ++ brought

abbrev pub in_mode : Option Domain → List Effect → List Effect → List Effect
in_mode None brought sent = brought ++ sent
in_mode (Some domain) brought sent = by_mode domain.mode brought sent

abbrev pub in_order : State → Call → List Effect → List Effect → List Effect
in_order m (calls.Drop domain) brought sent = sent ++ brought
in_order m (calls.Unmap domain address pages) brought sent = in_mode (domain_at m.domains domain) brought sent
in_order m call brought sent = brought ++ sent

-- each of them stays in one table frame, but where the call is a drop, which brings the words of all frames at once
abbrev pub StayInFrames : Call → List Effect → Type 0
StayInFrames call effects = ((domain : ℕ) → call ≢ calls.Drop domain) → All (λ effect. StaysInFrame effect) effects

abbrev pub IsQuiet : Reply → List Effect → Type 0
IsQuiet (Refused refusal) effects = effects ≡ []
IsQuiet reply effects = Unit {0}

-- what a call asks that leads from one state to another
pub record AreEffects (m : State) (call : Call) (reply : Reply) (t : State) (effects : List Effect) : Type 0 where
  pub quiet : IsQuiet reply effects
  pub brought : List Effect
  pub sent : List Effect
  pub brings : BringsAll m t brought
  pub sends : Sends m call t sent
  pub ordered : effects ≡ in_order m call brought sent
  pub in_frames : StayInFrames call effects

-- ---- a detach, and a flush after it

-- a device is detached, and then the domain that it had is flushed, by two calls
pub record IsDetachedAndFlushed (m : State) (device released : ℕ) (t : State) : Type 0 where
  pub domain : ℕ
  pub had : attached (slice_get m.iommu.contexts device) ≡ Some domain
  pub between : State
  pub detaches : Does m (calls.Detach device) Done between
  pub flushes : Does between (calls.Flush domain) (Flushed released) t

-- what becomes of the state: both calls, or where the detach is refused that one alone
abbrev pub DoesBoth : State → ℕ → Result ℕ Refusal → State → Type 0
DoesBoth m device result t =
    IfOk result (λ released. IsDetachedAndFlushed m device released t)
    × IfErr result (λ refusal. Does m (calls.Detach device) (Refused refusal) t)

-- the same with what both ask
pub record DetachesAndFlushes (m : State) (device released : ℕ) (t : State) (effects : List Effect) : Type 0 where
  pub domain : ℕ
  pub had : attached (slice_get m.iommu.contexts device) ≡ Some domain
  pub between : State
  pub first : List Effect
  pub second : List Effect
  pub detaches : Does m (calls.Detach device) Done between
  pub asks_first : AreEffects m (calls.Detach device) Done between first
  pub flushes : Does between (calls.Flush domain) (Flushed released) t
  pub asks_then : AreEffects between (calls.Flush domain) (Flushed released) t second
  pub joined : effects ≡ first ++ second

-- and what is asked: by both calls, or by a refused detach nothing
pub record DetachesAll (m : State) (device : ℕ) (result : Result ℕ Refusal) (t : State) (effects : List Effect) : Type 0 where
  pub done : IfOk result (λ released. DetachesAndFlushes m device released t effects)
  pub refused : IfErr result (λ refusal. Does m (calls.Detach device) (Refused refusal) t × (effects ≡ []))
