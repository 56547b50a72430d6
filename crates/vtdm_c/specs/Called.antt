-- What a call of C's does to the manager at a handle. A state answers at most 2^56 calls.
use Rattle.std.specs.Prelude.{◌≡◌, ◌+◌, ◌%◌, ◌<◌, ◌≤◌, ◌⊎◌, Bool, true, false, ℕ, List, [], length, Option, None, Some}
use Rattle.std.specs.Prelude.{IsNone, IsSome, Result}
use Rattle.dmatypes.specs.declared.call.Cache.{Cache}
use Rattle.dmatypes.specs.declared.call.Call.{Call}
use Rattle.dmatypes.specs.declared.call.Call.TheVariants as calls
use Rattle.dmatypes.specs.World.{empty}
use Rattle.dmatypes.specs.declared.limits.TheConstants.{CALLS_END, LEAST_TABLE_FRAMES, MOST_SEGMENTS, MOST_TABLE_FRAMES}
use Rattle.dmatypes.specs.declared.reply.Reply.{Reply}
use Rattle.engine.specs.Quarantine.{Quarantine}
use Rattle.engine.specs.State.{IsNew, State, flushed_reply}
use Rattle.engine.specs.Steps.{Does}
use Rattle.dmatypes.specs.declared.refusal.Refusal.{Refusal}
use Rattle.driven.specs.Driven.{Asks, IsTold, having_told}
use Rattle.driven.specs.Effects.{AreEffects, DetachesAll, DoesBoth}
use Rattle.driven.specs.declared.effect.Effect as driven
use Rattle.driven.specs.UpTo.{DoesUpTo}
use Rattle.driven.specs.declared.telling.TheConstants.{MOST_EFFECTS}
use Rattle.vtdm_c.specs.Answers.{answer_of, lone, told}
use Rattle.vtdm_c.specs.Base.{IsBase, by_hosts, by_numbers}
use Rattle.vtdm_c.specs.Effects.{AreTold}
use Rattle.vtdm_c.specs.Segments.{named}
use Rattle.vtdm_c.specs.declared.answer.Answer.{Answer}
use Rattle.vtdm_c.specs.declared.answer.TheConstants.Answer.{ABSENT, BAD_ADDRESS, BAD_BASE, BAD_CACHE, BAD_FRAMES, FEW_PLACES}
use Rattle.vtdm_c.specs.declared.answer.TheConstants.Answer.{MANY_SEGMENTS, NOT_DRIVEN, NO_MEMORY, NO_WAIT, OK, PRESENT, SPENT}
use Rattle.vtdm_c.specs.declared.effect.Effect.{Effect}
use Rattle.vtdm_c.specs.declared.life.DrivenUnit.{DrivenUnit}
use Rattle.vtdm_c.specs.declared.segments.Segment.{Segment}
use Rattle.vtdm_c.specs.declared.session.Session.{Session}

abbrev pub state_of : Session → State
state_of s = s.driven.state

abbrev pub IsSame : Session → Session → Type 0
IsSame s t = (t.driven.tells ≡ s.driven.tells) × (t.base ≡ s.base) × (t.status ≡ s.status)

-- the state makes the call; where that is told, what it asks are its effects
pub record Makes (s : Session) (call : Call) (reply : Reply) (t : Session) : Type 0 where
  pub does : Does (state_of s) call reply (state_of t)
  pub asks : s.driven.tells ≡ true → Asks t.driven (AreEffects (state_of s) call reply (state_of t))
  pub same : IsSame s t

-- a state that has answered all calls that it can stays as it is; any other makes the call by its numbers of host frames, and the answer
-- says its reply
pub record Answered (s : Session) (call : Call) (answer : Answer) (t : Session) : Type 0 where
  pub spent : CALLS_END ≤ (state_of s).calls → (answer ≡ lone SPENT) × (t ≡ s)
  pub does : (state_of s).calls < CALLS_END
      → (reply : Reply) × (answer ≡ answer_of (by_hosts s.base.first call reply)) × Makes s (by_numbers s.base.first call) reply t

-- the same of a detach and the flush of the domain that follows it, where two calls can be answered still
pub record AnsweredAll (s : Session) (device : ℕ) (answer : Answer) (t : Session) : Type 0 where
  pub spent : CALLS_END ≤ (state_of s).calls + 1 → (answer ≡ lone SPENT) × (t ≡ s)
  pub does : (state_of s).calls + 1 < CALLS_END
      → (result : Result ℕ Refusal) × (answer ≡ answer_of (flushed_reply result)) × DoesBoth (state_of s) device result (state_of t)
      × Asks t.driven (DetachesAll (state_of s) device result (state_of t)) × IsSame s t

-- nothing is asked
abbrev pub AreNone : List driven.Effect → Type 0
AreNone effects = effects ≡ []

-- what waits up to a wait that was sent is done, where a call for each that waits can be answered still. After it nothing is asked
pub record AnsweredUpTo (s : Session) (wait : ℕ) (answer : Answer) (t : Session) : Type 0 where
  pub spent : CALLS_END < (state_of s).calls + length (state_of s).iommu.ring.waiting → (answer ≡ lone SPENT) × (t ≡ s)
  pub none : (state_of s).calls + length (state_of s).iommu.ring.waiting ≤ CALLS_END → (state_of s).iommu.sent < wait
      → (answer ≡ lone NO_WAIT) × (t ≡ s)
  pub does : (state_of s).calls + length (state_of s).iommu.ring.waiting ≤ CALLS_END → wait ≤ (state_of s).iommu.sent
      → (steps : ℕ) × (answer ≡ told steps) × DoesUpTo (state_of s) wait steps (state_of t) × Asks t.driven AreNone × IsSame s t

-- these effects are told, and that once; where there are fewer places for them, they can be told still
pub record TakesThese (effects : List driven.Effect) (s : Session) (old : List Effect) (answer : Answer) (new : List Effect) (t : Session)
    : Type 0 where
  pub few : length old < length effects
      → (answer ≡ lone FEW_PLACES) × (new ≡ old) × (t.driven ≡ having_told s.driven effects t.driven.tables)
      × (t.base ≡ s.base) × (t.status ≡ s.status)
  pub told : length effects ≤ length old
      → (answer ≡ told (length effects)) × AreTold s.status effects old new × (state_of t ≡ state_of s) × IsSame s t × Asks t.driven AreNone
  pub enough : MOST_EFFECTS ≤ length old → answer.status ≡ OK

-- what the last call asks is told
pub record Takes (s : Session) (old : List Effect) (answer : Answer) (new : List Effect) (t : Session) : Type 0 where
  pub alone : s.driven.tells ≡ false → (answer ≡ lone NOT_DRIVEN) × (new ≡ old) × (t ≡ s)
  pub takes : s.driven.tells ≡ true
      → (effects : List driven.Effect) × (IsTold s.driven effects × TakesThese effects s old answer new t)

-- a handle with no manager stays one, and a manager stays at its handle and answers
abbrev pub Calls : Option Session → Call → Answer → Option Session → Type 0
Calls None call answer after = (answer ≡ lone ABSENT) × (after ≡ None)
Calls (Some s) call answer None = ⊥
Calls (Some s) call answer (Some t) = Answered s call answer t

-- a list of more segments than a map can have is refused by the interface, and the manager stays as it is
abbrev pub MapsList : Option Session → ℕ → ℕ → ℕ → List Segment → Answer → Option Session → Type 0
MapsList s domain order rights segments answer t =
    (MOST_SEGMENTS < length segments → IsSome s → (answer ≡ lone MANY_SEGMENTS) × (t ≡ s))
    × (MOST_SEGMENTS < length segments → IsNone s → (answer ≡ lone ABSENT) × (t ≡ s))
    × (length segments ≤ MOST_SEGMENTS → Calls s (calls.MapList domain order rights (record { items = named segments })) answer t)

abbrev pub CallsAll : Option Session → ℕ → Answer → Option Session → Type 0
CallsAll None device answer after = (answer ≡ lone ABSENT) × (after ≡ None)
CallsAll (Some s) device answer None = ⊥
CallsAll (Some s) device answer (Some t) = AnsweredAll s device answer t

abbrev pub CallsUpTo : Option Session → ℕ → Answer → Option Session → Type 0
CallsUpTo None wait answer after = (answer ≡ lone ABSENT) × (after ≡ None)
CallsUpTo (Some s) wait answer None = ⊥
CallsUpTo (Some s) wait answer (Some t) = AnsweredUpTo s wait answer t

abbrev pub TakesAt : Option Session → List Effect → Answer → List Effect → Option Session → Type 0
TakesAt None old answer new after = (answer ≡ lone ABSENT) × (new ≡ old) × (after ≡ None)
TakesAt (Some s) old answer new None = ⊥
TakesAt (Some s) old answer new (Some t) = Takes s old answer new t

-- likewise a number that is of no cache
abbrev pub Evicts : Option Session → Option Cache → ℕ → Answer → Option Session → Type 0
Evicts s (Some kind) place answer t = Calls s (calls.Evict kind place) answer t
Evicts (Some s) None place answer t = (answer ≡ lone BAD_CACHE) × (t ≡ Some s)
Evicts None None place answer t = (answer ≡ lone ABSENT) × (t ≡ None)

-- the answer of a reader, which changes nothing: what it finds in the state, or what says that there is none
abbrev pub Reads : {A : Type 0} → A → (State → A → Type 0) → Option Session → A → Option Session → Type 0
Reads absent Finds None answer after = (answer ≡ absent) × (after ≡ None)
Reads absent Finds (Some s) answer after = Finds (state_of s) answer × (after ≡ Some s)

-- the same of a reader of words, which name host frames
abbrev pub ReadsWords : {A : Type 0} → A → (ℕ → State → A → Type 0) → Option Session → A → Option Session → Type 0
ReadsWords absent Finds None answer after = (answer ≡ absent) × (after ≡ None)
ReadsWords absent Finds (Some s) answer after = Finds s.base.first (state_of s) answer × (after ≡ Some s)

-- it is new, its unit has Caching Mode or not as was asked, and it is a state of the empty world
pub record IsNewState (frames : ℕ) (caching : Bool) (m : State) : Type 0 where
  pub new : IsNew frames caching m
  pub empty : Quarantine m (empty frames)

-- where the table frames begin
abbrev pub first_of : Option DrivenUnit → ℕ
first_of None = 0
first_of (Some unit) = unit.base

-- Where no other unit is, it tells nothing, and its table frames begin at host frame 0. For a unit of C's it tells what calls ask, which is
-- nothing yet; its table frames begin at this base, and its waits write their status to this address
abbrev pub IsNewSession : ℕ → Bool → Option DrivenUnit → Session → Type 0
IsNewSession frames caching None s = IsNewState frames caching (state_of s) × (s.driven.tells ≡ false) × (s.base.first ≡ first_of None)
IsNewSession frames caching (Some unit) s =
    IsNewState frames caching (state_of s) × (s.driven.tells ≡ true) × Asks s.driven AreNone
    × (s.base.first ≡ first_of (Some unit)) × (s.status ≡ unit.status)

-- a status is of 32 bits, at a multiple of 4
abbrev pub WritesStatus : Option DrivenUnit → Type 0
WritesStatus None = Unit {0}
WritesStatus (Some unit) = unit.status % 4 ≡ 0

-- its table frames can begin there
abbrev pub HasBase : ℕ → Option DrivenUnit → Type 0
HasBase frames None = Unit {0}
HasBase frames (Some unit) = IsBase frames unit.base

-- a manager is made where there is none, the number of its table frames is one that it can have, and a unit of C's can write its status and
-- have the table frames where it says, unless memory is lacking
pub record MakesManager (frames : ℕ) (caching : Bool) (unit : Option DrivenUnit) (status : ℕ) (after : Option Session) : Type 0 where
  pub bad : (frames < LEAST_TABLE_FRAMES) ⊎ (MOST_TABLE_FRAMES < frames) → (status ≡ BAD_FRAMES) × (after ≡ None)
  pub askew : LEAST_TABLE_FRAMES ≤ frames → frames ≤ MOST_TABLE_FRAMES → (WritesStatus unit → ⊥) → (status ≡ BAD_ADDRESS) × (after ≡ None)
  pub nowhere : LEAST_TABLE_FRAMES ≤ frames → frames ≤ MOST_TABLE_FRAMES → WritesStatus unit → (HasBase frames unit → ⊥)
      → (status ≡ BAD_BASE) × (after ≡ None)
  pub good : LEAST_TABLE_FRAMES ≤ frames → frames ≤ MOST_TABLE_FRAMES → WritesStatus unit → HasBase frames unit
      → ((status ≡ NO_MEMORY) × (after ≡ None))
      ⊎ ((status ≡ OK) × (s : Session) × (after ≡ Some s) × IsNewSession frames caching unit s)

abbrev pub Creates : Option Session → ℕ → Bool → Option DrivenUnit → ℕ → Option Session → Type 0
Creates (Some s) frames caching unit status after = (status ≡ PRESENT) × (after ≡ Some s)
Creates None frames caching unit status after = MakesManager frames caching unit status after
