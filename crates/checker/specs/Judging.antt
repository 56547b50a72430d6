-- What a judgment says.
use Rattle.std.specs.Prelude.{◌≡◌, ℕ, ◌+◌, ◌<◌, ◌^◌, Bool, MatchBool, List}
use Rattle.dmatypes.specs.declared.call.Call.{Call}
use Rattle.dmatypes.specs.declared.call.Call.TheVariants as calls
use Rattle.dmatypes.specs.declared.call.Segment.{Segment}
use Rattle.dmatypes.specs.declared.reply.Reply.{Reply}
use Rattle.dmatypes.specs.declared.reply.Reply.TheVariants.{Mapped, Refused}
use Rattle.dmatypes.specs.Conditions.{NoneStands, StandsAtMap, total_pages}
use Rattle.dmatypes.specs.Page.{byte_address, page_of}
use Rattle.dmatypes.specs.Step.{Answers, IsMapAnswer, IsStep, next}
use Rattle.dmatypes.specs.World.{World, mapped, with_domain}
use Rattle.checker.specs.Refusing.{map_conditions}

-- yes: the reply is allowed to the call, and the world has become the next one. No: it isn't, and the world stays
abbrev pub Judges : World → Call → Reply → Bool → World → Type 0
Judges w call reply legal t =
    MatchBool legal (IsStep w call reply × (t ≡ next w call reply)) ((IsStep w call reply → ⊥) × (t ≡ w))

-- the same of an answer, where no condition of refusals stands
abbrev pub Accepts : World → Call → Reply → Bool → World → Type 0
Accepts w call reply legal t =
    MatchBool legal (Answers w call reply × (t ≡ next w call reply)) ((Answers w call reply → ⊥) × (t ≡ w))

-- no condition of a map stands, and the reply is an address that it may have
abbrev pub MayMap : World → ℕ → List Segment → ℕ → ℕ → Reply → Type 0
MayMap w domain segments order rights reply =
    NoneStands (StandsAtMap w domain segments order rights) map_conditions × IsMapAnswer w domain segments order reply

-- the same of a map, whatever conditions stand
abbrev pub JudgesMap : World → ℕ → List Segment → ℕ → ℕ → Reply → Bool → World → Type 0
JudgesMap w domain segments order rights reply legal t =
    MatchBool legal (
    (a : ℕ) × (reply ≡ Mapped a) × MayMap w domain segments order rights reply
    × (t ≡ with_domain domain (mapped segments (page_of a) rights) w)
    ) ((MayMap w domain segments order rights reply → ⊥) × (t ≡ w))

-- it isn't a refusal
abbrev pub IsAnswer : Reply → Type 0
IsAnswer (Refused refusal) = ⊥
IsAnswer reply = Unit {0}

-- the call maps nothing
abbrev pub IsNoMap : Call → Type 0
IsNoMap (calls.Map domain frame pages order rights) = ⊥
IsNoMap (calls.MapList domain order rights segments) = ⊥
IsNoMap call = Unit {0}

-- a map may be answered by the address of this page
abbrev pub MayMapAt : World → ℕ → List Segment → ℕ → ℕ → Reply → ℕ → Type 0
MayMapAt w domain segments order rights reply first =
    MayMap w domain segments order rights reply × (reply ≡ Mapped (byte_address first 0))
    × (first + total_pages segments < 2 ^ 64)
