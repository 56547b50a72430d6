-- What would have been allowed in the place of a reply.
use Rattle.std.specs.Prelude.{◌≡◌, ◌⊎◌, ◌↔◌, ℕ, List, Option, Some, MatchOption, IsSome, IsSomeAnd}
use Rattle.dmatypes.specs.declared.call.Access.{Access}
use Rattle.dmatypes.specs.declared.call.Call.{Call}
use Rattle.dmatypes.specs.declared.refusal.Refusal.{Refusal}
use Rattle.dmatypes.specs.declared.reply.Reply.{Reply}
use Rattle.dmatypes.specs.declared.reply.Reply.TheVariants.{Refused}
use Rattle.dmatypes.specs.Allows.{Allows, AllowsIn}
use Rattle.dmatypes.specs.Conditions.{IsRefused, NoConditionStands}
use Rattle.dmatypes.specs.Page.{IsPageOf, IsWithin, Range}
use Rattle.dmatypes.specs.Replying.{HasSmallNumbers}
use Rattle.dmatypes.specs.Step.{Answers}
use Rattle.dmatypes.specs.World.{AreFreePages, Domain, IsFree, IsIn, World}
use Rattle.checker.specs.Judging.{IsAnswer}

-- an answer that is allowed to the call, where no condition of refusals stands; none where no answer of 64 bits is
abbrev pub IsExpectedAnswer : World → Call → Option Reply → Type 0
IsExpectedAnswer w call o =
    MatchOption o ((reply : Reply) → HasSmallNumbers reply → Answers w call reply → ⊥) (λ reply. IsAnswer reply × Answers w call reply)

-- the refusal that is due; or, where none is, an answer
abbrev pub IsExpected : World → Call → Option Reply → Type 0
IsExpected w call o =
    ((refusal : Refusal) × IsRefused w call refusal × (o ≡ Some (Refused refusal))) ⊎ (NoConditionStands w call × IsExpectedAnswer w call o)

-- these replies are allowed to a request in a domain, and no others
abbrev pub AreAllowedIn : Domain → ℕ → Access → List Reply → Type 0
AreAllowedIn v address access replies = (reply : Reply) → IsIn reply replies ↔ AllowsIn v address access reply

-- the same of a device's request
abbrev pub AreAllowed : World → ℕ → ℕ → Access → List Reply → Type 0
AreAllowed w device address access replies = (reply : Reply) → IsIn reply replies ↔ Allows w device address access reply

-- a member of the range that is no free page of the domain; none where all are, or where there is no domain
abbrev pub IsObstacle : Option Domain → Range → Option ℕ → Type 0
IsObstacle there range o =
    MatchOption o (IsSome there → IsSomeAnd there (λ v. AreFreePages v range))
    (λ p. IsWithin range p × IsSomeAnd there (λ v. IsPageOf v.width p × IsFree v p → ⊥))
