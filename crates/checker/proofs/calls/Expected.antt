-- What would have been allowed, from what is known of its parts.
use Rattle.std.proofs.Common.{◌≡◌, ℕ, List, [], ◌∷◌, Option, None, Some, sym, subst}
use Rattle.std.specs.Prelude.{◌↔◌, MatchOption}
use Rattle.arrayvec.specs.ArrayVec.{ArrayVec}
use Rattle.dmatypes.specs.declared.call.Access.{Access}
use Rattle.dmatypes.specs.declared.call.Call.TheVariants as calls
use Rattle.dmatypes.specs.declared.call.Segment.{Segment}
use Rattle.dmatypes.specs.declared.reply.Reply.{Reply}
use Rattle.dmatypes.specs.Allows.{Allows, AllowsTo, domain_of_device}
use Rattle.dmatypes.specs.Conditions.{NoConditionStands, NoneStands, Stands, StandsAtMap}
use Rattle.dmatypes.specs.Page.{IsPageOf, IsWithin, Range}
use Rattle.dmatypes.specs.Step.{Answers, IsMapAnswer}
use Rattle.dmatypes.specs.World.{AreFreePages, Domain, IsFree, IsIn, World}
use Rattle.checker.specs.Allowed.{AreAllowed, AreAllowedIn, IsExpectedAnswer, IsObstacle}
use Rattle.checker.specs.Judging.{IsAnswer}
use Rattle.checker.specs.Refusing.{map_conditions}
use Rattle.checker.proofs.calls.Asked.{some_and_from}

-- ---- maps

pub none_at_map : (w : World) (domain frame pages order rights : ℕ) → NoConditionStands w (calls.Map domain frame pages order rights)
    → NoneStands (StandsAtMap w domain (record { frame = frame; pages = pages } ∷ []) order rights) map_conditions
unfolding Stands
none_at_map w domain frame pages order rights none = none

pub none_at_maplist : (w : World) (domain order rights : ℕ) (segments : ArrayVec Segment)
    → NoConditionStands w (calls.MapList domain order rights segments)
    → NoneStands (StandsAtMap w domain segments.items order rights) map_conditions
unfolding Stands
none_at_maplist w domain order rights segments none = none

-- an answer that is allowed to a map
abbrev pub IsMapExpected : World → ℕ → List Segment → ℕ → Option Reply → Type 0
IsMapExpected w domain segments order o =
    MatchOption o ((reply : Reply) → IsMapAnswer w domain segments order reply → ⊥)
    (λ reply. IsAnswer reply × IsMapAnswer w domain segments order reply)

pub expected_map : (o : Option Reply) (w : World) (domain frame pages order rights : ℕ)
    → IsMapExpected w domain (record { frame = frame; pages = pages } ∷ []) order o
    → IsExpectedAnswer w (calls.Map domain frame pages order rights) o
unfolding Answers
expected_map None w domain frame pages order rights h = λ reply small answer. h reply answer
expected_map (Some reply) w domain frame pages order rights h = h

pub expected_maplist : (o : Option Reply) (w : World) (domain order rights : ℕ) (segments : ArrayVec Segment)
    → IsMapExpected w domain segments.items order o → IsExpectedAnswer w (calls.MapList domain order rights segments) o
unfolding Answers
expected_maplist None w domain order rights segments h = λ reply small answer. h reply answer
expected_maplist (Some reply) w domain order rights segments h = h

-- ---- requests, and ranges

pub allowed_to : (w : World) (device address : ℕ) (access : Access) (replies : List Reply) (v : Domain) → domain_of_device w device ≡ Some v
    → AreAllowedIn v address access replies → AreAllowed w device address access replies
unfolding Allows
allowed_to w device address access replies v is h = λ reply.
    subst (λ (o : Option Domain). IsIn reply replies ↔ AllowsTo o address access reply) (sym is) (h reply)

pub obstacle_in : (there : Option Domain) (v : Domain) (r : Range) (o : Option ℕ) → there ≡ Some v
    → MatchOption o (AreFreePages v r) (λ p. IsWithin r p × (IsPageOf v.width p × IsFree v p → ⊥)) → IsObstacle there r o
obstacle_in there v r None is h = λ some. some_and_from (λ u. AreFreePages u r) there v is h
obstacle_in there v r (Some p) is h = (h.0, some_and_from (λ u. IsPageOf u.width p × IsFree u p → ⊥) there v is h.1)
