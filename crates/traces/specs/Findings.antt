-- What is told of an event that is no step.
use Rattle.std.specs.Prelude.{◌≡◌, ◌⊎◌, ℕ, List, [], ◌∷◌, Option, Some, None, IfSome, IsSomeAnd}
use Rattle.dmatypes.specs.declared.call.Access.{Access}
use Rattle.dmatypes.specs.declared.call.Call.{Call}
use Rattle.dmatypes.specs.declared.call.Call.TheVariants as calls
use Rattle.dmatypes.specs.declared.refusal.Refusal.{Refusal}
use Rattle.dmatypes.specs.declared.reply.Event.{Event}
use Rattle.dmatypes.specs.declared.reply.Reply.{Reply}
use Rattle.dmatypes.specs.declared.reply.Reply.TheVariants.{Mapped, Refused}
use Rattle.dmatypes.specs.Conditions.{IsRefused, NoConditionStands, total_pages}
use Rattle.dmatypes.specs.Page.{IsPageOf, IsWithin, page_of, range_at}
use Rattle.dmatypes.specs.World.{World}
use Rattle.checker.specs.Allowed.{AreAllowed, IsExpected, IsObstacle}
use Rattle.checker.specs.PageStates.{IsStateOf}
use Rattle.checker.specs.Refusing.{IsRefusalOf}
use Rattle.checker.specs.declared.page_state.PageState.{PageState}
use Rattle.checker.specs.declared.page_state.PageState.TheVariants.{Free, Live}
use Rattle.traces.specs.declared.finding.Finding.{Finding}
use Rattle.traces.specs.declared.finding.PageBefore.{PageBefore}

-- ---- the replies

abbrev pub listed : Option Reply → List Reply
listed None = []
listed (Some reply) = reply ∷ []

-- the refusal that is due, and no more; or, where none is, all answers to a device's request
abbrev pub AreAnswers : World → Call → ℕ → ℕ → Access → List Reply → Type 0
AreAnswers w call device address access replies =
    ((refusal : Refusal) × IsRefused w call refusal × (replies ≡ Refused refusal ∷ []))
    ⊎ (NoConditionStands w call × AreAllowed w device address access replies)

-- what is told of a device's request; to any other call one reply, as it is expected, and none where none is
abbrev pub AreTold : World → Call → List Reply → Type 0
AreTold w (calls.Dma device address access whim) replies =
    AreAnswers w (calls.Dma device address access whim) device address access replies
AreTold w call replies = (o : Option Reply) × IsExpected w call o × (replies ≡ listed o)

-- ---- the page

-- the page of a domain was so; a number that is no page of its width isn't free
abbrev pub WasSo : World → PageBefore → Type 0
WasSo w page = IsSomeAnd (w.domains page.domain)
    (λ v. IsStateOf v page.page page.state × (page.state ≡ Free → IsPageOf v.width page.page))

abbrev pub IsNotLive : PageState → Type 0
IsNotLive (Live frame rights) = ⊥
IsNotLive state = Unit {0}

-- an event names this page: a request by its address, a map's answer by a page that isn't free, an unmap by one that isn't live
abbrev pub Names : World → Call → Reply → PageBefore → Type 0
Names w (calls.Dma device address access whim) reply page = (w.devices device ≡ Some page.domain) × (page.page ≡ page_of address)
Names w (calls.Map named frame pages order rights) (Mapped address) page = (page.domain ≡ named)
    × IsObstacle (w.domains named) (record { first = page_of address; pages = pages }) (Some page.page)
Names w (calls.MapList named order rights segments) (Mapped address) page = (page.domain ≡ named)
    × IsObstacle (w.domains named) (record { first = page_of address; pages = total_pages segments.items }) (Some page.page)
Names w (calls.Unmap named address pages) reply page = (page.domain ≡ named) × IsWithin (range_at address pages) page.page
    × IsNotLive page.state
Names w call reply page = ⊥

-- ---- all of it

-- what is told of this event on the line of this number
pub record IsFinding (w : World) (number : ℕ) (e : Event) (finding : Finding) : Type 0 where
  pub number_is : finding.number ≡ number
  pub event_is : finding.event ≡ e
  pub due : IsRefusalOf w e.call finding.due
  pub replies : AreTold w e.call finding.allowed.items
  pub page : IfSome finding.page (λ page. Names w e.call e.reply page × WasSo w page)
