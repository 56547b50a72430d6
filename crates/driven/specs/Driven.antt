-- What contracts see of a driven state, and what it asks.
use Rattle.std.specs.Prelude.{◌≡◌, ℕ, ◌+◌, ◌-◌, ◌/◌, ◌<◌, ◌≤◌, Bool, true, List, ◌++◌, Option, length}
use Rattle.dmatypes.specs.declared.page.TheConstants.{MOST_PAGES, SPAN_PAGES}
use Rattle.dmatypes.specs.declared.width.TheConstants.{PAGES_END}
use Rattle.engine.specs.Domains.{domain_at}
use Rattle.engine.specs.State.{State}
use Rattle.driven.specs.declared.effect.Effect.{Effect}
use Rattle.driven.specs.declared.untold.Ended.{Ended}
use Rattle.driven.specs.declared.untold.Lowest.{Lowest}
use Rattle.driven.specs.declared.untold.Lowest.TheVariants.{MayCome, Noted, Stay}
use Rattle.driven.specs.declared.untold.Mapped.{Mapped}
use Rattle.driven.specs.declared.untold.Untold.{Untold}
use Rattle.driven.specs.declared.untold.Untold.TheVariants as untold
use Rattle.driven.specs.Telling.{AreLeftOut, AreTablesOf, BringsMapped, BringsUnmapped, HasSent, IsSentBy, StayInPart}

-- what contracts see: the state; what the last call asks as far as it is told, what it asks besides that isn't told yet, and the tables of
-- level 1 that were noted before it; and whether it tells what maps and unmaps ask
pub record Driven : Type 0 where
  pub state : State
  pub effects : List Effect
  pub untold : Untold
  pub tables : List (Option ℕ)
  pub tells : Bool

-- ---- what is told

-- of a map: the words that it changed, and then what it sent
pub record TellsMap (m : State) (x : Mapped) (effects : List Effect) : Type 0 where
  pub brought : List Effect
  pub sent : List Effect
  pub brings : BringsMapped m.pool (domain_at m.domains x.domain) x.first (x.first + x.pages) x.grew brought
  pub sends : IsSentBy m x.waits true sent
  pub in_order : effects ≡ brought ++ sent

-- the tables of level 1 on the ways of an unmap's pages before it: as they were noted, or as they are still, or none where it isn't known
abbrev pub AreLowest : State → Ended → List (Option ℕ) → Lowest → List (Option ℕ) → Type 0
AreLowest m x noted Noted tables = tables ≡ noted
AreLowest m x noted Stay tables = AreTablesOf m.pool (domain_at m.domains x.domain) x.first x.last tables
AreLowest m x noted MayCome tables = AreLeftOut x.first x.last tables

-- of an unmap: the words that it changed, and then what it sent; but where it released records it flushed first
pub record TellsUnmap (m : State) (x : Ended) (noted : List (Option ℕ)) (effects : List Effect) : Type 0 where
  pub tables : List (Option ℕ)
  pub lowest : AreLowest m x noted x.lowest tables
  pub brought : List Effect
  pub sent : List Effect
  pub brings : BringsUnmapped m.pool (domain_at m.domains x.domain) x.first x.last tables brought
  pub sends : IsSentBy m x.waits true sent
  pub flushed : 0 < x.released → effects ≡ sent ++ brought
  pub in_order : x.released ≡ 0 → effects ≡ brought ++ sent

abbrev pub Tells : State → List Effect → List (Option ℕ) → Untold → List Effect → Type 0
Tells m told noted untold.Nothing effects = effects ≡ told
Tells m told noted (untold.Map x) effects = TellsMap m x effects
Tells m told noted (untold.Unmap x) effects = TellsUnmap m x noted effects

-- these effects may be told as what the last call asks. There always are some: `tell` tells them
abbrev pub IsTold : Driven → List Effect → Type 0
IsTold d effects = Tells d.state d.effects d.tables d.untold effects

-- whatever effects are told as what the last call asks, they are so
abbrev pub Asks : Driven → (List Effect → Type 0) → Type 0
Asks d P = (effects : List Effect) → IsTold d effects → P effects

-- the same, where these were told, whatever tables are noted then
abbrev pub having_told : Driven → List Effect → List (Option ℕ) → Driven
having_told d effects tables = record d { effects = effects; untold = untold.Nothing; tables = tables }

-- what it could tell is told
abbrev pub HasTold : Driven → Driven → Type 0
HasTold d d' = IsTold d d'.effects × (d' ≡ having_told d d'.effects d'.tables)

-- ---- what is kept so that it can be told

abbrev pub IsMapped : State → Mapped → Type 0
IsMapped m x = (1 ≤ x.pages) × (x.pages ≤ MOST_PAGES) × (x.first + x.pages ≤ PAGES_END) × HasSent m x.waits

-- where the tables were noted they are one for each span, and stay where a page of the span is none of the unmap's
abbrev pub AreNoted : State → Ended → List (Option ℕ) → Lowest → Type 0
AreNoted m x noted Noted =
    (length noted ≡ x.last / SPAN_PAGES + 1 - x.first / SPAN_PAGES)
    × StayInPart m.pool (domain_at m.domains x.domain) x.first x.last noted
AreNoted m x noted Stay = Unit {0}
AreNoted m x noted MayCome = Unit {0}

abbrev pub IsEnded : State → Ended → List (Option ℕ) → Type 0
IsEnded m x noted = (x.first ≤ x.last) × (x.last < x.first + MOST_PAGES) × HasSent m x.waits × AreNoted m x noted x.lowest

abbrev pub CanTell : State → List (Option ℕ) → Untold → Type 0
CanTell m noted untold.Nothing = Unit {0}
CanTell m noted (untold.Map x) = IsMapped m x
CanTell m noted (untold.Unmap x) = IsEnded m x noted
