-- What the type of a state keeps.
use Rattle.std.specs.Prelude.{◌≡◌, ℕ, ◌+◌, ◌*◌, ◌≤◌, List, Option, None, Some, length, sum_by}
use Rattle.dmatypes.specs.World.{IsIn}
use Rattle.dmatypes.specs.declared.limits.TheConstants.{DEVICES, MOST_DOMAINS}
use Rattle.engine.specs.Domains.{AreMadeBefore, Domain}
use Rattle.engine.specs.State.{State}
use Rattle.engine.specs.Quarantine.{IsOfSomeWorld}
use Rattle.engine.specs.Tickets.{KeepsTickets}

-- how many domains there are
abbrev pub one_if_there : Option Domain → ℕ
one_if_there None = 0
one_if_there (Some domain) = 1

abbrev pub domain_count : List (Option Domain) → ℕ
domain_count domains = sum_by one_if_there domains

-- there are `rooms` rooms, one for each place with no domain; their stack has room for all
pub record HasRooms (rooms capacity : ℕ) (domains : List (Option Domain)) : Type 0 where
  pub count : rooms + domain_count domains ≡ MOST_DOMAINS
  pub roomy : MOST_DOMAINS ≤ capacity

-- the next wait is sent after all records of all domains were made
abbrev pub AllAreMade : State → Type 0
AllAreMade m = (h : Domain) → IsIn (Some h) m.domains → AreMadeBefore (m.iommu.sent + 1) h.records

-- no more flushes of a domain were begun than waits sent
abbrev pub AllAreBegun : State → Type 0
AllAreBegun m = (h : Domain) → IsIn (Some h) m.domains → h.begun ≤ m.iommu.sent

-- it is a state of some world, with places for domains 1 to 15, the entries of devices 0 to 15 and this number of table frames. Only
-- descriptors of tickets wait between calls. No more waits were sent than calls made. No more steps of the unit were made and are left
-- to make than three for each call: two descriptors are sent by a call at most, and one step finds none. No more flushes of a domain
-- were begun than waits sent. The next wait is sent after all records of all domains were made
pub record IsWhole (frames : ℕ) (m : State) : Type 0 where
  pub of_world : IsOfSomeWorld m
  pub places : length m.domains ≡ MOST_DOMAINS
  pub devices : length m.iommu.contexts ≡ DEVICES
  pub frames_are : frames ≡ m.pool.frames
  pub tickets : KeepsTickets m
  pub sent : m.iommu.sent ≤ m.calls
  pub steps : m.iommu.unit.steps + length m.iommu.ring.waiting ≤ 3 * m.calls
  pub begun : AllAreBegun m
  pub made : AllAreMade m
