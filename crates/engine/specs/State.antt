-- What contracts see of the state. A ticket has, besides its domain and number, the number of the wait that was sent for it. The IOMMU
-- (`Iommu`) is the row of context entries, the ring, the unit, the number of the last wait that was sent, and what was shown (`Shown`) of a
-- domain then. That is the root of its tree, and for a map its range. For an unmap it is besides the range of the one record, for a flush
-- how many records could be released, and for both how many table frames were free.
use Rattle.std.specs.Prelude.{◌≢◌, ◌==◌, ◌&&◌, ◌++◌, ◌∷◌, Bool, filter, not}
use Rattle.std.specs.Prelude.{◌≡◌, ℕ, ◌+◌, ◌-◌, ◌/◌, ◌<◌, ◌≤◌, List, [], replicate, IsSome, IsSomeAnd, Option, None, Some, length}
use Rattle.std.specs.Prelude.{slice_get}
use Rattle.std.specs.Prelude.{slice_set, Result, Ok, Err, IfOk, IsTrue}
use Rattle.dmatypes.specs.declared.call.Call.{Call}
use Rattle.dmatypes.specs.declared.call.Call.TheVariants as calls
use Rattle.dmatypes.specs.declared.refusal.Fault.{Fault}
use Rattle.dmatypes.specs.declared.refusal.Refusal.{Refusal}
use Rattle.dmatypes.specs.declared.refusal.Refusal.TheVariants as refusals
use Rattle.dmatypes.specs.declared.reply.Reply.{Reply}
use Rattle.dmatypes.specs.declared.reply.Reply.TheVariants.{Made, Done, Mapped, Unmapped, Flushed, Host, Faulted, Refused}
use Rattle.dmatypes.specs.declared.reply.Reply.TheVariants.{Pending, Reaped, Stepped}
use Rattle.dmatypes.specs.declared.reply.Progress.TheVariants.{Did, Idle}
use Rattle.dmatypes.specs.World.{IsIn}
use Rattle.dmatypes.specs.declared.limits.TheConstants.{DEVICES, MOST_DOMAINS}
use Rattle.dmatypes.specs.declared.page.TheConstants.{PAGE_BYTES}
use Rattle.dmatypes.specs.declared.width.Width.{Width}
use Rattle.queue.specs.Ring.{ring_of}
use Rattle.tables.specs.Pool.{Pool, memory, occurs, IsZeroed}
use Rattle.tables.specs.Tree.{one_if_same}
use Rattle.unit.specs.Answers.{AnswersRequest, IsRemembered}
use Rattle.unit.specs.Caches.{nothing, unit_state, without}
use Rattle.unit.specs.Filters.{after_first, done_after, left_by_first}
use Rattle.unit.specs.declared.hit.Hit.{Hit}
use Rattle.vtdbits.specs.declared.context.ContextEntry.TheVariants.{Absent, Present}
use Rattle.dmatypes.specs.Conditions.{total_pages}
use Rattle.dmatypes.specs.Page.{range_at}
use Rattle.dmatypes.specs.declared.call.Segment.{Segment}
use Rattle.tables.specs.Segments.{one_segment}
use Rattle.vtdbits.specs.declared.descriptor.Descriptor.TheVariants.{ContextDevice}
use Rattle.engine.specs.declared.answer.Placed.{Placed}
use Rattle.engine.specs.declared.answer.Unmapped as answer
use Rattle.engine.specs.declared.iommu.Iommu.{Iommu}
use Rattle.engine.specs.declared.ticket.Ticket.{Ticket}
use Rattle.engine.specs.Details.{released_by}
use Rattle.engine.specs.Ending.{Begins, Closes, EndsBy, Flushes, Invalidates, IsJudgedEnd, Reaps, SendsForMap}
use Rattle.engine.specs.Ready.{last_done}
use Rattle.engine.specs.Domains.{Domain, Operands, domain_at, new_domain, operands_of}
use Rattle.engine.specs.Placing.{IsCrowded, IsShort, IsTaken, Placement, Places, frames_taken, range_of}

-- the table frames, domains 1 to 15, the row of context entries with the ring and the unit, the flushes that were begun and
-- not reaped, and how many calls were made. The world has a `Ticket` too, without the number of its wait: where a file
-- speaks of both, that one is `world.Ticket`
pub record State : Type 0 where
  pub pool : Pool
  pub domains : List (Option Domain)
  pub iommu : Iommu
  pub tickets : List Ticket
  pub calls : ℕ

-- all table frames are free and zeroed; there is no domain and no device, nothing waits and nothing is remembered; the unit
-- has Caching Mode or not
pub record IsNew (frames : ℕ) (caching : Bool) (m : State) : Type 0 where
  pub frames_are : m.pool.frames ≡ frames
  pub free : (f : ℕ) → f < frames → occurs f m.pool.free ≡ 1
  pub past : (f : ℕ) → frames ≤ f → occurs f m.pool.free ≡ 0
  pub count : length m.pool.free ≡ frames
  pub zeroed : (f : ℕ) → f < frames → IsZeroed m.pool.words f
  pub domains_are : m.domains ≡ replicate MOST_DOMAINS None
  pub contexts_are : m.iommu.contexts ≡ replicate DEVICES Absent
  pub ring_is : m.iommu.ring ≡ ring_of [] 0 []
  pub unit_is : m.iommu.unit ≡ unit_state nothing 0 0 caching
  pub sent_is : m.iommu.sent ≡ 0
  pub tickets_are : m.tickets ≡ []
  pub calls_are : m.calls ≡ 0
  pub shown_is : m.iommu.shown ≡ None

-- it is the ticket of this domain and number
abbrev pub is_ticket : ℕ → ℕ → Ticket → Bool
is_ticket domain number t = domain == t.domain && number == t.number

-- a ticket of this domain and number is open, with the property
abbrev pub SomeTicket : State → ℕ → ℕ → (Ticket → Type 0) → Type 0
SomeTicket m domain number P = (t : Ticket) × IsIn t m.tickets × (t.domain ≡ domain) × (t.number ≡ number) × P t

-- a domain with one flush more begun
abbrev pub begins : Domain → Domain
begins h = record h { begun = h.begun + 1 }

-- a map takes the start at which its domain serves it
abbrev pub IsExactMap : State → ℕ → List Segment → ℕ → Reply → Type 0
IsExactMap m domain segments order (Mapped address) =
    IsSomeAnd (domain_at m.domains domain) (λ h. IsTaken h (total_pages segments) order (address / PAGE_BYTES)
    × (frames_taken m.pool h.width h.root segments (address / PAGE_BYTES) ≤ length m.pool.free))
IsExactMap m domain segments order (Refused refusals.TooManyPieces) =
    IsSomeAnd (domain_at m.domains domain) (λ h. IsCrowded h (total_pages segments) order)
IsExactMap m domain segments order (Refused refusals.NoFrames) =
    IsSomeAnd (domain_at m.domains domain) (λ h. IsShort m.pool h segments order)
IsExactMap m domain segments order reply = Unit {0}

-- the lowest id that no domain has
abbrev pub IsLowestUnused : State → ℕ → Type 0
IsLowestUnused m d = (domain_at m.domains d ≡ None) × ((e : ℕ) → 1 ≤ e → e < d → IsSome (domain_at m.domains e))

-- what the model leaves open. A new domain gets the lowest unused id, and is refused for its root exactly where no frame is free. A map
-- takes the start at which its domain serves it. It is refused for its pieces exactly where the range there cuts a piece and there are
-- more than 1,022, and else for its frames exactly where more tables are lacking than frames are free. So is an unmap, for its frames
-- where more leaves of 2 MiB are to be split. A step of the unit finds nothing exactly where nothing waits. A reap is answered that it
-- is pending exactly where the ticket's wait isn't done
unfoldable pub Exact : State → Call → Reply → Type 0
Exact m (calls.Domain mode width) (Made d) = (0 < length m.pool.free) × IsLowestUnused m d
Exact m (calls.Domain mode width) (Refused refusals.NoFrames) = length m.pool.free ≡ 0
Exact m (calls.Map domain frame pages order rights) reply = IsExactMap m domain (one_segment frame pages) order reply
Exact m (calls.MapList domain order rights segments) reply = IsExactMap m domain segments.items order reply
Exact m (calls.Unmap domain address pages) (Unmapped released) =
    IsSomeAnd (domain_at m.domains domain) (λ h. IsJudgedEnd m.pool h (range_at address pages) (Ok tt))
Exact m (calls.Unmap domain address pages) (Refused refusals.TooManyPieces) =
    IsSomeAnd (domain_at m.domains domain) (λ h. IsJudgedEnd m.pool h (range_at address pages) (Err refusals.TooManyPieces))
Exact m (calls.Unmap domain address pages) (Refused refusals.NoFrames) =
    IsSomeAnd (domain_at m.domains domain) (λ h. IsJudgedEnd m.pool h (range_at address pages) (Err refusals.NoFrames))
Exact m calls.Unit (Stepped Idle) = m.iommu.ring.waiting ≡ []
Exact m calls.Unit (Stepped Did) = m.iommu.ring.waiting ≢ []
Exact m (calls.Reap domain number) Pending = SomeTicket m domain number (λ t. last_done m.iommu < t.wait)
Exact m (calls.Reap domain number) (Reaped released) = SomeTicket m domain number (λ t. t.wait ≤ last_done m.iommu)
Exact m call (Refused refusals.NoFrames) = ⊥
Exact m call reply = Unit {0}

-- a free frame became the root of a tree that maps no page
pub record TakesRoot (pool pool' : Pool) (root : ℕ) : Type 0 where
  pub free : (f : ℕ) → occurs f pool'.free + one_if_same root f ≡ occurs f pool.free
  pub count : length pool'.free + 1 ≡ length pool.free
  pub words : pool'.words ≡ pool.words
  pub frames : pool'.frames ≡ pool.frames

-- the reply to a request, by the unit's answer
abbrev pub reached_reply : Result ℕ Fault → Reply
reached_reply (Ok a) = Host a
reached_reply (Err f) = Faulted f

abbrev pub host_in : Result Hit Fault → Result ℕ Fault
host_in (Ok hit) = Ok hit.host
host_in (Err f) = Err f

-- the state with another domain of an id, or none, and the table frames and the IOMMU of a later one
abbrev pub with_domain : State → ℕ → Option Domain → State → State
with_domain m id new t = record m {
  pool = t.pool;
  domains = slice_set m.domains (id - 1) new;
  iommu = t.iommu;
  calls = m.calls + 1;
}

-- a map changes its domain and the table frames, as it takes its range and maps it, and in Caching Mode the IOMMU, as it sends
abbrev pub BecomesMapped : State → ℕ → Placement → State → Type 0
BecomesMapped m domain at t =
    (old : Domain) × (new : Domain) × (domain_at m.domains domain ≡ Some old) × Places m.pool old at t.pool new
    × SendsForMap m.iommu.unit.caching m.iommu domain old.root (range_of at) t.iommu
    × (t ≡ with_domain m domain (Some new) t)

-- the parts of the state that a call of this domain works on
abbrev pub operands_in : State → Domain → Operands
operands_in m domain = operands_of m.pool domain m.iommu

-- what becomes of the state. A new domain has a whole space and an empty tree, an attached device its entry, and a detached one none. A
-- map, a drop, a flush and an unmap change their domain, the table frames and the IOMMU, an unmap as it ends its range by the domain's
-- mode. A request and an eviction change what the unit remembers, and with a fill a context and a leaf that state a request's answer are
-- remembered then. A begun flush sends its descriptor and its wait, and opens its ticket. A step of the unit does the oldest descriptor.
-- A reap releases the records of its domain that were there when its flush was begun, and closes its ticket. Nothing else changes, but
-- for the count of calls
unfoldable pub Becomes : State → Call → Reply → State → Type 0
Becomes m (calls.Domain mode width) (Made d) t =
    (root : ℕ) × TakesRoot m.pool t.pool root
    × (t ≡ record m { pool = t.pool; domains = slice_set m.domains (d - 1) (Some (new_domain mode width root)); calls = m.calls + 1 })
Becomes m (calls.Attach device domain) Done t =
    (h : Domain) × (domain_at m.domains domain ≡ Some h)
    × (t ≡ record m {
      iommu = record m.iommu { contexts = slice_set m.iommu.contexts device (Present h.root h.width domain) };
      calls = m.calls + 1;
    })
Becomes m (calls.Drop domain) Done t =
    (old : Domain) × (domain_at m.domains domain ≡ Some old)
    × Closes (operands_in m old) domain t.pool t.iommu × (t ≡ with_domain m domain None t)
Becomes m (calls.Detach device) Done t =
    (domain : ℕ) × (root : ℕ) × (width : Width) × (slice_get m.iommu.contexts device ≡ Some (Present root width domain))
    × Invalidates (record m.iommu { contexts = slice_set m.iommu.contexts device Absent }) (ContextDevice domain device) None t.iommu
    × (t ≡ record m { iommu = t.iommu; calls = m.calls + 1 })
Becomes m (calls.Map domain frame pages order rights) (Mapped address) t =
    BecomesMapped m domain
    (record { segments = one_segment frame pages; order = order; rights = rights; first = address / PAGE_BYTES }) t
Becomes m (calls.MapList domain order rights segments) (Mapped address) t =
    BecomesMapped m domain (record { segments = segments.items; order = order; rights = rights; first = address / PAGE_BYTES }) t
Becomes m (calls.Flush domain) (Flushed released) t =
    (old : Domain) × (new : Domain) × (domain_at m.domains domain ≡ Some old)
    × Flushes (operands_in m old) domain (operands_in t new) × (t ≡ with_domain m domain (Some new) t)
Becomes m (calls.Unmap domain address pages) (Unmapped released) t =
    (old : Domain) × (new : Domain) × (domain_at m.domains domain ≡ Some old)
    × EndsBy (operands_in m old) domain (range_at address pages) released (operands_in t new)
    × (t ≡ with_domain m domain (Some new) t)
Becomes m (calls.Dma device address access whim) (Refused refusal) t = t ≡ record m { calls = m.calls + 1 }
Becomes m (calls.Dma device address access whim) reply t =
    (answer : Result Hit Fault) × (reply ≡ reached_reply (host_in answer))
    × AnswersRequest (memory m.pool.words) m.iommu.contexts whim.look whim.fill m.iommu.unit.caching device address access
    m.iommu.unit.caches t.iommu.unit.caches answer
    × (IsTrue whim.fill → IfOk answer (IsRemembered t.iommu.unit.caches device address))
    × (t ≡ record m {
      iommu = record m.iommu { unit = unit_state t.iommu.unit.caches m.iommu.unit.steps m.iommu.unit.done m.iommu.unit.caching };
      calls = m.calls + 1;
    })
Becomes m (calls.Evict kind place) Done t =
    t ≡ record m {
      iommu = record m.iommu {
        unit = unit_state (without kind place m.iommu.unit.caches) m.iommu.unit.steps m.iommu.unit.done m.iommu.unit.caching;
      };
      calls = m.calls + 1;
    }
Becomes m (calls.Begin domain) (Reply.Ticket other number) t =
    (h : Domain) × (domain_at m.domains domain ≡ Some h) × (number ≡ h.begun + 1) × (other ≡ domain) × Begins m.iommu domain t.iommu
    × (t ≡ record (with_domain m domain (Some (begins h)) (record m { iommu = t.iommu })) {
      tickets = m.tickets ++ record { domain = domain; number = number; wait = t.iommu.sent } ∷ [];
    })
Becomes m calls.Unit (Stepped progress) t =
    t ≡ record m {
      iommu = record m.iommu {
        ring = after_first m.iommu.ring.waiting m.iommu.ring.status m.iommu.ring.taken;
        unit = unit_state (left_by_first m.iommu.ring.waiting m.iommu.unit.caches) (m.iommu.unit.steps + 1)
            (done_after m.iommu.ring.waiting m.iommu.unit.done) m.iommu.unit.caching;
      };
      calls = m.calls + 1;
    }
Becomes m (calls.Reap domain number) (Reaped released) t =
    (old : Domain) × (new : Domain) × (domain_at m.domains domain ≡ Some old)
    × Reaps m.pool old number t.pool new
    × (t ≡ record m {
      pool = t.pool;
      domains = slice_set m.domains (domain - 1) (Some new);
      tickets = filter (λ x. not (is_ticket domain number x)) m.tickets;
      calls = m.calls + 1;
    })
Becomes m call reply t = t ≡ record m { calls = m.calls + 1 }

-- ---- the methods' answers, as replies

abbrev pub made_reply : Result ℕ Refusal → Reply
made_reply (Ok d) = Made d
made_reply (Err r) = Refused r

abbrev pub done_reply : {U : Type 0} → Result U Refusal → Reply
done_reply (Ok u) = Done
done_reply (Err r) = Refused r

abbrev pub mapped_reply : Result ℕ Refusal → Reply
mapped_reply (Ok a) = Mapped a
mapped_reply (Err r) = Refused r

abbrev pub placed_reply : Result Placed Refusal → Reply
placed_reply (Ok placed) = Mapped placed.address
placed_reply (Err r) = Refused r

abbrev pub unmapped_reply : Result answer.Unmapped Refusal → Reply
unmapped_reply (Ok unmapped) = Unmapped (released_by unmapped)
unmapped_reply (Err r) = Refused r

abbrev pub flushed_reply : Result ℕ Refusal → Reply
flushed_reply (Ok n) = Flushed n
flushed_reply (Err r) = Refused r

abbrev pub begun_reply : ℕ → Result ℕ Refusal → Reply
begun_reply domain (Ok number) = Reply.Ticket domain number
begun_reply domain (Err r) = Refused r

-- `None` where the ticket's wait isn't done
abbrev pub reaped_reply : Result (Option ℕ) Refusal → Reply
reaped_reply (Ok (Some n)) = Reaped n
reaped_reply (Ok None) = Pending
reaped_reply (Err r) = Refused r

abbrev pub request_reply : Result (Result Hit Fault) Refusal → Reply
request_reply (Ok answer) = reached_reply (host_in answer)
request_reply (Err r) = Refused r
