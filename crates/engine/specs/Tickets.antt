-- Tickets: flushes that were begun, how far each is, and what the unit has forgotten by then. A begun flush puts its ticket after the
-- others (`Becomes`), so they stand in the order in which they were begun.
use Rattle.std.specs.Prelude.{◌≡◌, ℕ, ◌+◌, ◌<◌, ◌≤◌, List, [], ◌∷◌, ◌++◌, length, map, Option, Some}
use Rattle.dmatypes.specs.Page.{IsWithin}
use Rattle.dmatypes.specs.World.{IsIn}
use Rattle.dmatypes.specs.declared.limits.TheConstants.{MOST_TICKETS}
use Rattle.tables.specs.Pool.{occurs}
use Rattle.unit.specs.Caches.{Caches, CachedLeaf, CachedNonLeaf}
use Rattle.vtdbits.specs.declared.descriptor.Descriptor.{Descriptor}
use Rattle.vtdbits.specs.declared.descriptor.Descriptor.TheVariants.{IotlbDomain, Wait}
use Rattle.engine.specs.declared.iommu.Iommu.{Iommu}
use Rattle.engine.specs.declared.record.Record.{Record}
use Rattle.engine.specs.declared.ticket.Ticket.{Ticket}
use Rattle.engine.specs.Ending.{status_of}
use Rattle.engine.specs.Domains.{Domain, domain_at}
use Rattle.engine.specs.State.{State}

-- ---- what waits

-- the wait of a ticket, and those of several
abbrev pub wait_of : Ticket → Descriptor
wait_of t = Wait (status_of t.wait)

abbrev pub waits_of : List Ticket → List Descriptor
waits_of ts = map wait_of ts

-- the descriptor and the wait of each of them
unfoldable pub pairs_of : List Ticket → List Descriptor
pairs_of [] = []
pairs_of (t ∷ ts) = IotlbDomain t.domain ∷ wait_of t ∷ pairs_of ts

-- their waits are the numbers after the first up to the last, one after the other
unfoldable pub Follow : ℕ → List Ticket → ℕ → Type 0
Follow first [] last = first ≡ last
Follow first (t ∷ ts) last = (t.wait ≡ first + 1) × Follow (first + 1) ts last

-- ---- what is forgotten

-- no cached leaf of the domain has a page of the record, and no cached table of it is one that was cut with it
pub record IsForgotten (c : Caches) (domain : ℕ) (r : Record) : Type 0 where
  pub leaves : (l : CachedLeaf) → IsIn l c.leaves → l.domain ≡ domain → (p : ℕ) → l.first ≤ p → p < l.first + l.pages
      → IsWithin r.range p → ⊥
  pub tables : (i : CachedNonLeaf) → IsIn i c.non_leaves → i.domain ≡ domain → occurs i.frame r.cut.frames ≡ 0

-- each record of the ticket's domain that was there when its flush was begun is forgotten
abbrev pub IsClearIn : List (Option Domain) → Caches → Ticket → Type 0
IsClearIn domains c t =
    (h : Domain) → domain_at domains t.domain ≡ Some h → (r : Record) → IsIn r h.records → r.mark < t.number
    → IsForgotten c t.domain r

abbrev pub IsClear : State → Ticket → Type 0
IsClear m t = IsClearIn m.domains m.iommu.unit.caches t

-- the ticket's domain is there, and began as many flushes
abbrev pub IsBegunIn : List (Option Domain) → Ticket → Type 0
IsBegunIn domains t = (h : Domain) × (domain_at domains t.domain ≡ Some h) × (t.number ≤ h.begun)

abbrev pub IsBegun : State → Ticket → Type 0
IsBegun m t = IsBegunIn m.domains t

-- no two are of one domain and number
unfoldable pub AreDifferent : List Ticket → Type 0
AreDifferent [] = Unit {0}
AreDifferent (t ∷ ts) = ((u : Ticket) → IsIn u ts → u.domain ≡ t.domain → u.number ≡ t.number → ⊥) × AreDifferent ts

-- ---- what the type of a state keeps

-- the waits of some tickets are done, the descriptor of at most one more was taken, and those of the others wait, each with
-- its wait after it; nothing else waits. The waits that aren't done are the last ones sent. Whatever was there when a
-- flush was begun is forgotten once its descriptor was taken
pub record AreKept (tickets : List Ticket) (domains : List (Option Domain)) (x : Iommu) : Type 0 where
  pub done : List Ticket
  pub half : List Ticket
  pub ahead : List Ticket
  pub reached : ℕ
  pub split : tickets ≡ done ++ (half ++ ahead)
  pub one : length half ≤ 1
  pub ring : x.ring.waiting ≡ waits_of half ++ pairs_of ahead
  pub status : x.ring.status ≡ status_of reached
  pub sent : Follow reached (half ++ ahead) x.sent
  pub past : (t : Ticket) → IsIn t done → t.wait ≤ reached
  pub clear : (t : Ticket) → IsIn t (done ++ half) → IsClearIn domains x.unit.caches t
  pub different : AreDifferent tickets
  pub begun : (t : Ticket) → IsIn t tickets → IsBegunIn domains t
  pub few : length tickets ≤ MOST_TICKETS

abbrev pub KeepsTickets : State → Type 0
KeepsTickets m = AreKept m.tickets m.domains m.iommu
