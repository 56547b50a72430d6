-- What a report says of the state.
use Rattle.std.specs.Prelude.{ℕ, ◌+◌, ◌-◌, List, Option, None, Some, length, sum_by}
use Rattle.piece_tree.specs.declared.piece.PageState.{PageState}
use Rattle.piece_tree.specs.declared.piece.PageState.TheVariants.{Free, Live, Retired}
use Rattle.piece_tree.specs.declared.piece.Piece.{Piece}
use Rattle.engine.specs.declared.record.Record.{Record}
use Rattle.engine.specs.declared.state.totals.DomainTotals.{DomainTotals}
use Rattle.engine.specs.declared.state.totals.Totals.{Totals}
use Rattle.engine.specs.Domains.{Domain}
use Rattle.engine.specs.State.{State}

-- this number of pages, where they are live
abbrev pub live_as : PageState → ℕ → ℕ
live_as Free pages = 0
live_as Live pages = pages
live_as Retired pages = 0

abbrev pub live_in : Piece → ℕ
live_in p = live_as p.state (p.last + 1 - p.first)

-- how many pages of the pieces are live
abbrev pub live_pages : List Piece → ℕ
live_pages pieces = sum_by live_in pieces

-- how many table frames records hold
abbrev pub held_by : List Record → ℕ
held_by records = sum_by (λ (r : Record). length r.cut.frames) records

-- how many table frames the records of a domain that may be there hold, and those of all domains
abbrev pub held_by_any : Option Domain → ℕ
held_by_any None = 0
held_by_any (Some domain) = held_by domain.records

abbrev pub held_by_all : List (Option Domain) → ℕ
held_by_all domains = sum_by held_by_any domains

-- the table frames that are free, and that records hold; the others are used
abbrev pub totals_of : State → Totals
totals_of m = record {
  free = length m.pool.free;
  used = m.pool.frames - length m.pool.free - held_by_all m.domains;
  held = held_by_all m.domains;
  tickets = length m.tickets;
  pending = length m.iommu.ring.waiting;
}

abbrev pub totals_of_domain : Domain → DomainTotals
totals_of_domain domain = record {
  mode = domain.mode;
  live = live_pages domain.space.pieces;
  retired = length domain.records;
  pieces = length domain.space.pieces;
}

abbrev pub domain_totals_of : Option Domain → Option DomainTotals
domain_totals_of None = None
domain_totals_of (Some domain) = Some (totals_of_domain domain)
