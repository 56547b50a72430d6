-- The world that a checker has come to.
use Rattle.std.specs.Prelude.{◌≡◌, ℕ, ◌+◌, ◌%◌, ◌^◌, Bool, ◌&&◌, nat_lt, map}
use Rattle.std.specs.Prelude.{Option}
use Rattle.std.specs.BTreeMap as tree
use Rattle.std.specs.BTreeMap.{BTreeMap}
use Rattle.std.specs.List.{list_any}
use Rattle.std.specs.Option.{option_map}
use Rattle.std.specs.Ordering.{nat_cmp}
use Rattle.dmatypes.specs.World as world
use Rattle.dmatypes.specs.World.{AreFreePages, Retired, World}
use Rattle.dmatypes.specs.Page.{Range}
use Rattle.checker.specs.declared.domain.Domain.{Domain}
use Rattle.checker.specs.declared.checker.Checker.{Checker}
use Rattle.checker.specs.declared.record.Record.{Record}
use Rattle.checker.specs.Pages.{target_at}
use Rattle.checker.specs.Taken.{taken_at}

abbrev pub retired_of : Record → Retired
retired_of r = record { range = r.range; targets = taken_at r.targets; mark = r.mark }

abbrev pub domain_of : Domain → world.Domain
domain_of d =
    record { mode = d.mode; width = d.width; live = target_at d.live; retired = map retired_of d.retired.items; begun = d.begun }

-- the ranges have a page number in common
abbrev pub do_meet : Range → Range → Bool
do_meet a b = nat_lt 0 a.pages && nat_lt 0 b.pages && nat_lt a.first (b.first + b.pages) && nat_lt b.first (a.first + a.pages)

-- this many pages from a multiple of 2 ^ order on are free
abbrev pub IsFreeRangeAt : world.Domain → ℕ → ℕ → ℕ → Type 0
IsFreeRangeAt v pages order s = (s % 2 ^ order ≡ 0) × AreFreePages v (record { first = s; pages = pages })

abbrev pub HasFreeRange : world.Domain → ℕ → ℕ → Type 0
HasFreeRange v pages order = (s : ℕ) × IsFreeRangeAt v pages order s

-- a record of the domain has a page number in common with the range
abbrev pub meets_some : Domain → Range → Bool
meets_some d r = list_any (λ x. do_meet x.range r) d.retired.items

-- the domains by id
abbrev pub domains_of : BTreeMap ℕ Domain → ℕ → Option world.Domain
domains_of m id = option_map domain_of (tree.get nat_cmp m id)

abbrev pub world_of : Checker → World
world_of r = record {
  table_frames = r.table_frames;
  domains = domains_of r.domains;
  devices = tree.get nat_cmp r.devices;
  tickets = r.tickets.items;
}
