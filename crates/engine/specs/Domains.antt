-- Domains, how one is found by its id, and what a call of a domain works on. A record has the range of an unmap, its mark, what the unmap
-- cut from the tree, and the number of the last wait that was sent when it was made.
use Rattle.std.specs.Prelude.{ℕ, ◌-◌, ◌<◌, ◌==◌, List, [], Option, None, slice_get, if◌then◌else◌, sum_by}
use Rattle.std.specs.Option.{option_flatten}
use Rattle.dmatypes.specs.declared.call.Mode.{Mode}
use Rattle.dmatypes.specs.World.{IsIn}
use Rattle.dmatypes.specs.Page.{pages_end}
use Rattle.dmatypes.specs.declared.width.Width.{Width}
use Rattle.iova.specs.Space.{Space, new_space}
use Rattle.tables.specs.Pool.{Pool, occurs}
use Rattle.engine.specs.declared.iommu.Iommu.{Iommu}
use Rattle.engine.specs.declared.record.Record.{Record}

-- a domain of the state: its mode, the number of flushes begun, the width of its addresses, the root of its tree, its address
-- space, and its retired
-- records. The world has a `Domain` too, the pages that are live and retired as a caller sees them: where a file speaks
-- of both, that one is `world.Domain`
pub record Domain : Type 0 where
  pub mode : Mode
  pub begun : ℕ
  pub width : Width
  pub root : ℕ
  pub space : Space
  pub records : List Record

-- a domain with no page, of an empty tree
abbrev pub new_domain : Mode → Width → ℕ → Domain
new_domain mode width root =
    record { mode = mode; begun = 0; width = width; root = root; space = new_space (pages_end width - 1); records = [] }

-- the domain of an id: domains 1 to 15 stand at places 0 to 14
abbrev pub domain_at : List (Option Domain) → ℕ → Option Domain
domain_at domains d = if d == 0 then None else option_flatten (slice_get domains (d - 1))

-- how often records hold a frame
abbrev pub held_in : List Record → ℕ → ℕ
held_in records f = sum_by (λ (r : Record). occurs f r.cut.frames) records

-- the record was made before the wait of this number was sent: by then its entries were cleared
abbrev pub IsMadeBefore : ℕ → Record → Type 0
IsMadeBefore number r = r.sent < number

abbrev pub AreMadeBefore : ℕ → List Record → Type 0
AreMadeBefore number records = (r : Record) → IsIn r records → IsMadeBefore number r

-- what a call of a domain works on: the table frames, the domain, and the IOMMU
pub record Operands : Type 0 where
  pub pool : Pool
  pub domain : Domain
  pub iommu : Iommu

abbrev pub operands_of : Pool → Domain → Iommu → Operands
operands_of pool domain iommu = record { pool = pool; domain = domain; iommu = iommu }
