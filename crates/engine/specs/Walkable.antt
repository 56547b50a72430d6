-- What whoever lays the tables out in a memory that a unit walks reads of the state.
use Rattle.std.specs.Prelude.{◌≡◌, ℕ, Option, None, Some, slice_get}
use Rattle.vtdbits.specs.Context.{Spells}
use Rattle.vtdbits.specs.declared.context.ContextEntry.{ContextEntry}
use Rattle.vtdbits.specs.declared.words.Words.{Words}
use Rattle.engine.specs.Domains.{Domain}
use Rattle.engine.specs.State.{State}
use Rattle.dmatypes.specs.Page.{levels}
use Rattle.tables.specs.Pool.{Pool, memory}
use Rattle.tables.specs.Tree.{table_from}

-- the root of a domain that may be there
abbrev pub root_of : Option Domain → Option ℕ
root_of None = None
root_of (Some domain) = Some domain.root

-- the table of a level on a page's way down its tree
abbrev pub table_at : Pool → Option Domain → ℕ → ℕ → Option ℕ
table_at pool None page level = None
table_at pool (Some domain) page level = table_from (memory pool.words) (levels domain.width) domain.root page level

-- the words spell the entry of the device in the row of contexts
abbrev pub SpellsContext : State → ℕ → Words → Type 0
SpellsContext m device words = (e : ContextEntry) × (slice_get m.iommu.contexts device ≡ Some e) × Spells words e
