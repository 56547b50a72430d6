use Rattle.std.proofs.Common.{◌≡◌, ℕ, ◌+◌, ◌-◌, ◌/◌, ◌<◌, ◌≤◌, ◌++◌, List, length, Some}
use Rattle.std.specs.List.{All}
use Rattle.tables.specs.declared.entries.TheConstants.{TABLE_ENTRIES}
use Rattle.tables.specs.Tree.{index_in}
use Rattle.engine.specs.Domains.{domain_at}
use Rattle.engine.specs.Walkable.{table_at}
use Rattle.driven.specs.Effects.{IsBrought, IsForTables}
use Rattle.driven.specs.Telling.{IsTableOnWays}
use Rattle.driven.specs.declared.effect.Effect.{Effect}
use Rattle.driven.proofs.telling.bring_level.Given as goal

-- the words in the tables so far are told, and no word of another table
abbrev pub invariant-loop-table : goal.invariant-loop-table
invariant-loop-table l =
    (more : List Effect) × ((l.effects.items ≡ l.initial.effects.items ++ more)
    × (length more + l.low / TABLE_ENTRIES ≤ l.table)
    × All IsForTables more
    × ((p f : ℕ) → l.first ≤ p → p ≤ l.last → p / l.width / TABLE_ENTRIES < l.table
    → table_at l.state.pool (domain_at l.state.domains l.domain) p l.level ≡ Some f → IsBrought more f (index_in (l.level - 1) p))
    × ((f k : ℕ) → k < TABLE_ENTRIES → IsBrought more f k
    → IsTableOnWays l.state.pool (domain_at l.state.domains l.domain) l.level l.first (l.last + 1) f))
