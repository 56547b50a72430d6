-- What the words of a tree spell.
use Rattle.std.specs.Prelude.{◌≡◌, ℕ, zero, suc, ◌<◌, List}
use Rattle.tables.specs.declared.entries.TheConstants.{TABLE_ENTRIES}
use Rattle.vtdbits.specs.Entry.{Spells}
use Rattle.vtdbits.specs.declared.entry.SsEntry.TheVariants.{Table}
use Rattle.tables.specs.Pool.{word, memory}

-- each word of a table of the level spells the entry that a walk sees there, so that it is 0 where there is none. So does each word of
-- the tables that these name
unfoldable pub AreSpelled : List ℕ → ℕ → ℕ → Type 0
AreSpelled words zero table = Unit {0}
AreSpelled words (suc l) table = (k : ℕ) → k < TABLE_ENTRIES
    → Spells (suc l) (word words table k) (memory words (suc l) table k)
    × ((c : ℕ) → memory words (suc l) table k ≡ Table c → AreSpelled words l c)
