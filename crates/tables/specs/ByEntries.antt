-- How many tables are lacking where pages are to be mapped, counted entry by entry down the tree. The pages go from a first one up to
-- another, and a test says where a large leaf begins at a page. Where no page is mapped yet and all lie in one span of the tree,
-- `tables_lacking` is proved to be the same number.
use Rattle.std.specs.Prelude.{ℕ, zero, suc, ◌+◌, ◌*◌, Bool, ◌==◌, ◌&&◌, nat_lt, if◌then◌else◌}
use Rattle.tables.specs.declared.entries.TheConstants.{TABLE_ENTRIES}
use Rattle.vtdbits.specs.declared.entry.SsEntry.{SsEntry}
use Rattle.vtdbits.specs.declared.entry.SsEntry.TheVariants.{Absent, Table, Leaf, LargeLeaf}
use Rattle.tables.specs.Tree.{Memory, span, sum_below}

-- the span of a level that begins at a page has one of the pages
abbrev pub is_met : ℕ → ℕ → ℕ → ℕ → Bool
is_met level from to first = nat_lt from (first + span level) && nat_lt first to

-- an absent entry lacks the table of the level that it would name, but for one of level 1 where a large
-- leaf begins
abbrev pub own_lack : SsEntry → ℕ → Bool → ℕ
own_lack Absent level large = if (level == 1) && large then 0 else 1
own_lack (Table c) level large = 0
own_lack (Leaf t) level large = 0
own_lack (LargeLeaf t) level large = 0

-- an entry of the table that an entry names; where it names none, every entry would be absent
abbrev pub entry_below : SsEntry → (ℕ → SsEntry) → SsEntry
entry_below Absent row = Absent
entry_below (Table c) row = row c
entry_below (Leaf t) row = Absent
entry_below (LargeLeaf t) row = Absent

-- what an entry lacks whose span of the level begins at a page. It is nothing where the pages don't meet the span, else its own table of
-- the level, and what the 512 entries of that table lack
unfoldable pub entry_lacks : Memory → ℕ → SsEntry → (ℕ → Bool) → ℕ → ℕ → ℕ → ℕ
entry_lacks m zero e large from to first = 0
entry_lacks m (suc l) e large from to first =
    if is_met (suc l) from to first
    then own_lack e (suc l) (large first)
    + sum_below (λ i. entry_lacks m l (entry_below e (λ c. m (suc l) c i)) large from to (first + i * span l)) TABLE_ENTRIES
    else 0
