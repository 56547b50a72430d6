-- What a walk meets, as the caches remember it.
use Rattle.std.specs.Prelude.{◌≡◌, ℕ, ◌+◌, ◌-◌, ◌%◌, ◌<◌, ◌&&◌, nat_le, nat_lt, Bool, Option, Some, None}
use Rattle.dmatypes.specs.World.{Target}
use Rattle.vtdbits.specs.Translation.{target}
use Rattle.tables.specs.Tree.{Memory, LeafEntry, span, table_from}
use Rattle.unit.specs.Caches.{CachedLeaf, CachedNonLeaf, leaf, non_leaf}

-- a number of pages from a first one on hold the page
abbrev pub hold : ℕ → ℕ → ℕ → Bool
hold first pages page = nat_le first page && nat_lt page (first + pages)

-- the leaf on a page's way, for all the pages that it stands for
abbrev pub met_leaf : ℕ → ℕ → LeafEntry → CachedLeaf
met_leaf domain page x = leaf domain (page - page % span x.size) (span x.size) x.frame x.rights

-- the table of a level on that way, for all the pages of its span
abbrev pub met_non_leaf : ℕ → ℕ → ℕ → ℕ → CachedNonLeaf
met_non_leaf domain page level frame = non_leaf domain (page - page % span level) (span level) level frame

abbrev pub met : ℕ → ℕ → Option LeafEntry → Option CachedLeaf
met domain page None = None
met domain page (Some x) = Some (met_leaf domain page x)

-- a table below the one of the level where a walk begins, on the page's way
abbrev pub IsPassed : Memory → ℕ → ℕ → ℕ → ℕ → CachedNonLeaf → Type 0
IsPassed m level table domain page i =
    (l : ℕ) × (f : ℕ) × (0 < l) × (l < level) × (table_from m level table page l ≡ Some f) × (i ≡ met_non_leaf domain page l f)

-- what a leaf states of a page
abbrev pub stated_by : ℕ → CachedLeaf → Target
stated_by page l = target (l.frame + (page - l.first)) l.rights
