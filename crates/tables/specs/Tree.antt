-- Trees of tables, and walks through them. A memory gives the entry at a level, a table and an index. What the leaf on a page's way states
-- is the meaning of a tree. A root states pages of its tree's width alone: a walk for one beyond would read the entry of another.
use Rattle.std.specs.Prelude.{◌≡◌, ℕ, zero, suc, ◌+◌, ◌*◌, ◌/◌, ◌%◌, ◌<◌, ◌≤◌, Bool, false, ◌==◌, nat_lt, if◌then◌else◌, Option, Some, None}
use Rattle.tables.specs.declared.entries.TheConstants.{TABLE_ENTRIES}
use Rattle.dmatypes.specs.Page.{levels, pages_end}
use Rattle.dmatypes.specs.declared.width.Width.{Width}
use Rattle.dmatypes.specs.World.{Target}
use Rattle.vtdbits.specs.Translation.{target}
use Rattle.vtdbits.specs.declared.entry.SsEntry.{SsEntry}
use Rattle.vtdbits.specs.declared.entry.SsEntry.TheVariants.{Absent, Table, Leaf, LargeLeaf}

abbrev pub Memory : Type 0
Memory = ℕ → ℕ → ℕ → SsEntry

-- how many pages a table of the level covers, and an entry of the level above
unfoldable pub span : ℕ → ℕ
span zero = 1
span (suc l) = TABLE_ENTRIES * span l

-- the index of a page in a table whose entries cover tables of a level
abbrev pub index_in : ℕ → ℕ → ℕ
index_in l p = p / span l % TABLE_ENTRIES

-- ---- walks

-- a leaf that a walk met: the level of the tables that its entry could name, its frame and its rights
pub record LeafEntry : Type 0 where
  pub size : ℕ
  pub frame : ℕ
  pub rights : ℕ

abbrev pub leaf_of : SsEntry → ℕ → (ℕ → Option LeafEntry) → Option LeafEntry
leaf_of Absent l below = None
leaf_of (Table c) l below = below c
leaf_of (Leaf t) l below = Some (record { size = l; frame = t.frame; rights = t.rights })
leaf_of (LargeLeaf t) l below = Some (record { size = l; frame = t.frame; rights = t.rights })

abbrev pub table_of : SsEntry → (ℕ → Option ℕ) → Option ℕ
table_of Absent below = None
table_of (Table c) below = below c
table_of (Leaf t) below = None
table_of (LargeLeaf t) below = None

-- the leaf on a page's way from a table of the level
unfoldable pub leaf_from : Memory → ℕ → ℕ → ℕ → Option LeafEntry
leaf_from m zero t p = None
leaf_from m (suc l) t p = leaf_of (m (suc l) t (index_in l p)) l (λ c. leaf_from m l c p)

-- the table of the wanted level on that way
unfoldable pub table_from : Memory → ℕ → ℕ → ℕ → ℕ → Option ℕ
table_from m zero t p w = None
table_from m (suc l) t p w =
    if w == suc l then Some t else table_of (m (suc l) t (index_in l p)) (λ c. table_from m l c p w)

-- what a leaf states of a page
abbrev pub stated : ℕ → Option LeafEntry → Option Target
stated p None = None
stated p (Some x) = Some (target (x.frame + p % span x.size) x.rights)

-- what a table of the level states of a page
abbrev pub states : Memory → ℕ → ℕ → ℕ → Option Target
states m l t p = stated p (leaf_from m l t p)

-- what a root states of a page, by the levels of its width, and of pages of its width alone: the meaning of a tree
abbrev pub root_states : Memory → Width → ℕ → ℕ → Option Target
root_states m width root p = if nat_lt p (pages_end width) then states m (levels width) root p else None

-- a leaf that stands for more than one page
abbrev pub is_large_leaf : Option LeafEntry → Bool
is_large_leaf None = false
is_large_leaf (Some x) = nat_lt 0 x.size

-- the leaf entry of the pages from a first one on: in a table of level 1, or 512 pages in one of level 2
abbrev pub IsLeafAt : Memory → ℕ → ℕ → ℕ → ℕ → ℕ → ℕ → Type 0
IsLeafAt m l root first pages frame rights =
    (j : ℕ) × ((j < 2) × (pages ≡ span j) × (first % span j ≡ 0) × (first < span l)
    × ((p : ℕ) → first ≤ p → p < first + pages → leaf_from m l root p ≡ Some (record { size = j; frame = frame; rights = rights })))

-- the table entry of the pages from a first one on: it names the table of the level for all of them
abbrev pub IsTableAt : Memory → ℕ → ℕ → ℕ → ℕ → ℕ → Type 0
IsTableAt m l root first level frame =
    (0 < level) × (level < l) × (first % span level ≡ 0) × (first < span l)
    × ((p : ℕ) → first ≤ p → p < first + span level → table_from m l root p level ≡ Some frame)

-- ---- the frames of a tree

-- the sum of the first values of a function
unfoldable pub sum_below : (ℕ → ℕ) → ℕ → ℕ
sum_below g zero = 0
sum_below g (suc n) = sum_below g n + g n

-- 1 where the two frames are one, else 0
abbrev pub one_if_same : ℕ → ℕ → ℕ
one_if_same table frame = if table == frame then 1 else 0

-- how often an entry uses a frame
abbrev pub entry_uses : SsEntry → (ℕ → ℕ) → ℕ
entry_uses Absent below = 0
entry_uses (Table c) below = below c
entry_uses (Leaf t) below = 0
entry_uses (LargeLeaf t) below = 0

-- in how many places a tree has the frame as a table
unfoldable pub uses : Memory → ℕ → ℕ → ℕ → ℕ
uses m zero t f = 0
uses m (suc l) t f = one_if_same t f + sum_below (λ i. entry_uses (m (suc l) t i) (λ c. uses m l c f)) TABLE_ENTRIES
