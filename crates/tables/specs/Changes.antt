-- What a call on one tree changes in its pool. Pages go from a first one up to a last one that is no more
-- among them. A table is known by its place: its level, and a page on whose way it lies.
use Rattle.std.specs.Prelude.{◌≡◌, ℕ, ◌+◌, ◌*◌, ◌/◌, ◌<◌, ◌≤◌, ◌⊎◌, Bool, true, false, List, Option, Some, None, IsSome}
use Rattle.dmatypes.specs.declared.page.TheConstants.{SPAN_PAGES}
use Rattle.tables.specs.declared.entries.TheConstants.{TABLE_ENTRIES}
use Rattle.dmatypes.specs.World.{Target}
use Rattle.tables.specs.Tree.{LeafEntry, IsLeafAt, IsTableAt, span, leaf_from, table_from, states, uses}
use Rattle.tables.specs.Pool.{Pool, word, memory, occurs, IsZeroed, IsTree}
use Rattle.tables.specs.Spelled.{AreSpelled}

-- the page is not among those from one up to another
abbrev pub IsOutside : ℕ → ℕ → ℕ → Type 0
IsOutside from to p = (p < from) ⊎ (to ≤ p)

-- the page's span of a level has none of them
abbrev pub MeetsNone : ℕ → ℕ → ℕ → ℕ → Type 0
MeetsNone w from to p = (q : ℕ) → from ≤ q → q < to → p / span w ≡ q / span w → ⊥

-- the page's span of 512 pages is wholly among them
abbrev pub IsCovered : ℕ → ℕ → ℕ → Type 0
IsCovered from to p = (from ≤ SPAN_PAGES * (p / SPAN_PAGES)) × (SPAN_PAGES * (p / SPAN_PAGES) + SPAN_PAGES ≤ to)

-- free frames came into the tree, frames of the tree were cut from it, and no other frame changed
pub record TakesAndGivesFrames (old new : Pool) (level table : ℕ) (cut : List ℕ) : Type 0 where
  pub account : (f : ℕ) →
      uses (memory new.words) level table f + occurs f new.free + occurs f cut
      ≡ uses (memory old.words) level table f + occurs f old.free
  pub fewer : (f : ℕ) → occurs f new.free ≤ occurs f old.free
  pub others : (f k : ℕ) → k < TABLE_ENTRIES → uses (memory old.words) level table f + occurs f old.free ≡ 0
      → word new.words f k ≡ word old.words f k
  pub frames : new.frames ≡ old.frames

-- the pages from one up to another were mapped; the facts are of pages in one span of the table
pub record MapsPages (old new : Pool) (level table from to : ℕ) (says : ℕ → Option Target) : Type 0 where
  pub mapped : (p : ℕ) → from ≤ p → p < to → states (memory new.words) level table p ≡ says p
  -- every leaf entry stays
  pub elsewhere : (p : ℕ) → p / span level ≡ from / span level → IsOutside from to p
      → leaf_from (memory new.words) level table p ≡ leaf_from (memory old.words) level table p
  -- every table stays in its place
  pub tables : (p w c : ℕ) → table_from (memory old.words) level table p w ≡ Some c
      → table_from (memory new.words) level table p w ≡ Some c
  -- a new one was free
  pub taken : (p w c : ℕ) → table_from (memory new.words) level table p w ≡ Some c
      → (table_from (memory old.words) level table p w ≡ Some c) ⊎ (0 < occurs c old.free)
  -- and its span meets the pages
  pub clear : (p w : ℕ) → p / span level ≡ from / span level → MeetsNone w from to p
      → table_from (memory new.words) level table p w ≡ table_from (memory old.words) level table p w

-- where a map made tables: every span that meets the pages has its table, but one of level 1 where a test lets
-- a large leaf begin, which is as it was
pub record MakesTables (old new : Pool) (level table from to : ℕ) (large : ℕ → Bool) : Type 0 where
  pub made : (p w : ℕ) → from ≤ p → p < to → 1 ≤ w → w < level → (w ≡ 1 → large (p / SPAN_PAGES * SPAN_PAGES) ≡ false)
      → IsSome (table_from (memory new.words) level table p w)
  pub spared : (p : ℕ) → from ≤ p → p < to → 1 < level → large (p / SPAN_PAGES * SPAN_PAGES) ≡ true
      → table_from (memory new.words) level table p 1 ≡ table_from (memory old.words) level table p 1

-- the pages from one up to another were unmapped; the facts are of pages in one span of the table
pub record UnmapsPages (old new : Pool) (level table from to : ℕ) (cut : List ℕ) : Type 0 where
  pub gone : (p : ℕ) → from ≤ p → p < to → leaf_from (memory new.words) level table p ≡ None
  pub elsewhere : (p : ℕ) → p / span level ≡ from / span level → IsOutside from to p
      → states (memory new.words) level table p ≡ states (memory old.words) level table p
  -- a leaf entry stays that states none of the pages
  pub leaves : (p : ℕ) (x : LeafEntry) → p / span level ≡ from / span level
      → leaf_from (memory old.words) level table p ≡ Some x → MeetsNone x.size from to p
      → leaf_from (memory new.words) level table p ≡ Some x
  -- a table stays in its place, or was cut: it is of level 1 and the pages cover its span
  pub tables : (p w c : ℕ) → p / span level ≡ from / span level
      → table_from (memory old.words) level table p w ≡ Some c
      → (table_from (memory new.words) level table p w ≡ Some c)
      ⊎ ((w ≡ 1) × IsCovered from to p × (0 < occurs c cut))
  -- a new one, of a split, is of level 1 and was free
  pub taken : (p w c : ℕ) → p / span level ≡ from / span level
      → table_from (memory new.words) level table p w ≡ Some c
      → (table_from (memory old.words) level table p w ≡ Some c) ⊎ ((w ≡ 1) × (0 < occurs c old.free))
  -- and its span meets the pages
  pub clear : (p w : ℕ) → p / span level ≡ from / span level → MeetsNone w from to p
      → table_from (memory new.words) level table p w ≡ table_from (memory old.words) level table p w
  -- each table whose span they cover was cut
  pub covered : (p c : ℕ) → p / span level ≡ from / span level → IsCovered from to p
      → table_from (memory old.words) level table p 1 ≡ Some c → 0 < occurs c cut
  -- no other was, and what was cut is zeroed
  pub cut_only : (c : ℕ) → 0 < occurs c cut
      → (p : ℕ) × ((from ≤ p) × (p < to) × IsCovered from to p × (table_from (memory old.words) level table p 1 ≡ Some c))
  pub zeroed : (c : ℕ) → 0 < occurs c cut → IsZeroed new.words c

-- no frame of the second table is one of the first or free
abbrev pub IsApart : Pool → ℕ → ℕ → ℕ → ℕ → Type 0
IsApart pool level table level' table' =
    (f : ℕ) → 0 < uses (memory pool.words) level' table' f → uses (memory pool.words) level table f + occurs f pool.free ≡ 0

-- where the words of a table and of those below it spelled their entries, they do so still
abbrev pub KeepsSpellings : Pool → Pool → ℕ → ℕ → Type 0
KeepsSpellings old new level table = AreSpelled old.words level table → AreSpelled new.words level table

-- a table that has the same leaves, tables and frames in both
pub record TreeStays (old new : Pool) (level table : ℕ) : Type 0 where
  pub tree : IsTree new level table
  pub same_frames : (f : ℕ) → uses (memory new.words) level table f ≡ uses (memory old.words) level table f
  pub same_leaves : (p : ℕ) → leaf_from (memory new.words) level table p ≡ leaf_from (memory old.words) level table p
  pub same_tables : (p w : ℕ) → table_from (memory new.words) level table p w ≡ table_from (memory old.words) level table p w
  pub spelled : KeepsSpellings old new level table

-- the leaf entries of a tree stay
abbrev pub KeepsLeaves : Pool → Pool → ℕ → ℕ → Type 0
KeepsLeaves old new level root =
    (first pages frame rights : ℕ) → IsLeafAt (memory old.words) level root first pages frame rights
    → IsLeafAt (memory new.words) level root first pages frame rights

-- its tables stay
abbrev pub KeepsTables : Pool → Pool → ℕ → ℕ → Type 0
KeepsTables old new level root =
    (first height table : ℕ) → IsTableAt (memory old.words) level root first height table
    → IsTableAt (memory new.words) level root first height table

-- every tree that stands apart from it stays as it is
abbrev pub KeepsOthers : Pool → Pool → ℕ → ℕ → Type 0
KeepsOthers old new level root =
    (height table : ℕ) → IsTree old height table → IsApart old level root height table → TreeStays old new height table
