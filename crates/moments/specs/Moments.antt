-- The memory that a walk reads while the words of one call reach it. A walk reads one word in a table of each level, each at a moment of
-- its own.
use Rattle.std.specs.Prelude.{◌≡◌, ◌⊎◌, ℕ, zero, suc, ◌+◌, ◌%◌, ◌<◌, ◌≤◌, ◌==◌, ◌&&◌, ◌||◌, Bool, true, false, if◌then◌else◌, List, []}
use Rattle.std.specs.Prelude.{◌∷◌, take, Option, None, Some}
use Rattle.dmatypes.specs.Page.{IsWithin, Range, levels, pages_end}
use Rattle.dmatypes.specs.World.{Target}
use Rattle.dmatypes.specs.declared.page.TheConstants.{SPAN_PAGES}
use Rattle.dmatypes.specs.declared.width.Width.{Width}
use Rattle.vtdbits.specs.Entry.{Spells, look}
use Rattle.vtdbits.specs.declared.entry.SsEntry.TheVariants.{LargeLeaf, Table}
use Rattle.tables.specs.declared.entries.TheConstants.{TABLE_ENTRIES}
use Rattle.tables.specs.Tree.{LeafEntry, Memory, index_in, leaf_from, root_states, states, table_from, uses}
use Rattle.tables.specs.Pool.{IsZeroed, Moment, Pool, memory, occurs, word}
use Rattle.tables.specs.Changes.{MapsPages, UnmapsPages}

-- ---- the calls, as their contracts promise them

-- every free frame is zeroed
abbrev pub AreFreeZeroed : Pool → Type 0
AreFreeZeroed pool = (f : ℕ) → 0 < occurs f pool.free → IsZeroed pool.words f

-- the range has a page, and all of its pages are below the end of the width
abbrev pub IsBelowEnd : Range → Width → Type 0
IsBelowEnd range width = (1 ≤ range.pages) × (range.first + range.pages ≤ pages_end width)

-- a tree of this width was made to map the range, whose pages were absent, as the function says
pub record IsMap (old new : Pool) (width : Width) (root : ℕ) (range : Range) (says : ℕ → Option Target) : Type 0 where
  pub zeroed : AreFreeZeroed old
  pub below : IsBelowEnd range width
  pub absent : (p : ℕ) → IsWithin range p → states (memory old.words) (levels width) root p ≡ None
  pub maps : MapsPages old new (levels width) root range.first (range.first + range.pages) says

-- a tree of this width maps the range no more; these table frames were cut from it
pub record IsUnmap (old new : Pool) (width : Width) (root : ℕ) (range : Range) (cut : List ℕ) : Type 0 where
  pub zeroed : AreFreeZeroed old
  pub below : IsBelowEnd range width
  pub unmaps : UnmapsPages old new (levels width) root range.first (range.first + range.pages) cut

-- a tree was destroyed: all its frames are free, and every free frame is zeroed
pub record IsDestroyed (old new : Pool) (width : Width) (root : ℕ) : Type 0 where
  pub free : (f : ℕ) → occurs f new.free ≡ occurs f old.free + uses (memory old.words) (levels width) root f
  pub zeroed : AreFreeZeroed new

-- ---- what a walk reads

-- which words of a call have reached memory when a walk reads them: those of which the test holds, at the level at which it reads, by
-- the table frame and the index. A level's words may have reached memory that another level's reading missed, since the walk reads each
-- level at a moment of its own. Where it begins at a cached table, the levels above were read when that was cached
abbrev pub Reached : Type 0
Reached = ℕ → ℕ → ℕ → Bool

-- the word that the walk reads: that of after the call where it has reached memory, else that of before the call
abbrev pub word_read : List ℕ → List ℕ → Reached → ℕ → ℕ → ℕ → ℕ
word_read old new reached level table index = if reached level table index then word new table index else word old table index

-- what the walk sees there
unfoldable pub meanwhile : List ℕ → List ℕ → Reached → Memory
meanwhile old new reached level table index = look level (word_read old new reached level table index)

-- a table that takes the place of a leaf of 2 MiB is written before the word that names it. Where that word has reached memory when the
-- walk reads it, so has each word of the table that isn't as before when the walk reads that
abbrev pub IsFilledFirst : List ℕ → List ℕ → Reached → Type 0
IsFilledFirst old new reached =
    (table index below k : ℕ) (leaf : Target) → index < TABLE_ENTRIES → k < TABLE_ENTRIES
    → memory old 2 table index ≡ LargeLeaf leaf → memory new 2 table index ≡ Table below
    → reached 2 table index ≡ true
    → (reached 1 below k ≡ true) ⊎ (word new below k ≡ word old below k)

-- ---- what it finds

-- a walk for a page that reads this memory while a call is written
pub record IsOldOrNewIn (old new : List ℕ) (now : Memory) (width : Width) (root page : ℕ) : Type 0 where
  -- it finds the page as before the call or as after it
  pub found : (root_states now width root page ≡ root_states (memory old) width root page)
      ⊎ (root_states now width root page ≡ root_states (memory new) width root page)
  -- the leaf that it meets, which may be cached, is met before the call or after it
  pub leaf : page < pages_end width
      → (leaf_from now (levels width) root page ≡ leaf_from (memory old) (levels width) root page)
      ⊎ (leaf_from now (levels width) root page ≡ leaf_from (memory new) (levels width) root page)
  -- each table that it passes, which may be cached, is passed before the call or after it
  pub tables : (level table : ℕ) → page < pages_end width
      → table_from now (levels width) root page level ≡ Some table
      → (table_from (memory old) (levels width) root page level ≡ Some table)
      ⊎ (table_from (memory new) (levels width) root page level ≡ Some table)

-- one that reads what has reached memory
abbrev pub IsOldOrNew : List ℕ → List ℕ → Reached → Width → ℕ → ℕ → Type 0
IsOldOrNew old new reached width root page = IsOldOrNewIn old new (meanwhile old new reached) width root page

-- it finds the page as before the call, or not at all
abbrev pub IsOldOrAbsent : List ℕ → List ℕ → Reached → Width → ℕ → ℕ → Type 0
IsOldOrAbsent old new reached width root page =
    (root_states (meanwhile old new reached) width root page ≡ root_states (memory old) width root page)
    ⊎ (root_states (meanwhile old new reached) width root page ≡ None)

-- every word that it reads in the tables that it passes spells what it sees there, so that the word is 0 where nothing is
abbrev pub ReadsSpelled : List ℕ → List ℕ → Reached → Width → ℕ → ℕ → Type 0
ReadsSpelled old new reached width root page =
    (l table : ℕ) → table_from (meanwhile old new reached) (levels width) root page (suc l) ≡ Some table
    → Spells (suc l) (word_read old new reached (suc l) table (index_in l page))
    (meanwhile old new reached (suc l) table (index_in l page))

-- where a leaf of 2 MiB was met before the call, one of a single page is met that states the page as it does
abbrev pub IsSingle : ℕ → Option LeafEntry → Option LeafEntry → Type 0
IsSingle page seen was =
    (leaf : Target)
    × (seen ≡ Some (record { size = 0; frame = leaf.frame + page % SPAN_PAGES; rights = leaf.rights }))
    × (was ≡ Some (record { size = 1; frame = leaf.frame; rights = leaf.rights }))

-- ---- words that are written one after the other

-- the place of a word
pub record Place : Type 0 where
  pub frame : ℕ
  pub index : ℕ

-- the word at the place is one of those that were written
abbrev pub is_written : List Place → ℕ → ℕ → Bool
is_written [] frame index = false
is_written (w ∷ ws) frame index = ((frame == w.frame) && (index == w.index)) || is_written ws frame index

-- what has reached memory where a walk reads each level when so many of the words were written
abbrev pub reached_by : List Place → (ℕ → ℕ) → Reached
reached_by order moment level frame index = is_written (take (moment level) order) frame index

-- a walk reads each level no sooner than the level above
abbrev pub GoesDown : (ℕ → ℕ) → Type 0
GoesDown moment = (l : ℕ) → moment (suc l) ≤ moment l

-- however many of the words were written, those of a table that takes the place of a leaf of 2 MiB come before the word that names it.
-- Where that word is among them, so is each word of that table that isn't as before
abbrev pub FillsFirst : List ℕ → List ℕ → List Place → Type 0
FillsFirst old new order =
    (written table index below k : ℕ) (leaf : Target) → index < TABLE_ENTRIES → k < TABLE_ENTRIES
    → memory old 2 table index ≡ LargeLeaf leaf → memory new 2 table index ≡ Table below
    → is_written (take written order) table index ≡ true
    → (is_written (take written order) below k ≡ true) ⊎ (word new below k ≡ word old below k)

-- ---- words that a walk reads where they lie

-- the words after so many of the moments, and after all of them for any greater number
unfoldable pub words_at : List ℕ → List Moment → ℕ → List ℕ
words_at words [] n = words
words_at words (m ∷ ms) zero = words
words_at words (m ∷ ms) (suc n) = words_at m.words ms n

-- what a walk sees there that reads each level after so many of them
unfoldable pub in_place : List ℕ → List Moment → (ℕ → ℕ) → Memory
in_place words moments moment level table index = look level (word (words_at words moments (moment level)) table index)
