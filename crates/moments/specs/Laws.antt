-- The law of moments: what a walk finds while the words of a call reach memory.
use Rattle.std.specs.Prelude.{◌≡◌, ◌⊎◌, ℕ, ◌<◌, List, Option, None, Some, IsSome}
use Rattle.dmatypes.specs.Page.{IsWithin, Range, levels, pages_end}
use Rattle.dmatypes.specs.World.{Target}
use Rattle.dmatypes.specs.declared.width.Width.{Width}
use Rattle.vtdbits.specs.declared.entry.SsEntry.TheVariants.{LargeLeaf, Table}
use Rattle.tables.specs.Tree.{index_in, leaf_from, root_states, table_from}
use Rattle.tables.specs.Pool.{IsTree, Pool, memory}
use Rattle.tables.specs.Trail.{FillsInOrder, WritesInOrder}
use Rattle.tables.specs.Changes.{IsApart, TakesAndGivesFrames}
use Rattle.tables.specs.Spelled.{AreSpelled}
use Rattle.moments.specs.Moments.{FillsFirst, IsOldOrNewIn, GoesDown, IsDestroyed, IsFilledFirst, IsMap, IsOldOrAbsent}
use Rattle.moments.specs.Moments.{IsOldOrNew, IsSingle, IsUnmap, Place}
use Rattle.moments.specs.Moments.{Reached, ReadsSpelled, in_place, meanwhile, reached_by}

-- Whatever words of a map have reached memory when a walk reads them, each level at its own moment, each page is found as before the
-- map or as after it. No order is asked of the words.
abbrev pub MapsAreOldOrNew : Type 0
MapsAreOldOrNew =
    (old new : Pool) (width : Width) (root : ℕ) (range : Range) (says : ℕ → Option Target) (reached : Reached) (page : ℕ)
    → IsMap old new width root range says
    → IsOldOrNew old.words new.words reached width root page

-- Whatever words of an unmap have reached memory when a walk reads them, each level at its own moment, each page is found as before the
-- unmap or as after it. That asks only that a table that takes the place of a leaf of 2 MiB is written before the word that names it.
abbrev pub UnmapsAreOldOrNew : Type 0
UnmapsAreOldOrNew =
    (old new : Pool) (width : Width) (root : ℕ) (range : Range) (cut : List ℕ) (reached : Reached) (page : ℕ)
    → IsUnmap old new width root range cut
    → IsFilledFirst old.words new.words reached
    → IsOldOrNew old.words new.words reached width root page

-- A walk that reads the words where they lie while a map writes them, each level at a moment of its own, finds each page as before the
-- map or as after it. The order in which it writes is that of `Tree`'s maps. No order is asked of the moments: a level may be read sooner
-- than the level above.
abbrev pub MapsInPlaceAreOldOrNew : Type 0
MapsInPlaceAreOldOrNew =
    (old new : Pool) (order : FillsInOrder old new) (width : Width) (root : ℕ) (range : Range) (says : ℕ → Option Target)
    (moment : ℕ → ℕ) (page : ℕ)
    → IsMap old new width root range says
    → IsOldOrNewIn old.words new.words (in_place old.words order.moments moment) width root page

-- A walk that reads the words where they lie while an unmap writes them, each level at a moment no sooner than that of the level above,
-- finds each page as before the unmap or as after it. The order in which it writes is `Tree::unmap`'s.
abbrev pub UnmapsInPlaceAreOldOrNew : Type 0
UnmapsInPlaceAreOldOrNew =
    (old new : Pool) (order : WritesInOrder old new) (width : Width) (root : ℕ) (moment : ℕ → ℕ) (page : ℕ)
    → IsTree old (levels width) root
    → AreSpelled old.words (levels width) root
    → GoesDown moment
    → (root_states (in_place old.words order.moments moment) width root page ≡ root_states (memory old.words) width root page)
    ⊎ (root_states (in_place old.words order.moments moment) width root page ≡ root_states (memory new.words) width root page)

-- The leaf that it meets, which may be cached, is met before the unmap or after it. Or it is one of a single page in a table that took the
-- place of a leaf of 2 MiB, and states the page as that does: before the unmap there is no such leaf, and after it there may be none.
abbrev pub LeavesInPlaceAreOldOrNewOrSingle : Type 0
LeavesInPlaceAreOldOrNewOrSingle =
    (old new : Pool) (order : WritesInOrder old new) (width : Width) (root : ℕ) (moment : ℕ → ℕ) (page : ℕ)
    → IsTree old (levels width) root
    → AreSpelled old.words (levels width) root
    → GoesDown moment
    → (leaf_from (in_place old.words order.moments moment) (levels width) root page ≡ leaf_from (memory old.words) (levels width) root page)
    ⊎ ((leaf_from (in_place old.words order.moments moment) (levels width) root page
    ≡ leaf_from (memory new.words) (levels width) root page)
    ⊎ IsSingle page (leaf_from (in_place old.words order.moments moment) (levels width) root page)
    (leaf_from (memory old.words) (levels width) root page))

-- Say that the words of the tree spell its entries before the call and after it, as they do in every tree of a state. Then each word
-- that a walk reads meanwhile spells what the walk sees there. So a unit that reads more into words than entries finds no more by it.
abbrev pub WordsReadAreSpelled : Type 0
WordsReadAreSpelled =
    (old new : Pool) (width : Width) (root : ℕ) (range : Range) (says : ℕ → Option Target) (cut : List ℕ) (reached : Reached) (page : ℕ)
    → IsMap old new width root range says ⊎ IsUnmap old new width root range cut
    → AreSpelled old.words (levels width) root
    → AreSpelled new.words (levels width) root
    → page < pages_end width
    → ReadsSpelled old.words new.words reached width root page

-- Words that are written one after the other, in any order in which such a table stands before the word that names it, are read so by
-- every walk that goes down.
abbrev pub OneOrderSuffices : Type 0
OneOrderSuffices =
    (old new : List ℕ) (order : List Place) (moment : ℕ → ℕ)
    → FillsFirst old new order
    → GoesDown moment
    → IsFilledFirst old new (reached_by order moment)

-- And this one order matters. Say that a table took the place of a leaf of 2 MiB, and the word that names it reaches memory before the
-- words of the table. Then a walk finds nothing at a page of that leaf, though it was there before the unmap. Where the page isn't of
-- the range, it is there after the unmap too.
abbrev pub OneOrderMatters : Type 0
OneOrderMatters =
    (old new : Pool) (width : Width) (root : ℕ) (range : Range) (cut : List ℕ) (table below page : ℕ) (leaf : Target)
    → IsUnmap old new width root range cut
    → page < pages_end width
    → table_from (memory old.words) (levels width) root page 2 ≡ Some table
    → memory old.words 2 table (index_in 1 page) ≡ LargeLeaf leaf
    → memory new.words 2 table (index_in 1 page) ≡ Table below
    → (IsWithin range page → ⊥)
    → (reached : Reached) × (root_states (meanwhile old.words new.words reached) width root page ≡ None)
    × IsSome (root_states (memory old.words) width root page)
    × IsSome (root_states (memory new.words) width root page)

-- Whatever words of a tree's end have reached memory, each page of the tree is found as before it or not at all.
abbrev pub DestroysAreOldOrAbsent : Type 0
DestroysAreOldOrAbsent =
    (old new : Pool) (width : Width) (root : ℕ) (reached : Reached) (page : ℕ)
    → IsDestroyed old new width root
    → IsOldOrAbsent old.words new.words reached width root page

-- Meanwhile the pages of every tree that stands apart are found as ever.
abbrev pub OthersAreSteady : Type 0
OthersAreSteady =
    (old new : Pool) (width other : Width) (root root' : ℕ) (cut : List ℕ) (reached : Reached) (page : ℕ)
    → TakesAndGivesFrames old new (levels width) root cut
    → IsApart old (levels width) root (levels other) root'
    → root_states (meanwhile old.words new.words reached) other root' page ≡ root_states (memory old.words) other root' page
