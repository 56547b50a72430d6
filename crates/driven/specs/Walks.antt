-- Which words of table frames a call changes.
use Rattle.std.specs.Prelude.{◌≡◌, ◌≢◌, ◌⊎◌, ℕ, suc, ◌<◌, ◌≤◌, List, Some}
use Rattle.tables.specs.Tree.{index_in, table_from}
use Rattle.tables.specs.Pool.{memory}

-- the word lies on a page's way down a tree: at some level the way passes its frame, and reads the word at its index
abbrev pub IsOnWalk : List ℕ → ℕ → ℕ → ℕ → ℕ → ℕ → Type 0
IsOnWalk words level root page frame index =
    (l : ℕ) × (table_from (memory words) level root page (suc l) ≡ Some frame) × (index_in l page ≡ index)

-- it lies on the way of one of the pages from one up to another
abbrev pub IsOnWalks : List ℕ → ℕ → ℕ → ℕ → ℕ → ℕ → ℕ → Type 0
IsOnWalks words level root from to frame index =
    (page : ℕ) × ((from ≤ page) × (page < to) × IsOnWalk words level root page frame index)

-- the frame is a table of level 1 that came into the tree, or went out of it, on the way of one of these pages
abbrev pub IsExchanged : List ℕ → List ℕ → ℕ → ℕ → ℕ → ℕ → ℕ → Type 0
IsExchanged old new level root from to frame =
    (page : ℕ)
    × ((from ≤ page) × (page < to)
    × (table_from (memory old) level root page 1 ≢ table_from (memory new) level root page 1)
    × ((table_from (memory old) level root page 1 ≡ Some frame) ⊎ (table_from (memory new) level root page 1 ≡ Some frame)))
