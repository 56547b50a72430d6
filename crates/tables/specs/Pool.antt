-- A pool of table frames: its words, the frames that are free, how many frames it has, and the moments that it went through. A tree is
-- sound (`IsTree`) where each of its tables is used once and none is free. The free frames are zeroed (`IsPool`).
use Rattle.std.specs.Prelude.{◌≡◌, ℕ, ◌+◌, ◌*◌, ◌<◌, ◌≤◌, ◌==◌, List, length, slice_index, count_by}
use Rattle.dmatypes.specs.declared.limits.TheConstants.{MOST_TABLE_FRAMES}
use Rattle.tables.specs.declared.entries.TheConstants.{TABLE_ENTRIES}
use Rattle.vtdbits.specs.Entry.{look}
use Rattle.tables.specs.Tree.{Memory, uses}

-- the words and the free frames at one time
pub record Moment : Type 0 where
  pub words : List ℕ
  pub free : List ℕ

pub record Pool : Type 0 where
  pub words : List ℕ
  pub free : List ℕ
  pub frames : ℕ
  -- how it was after each write, and each time that a tree gave a table back: the first first
  pub trail : List Moment

-- how it is now
abbrev pub moment_of : Pool → Moment
moment_of pool = record { words = pool.words; free = pool.free }

-- the word of a table at an index
unfoldable pub word : List ℕ → ℕ → ℕ → ℕ
word words table index = slice_index words (table * TABLE_ENTRIES + index)

-- what a walk sees there in a table of a level
unfoldable pub memory : List ℕ → Memory
memory words level table index = look level (word words table index)

-- how often a list has the frame
abbrev pub occurs : ℕ → List ℕ → ℕ
occurs frame frames = count_by (λ x. x == frame) frames

-- every word of the frame is 0
abbrev pub IsZeroed : List ℕ → ℕ → Type 0
IsZeroed words frame = (k : ℕ) → k < TABLE_ENTRIES → word words frame k ≡ 0

-- the free frames are different frames of the pool, and zeroed
pub record IsPool (pool : Pool) : Type 0 where
  pub fit : length pool.words ≡ pool.frames * TABLE_ENTRIES
  pub few : pool.frames ≤ MOST_TABLE_FRAMES
  pub once : (f : ℕ) → occurs f pool.free ≤ 1
  pub within : (f : ℕ) → pool.frames ≤ f → occurs f pool.free ≡ 0
  pub zeroed : (f : ℕ) → 0 < occurs f pool.free → IsZeroed pool.words f

-- a table of the level whose tables are frames of the pool, each in one place and not free
pub record IsTree (pool : Pool) (level table : ℕ) : Type 0 where
  pub once : (f : ℕ) → uses (memory pool.words) level table f + occurs f pool.free ≤ 1
  pub within : (f : ℕ) → pool.frames ≤ f → uses (memory pool.words) level table f + occurs f pool.free ≡ 0

-- the words of both, but for one
abbrev pub IsWrite : List ℕ → List ℕ → ℕ → ℕ → ℕ → Type 0
IsWrite old new table index value =
    (word new table index ≡ value) × ((f k : ℕ) → k < TABLE_ENTRIES → (f ≡ table → k ≡ index → ⊥) → word new f k ≡ word old f k)

-- the words of both, but for a number of words of a table from an index on
abbrev pub KeepsOtherWords : List ℕ → List ℕ → ℕ → ℕ → ℕ → Type 0
KeepsOtherWords old new table from count =
    (f k : ℕ) → k < TABLE_ENTRIES → (f ≡ table → from ≤ k → k < from + count → ⊥) → word new f k ≡ word old f k
