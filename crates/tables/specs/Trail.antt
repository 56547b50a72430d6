-- In which order a call writes the words of a pool. A unit that walks them where they lie reads them as they are at each moment.
use Rattle.std.specs.Prelude.{◌≡◌, ◌⊎◌, ℕ, ◌+◌, ◌<◌, ◌≤◌, Some, List, [], ◌∷◌, ◌++◌}
use Rattle.tables.specs.declared.entries.TheConstants.{TABLE_ENTRIES}
use Rattle.dmatypes.specs.World.{Target}
use Rattle.vtdbits.specs.Translation.{target}
use Rattle.vtdbits.specs.declared.entry.SsEntry.TheVariants.{LargeLeaf, Leaf, Table}
use Rattle.tables.specs.Tree.{table_from, uses}
use Rattle.tables.specs.Pool.{Moment, Pool, memory, moment_of, occurs, word}

-- a word that states a leaf of 2 MiB names a table in its place, which isn't free and states each page as the leaf does
pub record IsNamed (m n : Moment) (frame index : ℕ) : Type 0 where
  pub leaf : Target
  pub table : ℕ
  pub was : memory m.words 2 frame index ≡ LargeLeaf leaf
  pub is : memory n.words 2 frame index ≡ Table table
  pub taken : occurs table n.free ≡ 0
  pub filled : (k : ℕ) → k < TABLE_ENTRIES → memory n.words 1 table k ≡ Leaf (target (leaf.frame + k) leaf.rights)

-- From one moment to another no frame comes free. Of a frame that isn't free each word stays, or is cleared, or names such a table
pub record GoesOn (m n : Moment) : Type 0 where
  pub fewer : (f : ℕ) → occurs f n.free ≤ occurs f m.free
  pub words : (f k : ℕ) → k < TABLE_ENTRIES → occurs f m.free ≡ 0
      → (word n.words f k ≡ word m.words f k) ⊎ ((word n.words f k ≡ 0) ⊎ IsNamed m n f k)

-- From one moment to another no frame comes free, and a word changes only where it was 0. So none changes twice
pub record FillsIn (m n : Moment) : Type 0 where
  pub fewer : (f : ℕ) → occurs f n.free ≤ occurs f m.free
  pub words : (f k : ℕ) → k < TABLE_ENTRIES → (word n.words f k ≡ word m.words f k) ⊎ (word m.words f k ≡ 0)

-- From one moment of a tree's end to another each word stays or is cleared, and no table comes free that the tree still has below its root.
-- A frame that wasn't the tree's keeps its words, and doesn't come free
pub record EndsOn (old : Pool) (level root : ℕ) (m n : Moment) : Type 0 where
  pub named : (page w table : ℕ) → w < level → table_from (memory m.words) level root page w ≡ Some table → occurs table n.free ≡ 0
  pub words : (f k : ℕ) → k < TABLE_ENTRIES → (word n.words f k ≡ word m.words f k) ⊎ (word n.words f k ≡ 0)
  pub others : (f k : ℕ) → k < TABLE_ENTRIES → uses (memory old.words) level root f ≡ 0 → word n.words f k ≡ word m.words f k
  pub fewer : (f : ℕ) → uses (memory old.words) level root f ≡ 0 → occurs f n.free ≤ occurs f m.free

-- no word changes, and no frame comes free
abbrev pub Rests : Moment → Moment → Type 0
Rests m n = (n.words ≡ m.words) × ((f : ℕ) → occurs f n.free ≤ occurs f m.free)

-- from one moment through these to a last one, by steps
unfoldable pub GoesThrough : (Moment → Moment → Type 0) → Moment → List Moment → Moment → Type 0
GoesThrough Step m [] last = Rests m last
GoesThrough Step m (next ∷ rest) last = Step m next × GoesThrough Step next rest last

-- the moments of a call, in the order in which it writes, each a step on from the one before
pub record WritesBySteps (old new : Pool) (Step : Moment → Moment → Type 0) : Type 0 where
  pub moments : List Moment
  pub trail : new.trail ≡ old.trail ++ moments
  pub through : GoesThrough Step (moment_of old) moments (moment_of new)

-- those of an unmap
abbrev pub WritesInOrder : Pool → Pool → Type 0
WritesInOrder old new = WritesBySteps old new GoesOn

-- those of a map
abbrev pub FillsInOrder : Pool → Pool → Type 0
FillsInOrder old new = WritesBySteps old new FillsIn

-- those of a tree's end
abbrev pub EndsInOrder : Pool → Pool → ℕ → ℕ → Type 0
EndsInOrder old new level root = WritesBySteps old new (EndsOn old level root)
