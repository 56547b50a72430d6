-- A change under one entry of a table.
use Rattle.std.specs.Prelude.{◌≡◌, ◌≢◌, ◌⊎◌, ℕ, suc, ◌+◌, ◌-◌, ◌/◌, ◌%◌, ◌<◌, ◌≤◌, Some, List, []}
use Rattle.dmatypes.specs.declared.page.TheConstants.{SPAN_PAGES}
use Rattle.tables.specs.declared.entries.TheConstants.{TABLE_ENTRIES}
use Rattle.dmatypes.specs.World.{Target}
use Rattle.vtdbits.specs.Translation.{target}
use Rattle.vtdbits.specs.declared.entry.SsEntry.TheVariants.{Table, Leaf, LargeLeaf}
use Rattle.tables.specs.Tree.{Memory, entry_uses, index_in, table_from, uses}
use Rattle.tables.specs.Pool.{Moment, Pool, word, memory, occurs}

-- what an entry of a table uses of a frame; l is the level below
abbrev pub used_by_entry : Memory → ℕ → ℕ → ℕ → ℕ → ℕ
used_by_entry m l t f i = entry_uses (m (suc l) t i) (λ c. uses m l c f)

-- the same in a table of the level
unfoldable pub used_at : Pool → ℕ → ℕ → ℕ → ℕ → ℕ
used_at pool level t f i = entry_uses (memory pool.words level t i) (λ c. uses (memory pool.words) (level - 1) c f)

-- only the entry at an index, what lies under it and free frames changed; l is the level below
pub record ChangesUnder (old new : Pool) (l t i : ℕ) (cut : List ℕ) : Type 0 where
  pub account : (f : ℕ) →
      used_by_entry (memory new.words) l t f i + occurs f new.free + occurs f cut
      ≡ used_by_entry (memory old.words) l t f i + occurs f old.free
  pub fewer : (f : ℕ) → occurs f new.free ≤ occurs f old.free
  pub others : (f k : ℕ) → k < TABLE_ENTRIES → f ≢ t → used_by_entry (memory old.words) l t f i + occurs f old.free ≡ 0
      → word new.words f k ≡ word old.words f k
  pub row : (k : ℕ) → k < TABLE_ENTRIES → k ≢ i → word new.words t k ≡ word old.words t k
  pub frames : new.frames ≡ old.frames

-- the large leaf of a page is spelled by a table of 512 leaves, in a frame that was free
pub record IsSplit (old new : Pool) (t i page c : ℕ) (x : Target) : Type 0 where
  pub under : ChangesUnder old new 1 t i []
  pub was : memory old.words 2 t i ≡ LargeLeaf x
  pub is : memory new.words 2 t i ≡ Table c
  pub spelled : (p : ℕ) → p / SPAN_PAGES ≡ page / SPAN_PAGES
      → memory new.words 1 c (p % SPAN_PAGES) ≡ Leaf (target (x.frame + p % SPAN_PAGES) x.rights)
  pub free : 0 < occurs c old.free

-- From one moment to another of the end of what lies under an entry each word stays or is cleared, and no table comes free that the entry
-- still leads to. The table's other words stay, as do those of a frame that didn't lie there, and it doesn't come free
pub record EndsUnder (old : Pool) (level t i : ℕ) (m n : Moment) : Type 0 where
  pub named : (page w table : ℕ) → index_in (level - 1) page ≡ i → w < level
      → table_from (memory m.words) level t page w ≡ Some table → occurs table n.free ≡ 0
  pub words : (f k : ℕ) → k < TABLE_ENTRIES → (word n.words f k ≡ word m.words f k) ⊎ (word n.words f k ≡ 0)
  pub row : (k : ℕ) → k < TABLE_ENTRIES → k ≢ i → word n.words t k ≡ word m.words t k
  pub others : (f k : ℕ) → k < TABLE_ENTRIES → f ≢ t → used_at old level t f i ≡ 0 → word n.words f k ≡ word m.words f k
  pub fewer : (f : ℕ) → used_at old level t f i ≡ 0 → occurs f n.free ≤ occurs f m.free
