-- Extents: pages in one span of 512, with what they are mapped to or with what became of them.
use Rattle.std.specs.Prelude.{◌≡◌, ℕ, ◌+◌, ◌-◌, ◌%◌, ◌<◌, ◌≤◌, Bool, true, false, ◌==◌, ◌&&◌, nat_le, if◌then◌else◌, Option, Some, List, []}
use Rattle.std.specs.Prelude.{◌∷◌}
use Rattle.dmatypes.specs.declared.page.TheConstants.{SPAN_PAGES}
use Rattle.tables.specs.declared.entries.TheConstants.{TABLE_ENTRIES}
use Rattle.dmatypes.specs.Rights.{bits_of}
use Rattle.dmatypes.specs.World.{Target}
use Rattle.vtdbits.specs.Translation.{target}
use Rattle.vtdbits.specs.declared.entry.SsEntry.{SsEntry}
use Rattle.vtdbits.specs.declared.entry.SsEntry.TheVariants.{Leaf}
use Rattle.tables.specs.declared.extent.Extent.{Extent}
use Rattle.tables.specs.declared.unmapping.Cleared.{Cleared}
use Rattle.tables.specs.declared.unmapping.Cleared.TheVariants.{Words, Split, Table}
use Rattle.tables.specs.Tree.{Memory, leaf_from, is_large_leaf}
use Rattle.tables.specs.Pool.{word, memory}

-- what an extent is to state of a page
abbrev pub extent_states : Extent → ℕ → Option Target
extent_states x p = Some (target (x.frame + (p - x.from)) (bits_of x.rights))

-- its leaf of one page
abbrev pub leaf_at : Extent → ℕ → SsEntry
leaf_at x p = Leaf (target (x.frame + (p - x.from)) (bits_of x.rights))

-- it can be one leaf of 512 pages
abbrev pub is_large : Extent → Bool
is_large x = (x.from % SPAN_PAGES == 0) && (x.to - x.from == SPAN_PAGES) && (x.frame % SPAN_PAGES == 0)

-- in a table of level 1 the entries of these pages were written, and no other word changed
pub record WritesEntries (old new : List ℕ) (table from to : ℕ) (entry : ℕ → SsEntry) : Type 0 where
  pub entries : (p : ℕ) → from ≤ p → p < to → memory new 1 table (p % SPAN_PAGES) ≡ entry p
  pub rest : (f k : ℕ) → k < TABLE_ENTRIES → (f ≡ table → (p : ℕ) → from ≤ p → p < to → p % SPAN_PAGES ≡ k → ⊥)
      → word new f k ≡ word old f k

-- the table that was cut with an extent
abbrev pub cut_of : Cleared → List ℕ
cut_of Words = []
cut_of Split = []
cut_of (Table c) = c ∷ []

-- a large leaf was split for it
abbrev pub was_split : Cleared → Bool
was_split Words = false
was_split Split = true
was_split (Table c) = false

-- how many large leaves are split for it
unfoldable pub extent_splits : Memory → ℕ → ℕ → ℕ → ℕ → ℕ
extent_splits m level table from to =
    if nat_le SPAN_PAGES (to - from) then 0 else (if is_large_leaf (leaf_from m level table from) then 1 else 0)
