-- What a root means, as a relation between a page, a frame and rights (second-stage paging). It says of the words what `states` says of a
-- memory, and both are proved to be one relation.
use Rattle.std.specs.Prelude.{◌≡◌, ℕ, zero, suc, ◌+◌, ◌%◌, ◌⊎◌}
use Rattle.dmatypes.specs.declared.page.TheConstants.{SPAN_PAGES}
use Rattle.vtdbits.specs.Entry.{Spells}
use Rattle.vtdbits.specs.Translation.{target}
use Rattle.vtdbits.specs.declared.entry.SsEntry.TheVariants.{Table, Leaf, LargeLeaf}
use Rattle.tables.specs.Tree.{index_in}

-- the word at the page's index spells a leaf that states this frame and these rights for the page, or a
-- table that relates them
unfoldable pub Walks : (ℕ → ℕ → ℕ) → ℕ → ℕ → ℕ → ℕ → ℕ → Type 0
Walks words zero table page frame rights = ⊥
Walks words (suc l) table page frame rights =
    Spells (suc l) (words table (index_in l page)) (Leaf (target frame rights))
    ⊎ ((first : ℕ)
    × (Spells (suc l) (words table (index_in l page)) (LargeLeaf (target first rights)) × (frame ≡ first + page % SPAN_PAGES)))
    ⊎ ((below : ℕ) × (Spells (suc l) (words table (index_in l page)) (Table below) × Walks words l below page frame rights))
