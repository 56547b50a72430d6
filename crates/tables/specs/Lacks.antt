-- How many free frames a map or an unmap takes. A map lacks a table for each span that its pages meet and that has none, but for none under
-- a leaf of 2 MiB. An unmap splits each leaf of 2 MiB that it meets and doesn't cover.
use Rattle.std.specs.Prelude.{ℕ, ◌+◌, ◌-◌, ◌*◌, ◌/◌, Bool, ◌==◌, ◌&&◌, nat_le, if◌then◌else◌, is_some, List}
use Rattle.dmatypes.specs.declared.page.TheConstants.{SPAN_PAGES}
use Rattle.dmatypes.specs.Conditions.{total_pages}
use Rattle.dmatypes.specs.declared.call.Segment.{Segment}
use Rattle.tables.specs.Tree.{Memory, span, sum_below, leaf_from, table_from, is_large_leaf}
use Rattle.tables.specs.Pool.{Pool, memory}
use Rattle.tables.specs.Segments.{is_large_at}

-- a sum over the spans of a level that meet the pages from one up to another, by the first page of each
unfoldable pub sum_spans : (ℕ → ℕ) → ℕ → ℕ → ℕ → ℕ
sum_spans g w from to = sum_below (λ k. g ((from / span w + k) * span w)) ((to - 1) / span w + 1 - from / span w)

-- 1 where a page has no table of the level w, and needs one: none of level 1 under a large leaf
unfoldable pub lacks_table : Memory → ℕ → ℕ → Bool → ℕ → ℕ → ℕ
lacks_table m level table large w p =
    if is_some (table_from m level table p w) then 0 else (if (w == 1) && large then 0 else 1)

-- for a map: the spans of each lower level that meet the pages and lack a table, where a large leaf begins
-- at the pages of a test that have no table of level 1
unfoldable pub tables_lacking : Memory → ℕ → ℕ → (ℕ → Bool) → ℕ → ℕ → ℕ
tables_lacking m level table large from to =
    sum_below (λ v. sum_spans (λ p. lacks_table m level table (large p) (v + 1) p) (v + 1) from to) (level - 1)

-- the same for one page alone
unfoldable pub tables_lacking_at : Memory → ℕ → ℕ → Bool → ℕ → ℕ
tables_lacking_at m level table large p = sum_below (λ v. lacks_table m level table large (v + 1) p) (level - 1)

-- 1 where the page is in a large leaf, and the pages don't cover the 512 from it on
unfoldable pub splits_leaf : Memory → ℕ → ℕ → ℕ → ℕ → ℕ → ℕ
splits_leaf m level table from to p =
    if nat_le from p && nat_le (p + SPAN_PAGES) to then 0 else (if is_large_leaf (leaf_from m level table p) then 1 else 0)

-- for an unmap: the large leaves that meet the pages and aren't covered by them
unfoldable pub leaves_splitting : Memory → ℕ → ℕ → ℕ → ℕ → ℕ
leaves_splitting m level table from to = sum_spans (splits_leaf m level table from to) 1 from to

-- for a map of segments one after the other from a first page on
abbrev pub frames_to_map : Pool → ℕ → ℕ → List Segment → ℕ → ℕ
frames_to_map pool level root segments first =
    tables_lacking (memory pool.words) level root (is_large_at segments first) first (first + total_pages segments)
