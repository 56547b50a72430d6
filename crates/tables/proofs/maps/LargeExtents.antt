-- Extents that can be one leaf of 512 pages.
use Rattle.std.proofs.Common.{◌≡◌, ◌-◌, ◌%◌, ◌<◌, true, false, arith}
use Rattle.std.proofs.lemmas.Bool.Decides.{nat_tests}
use Rattle.dmatypes.specs.declared.page.TheConstants.{SPAN_PAGES}
use Rattle.tables.specs.declared.extent.Extent.{Extent}
use Rattle.tables.specs.Extents.{is_large}

pub large_from : (x : Extent) → is_large x ≡ true → (x.from % SPAN_PAGES ≡ 0) × (x.to - x.from ≡ SPAN_PAGES)
large_from x h = grind (arith, nat_tests)

-- what is not a whole span can't
pub small_extent : (x : Extent) → 0 < x.from % SPAN_PAGES → is_large x ≡ false
small_extent x h = grind (arith, nat_tests)

pub short_extent : (x : Extent) → 0 < x.to % SPAN_PAGES → is_large x ≡ false
short_extent x h = grind (arith, nat_tests)
