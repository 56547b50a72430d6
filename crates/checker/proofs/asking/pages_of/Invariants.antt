use Rattle.std.proofs.Common.{◌≡◌, ◌≤◌, take}
use Rattle.dmatypes.specs.declared.page.TheConstants.{MOST_PAGES}
use Rattle.dmatypes.specs.Conditions.{total_pages}
use Rattle.checker.proofs.asking.pages_of.Given as goal

abbrev pub invariant-loop-segment : goal.invariant-loop-segment
invariant-loop-segment l = (l.pages ≡ total_pages (take l.segment-index l.segments)) × (l.pages ≤ MOST_PAGES)
