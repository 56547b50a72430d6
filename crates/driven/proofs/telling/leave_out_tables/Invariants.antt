use Rattle.std.proofs.Common.{◌≡◌, ℕ, ◌+◌, ◌/◌, ◌<◌, length, None, Some}
use Rattle.std.specs.Prelude.{slice_get}
use Rattle.dmatypes.specs.declared.page.TheConstants.{SPAN_PAGES}
use Rattle.driven.proofs.telling.leave_out_tables.Given as goal

abbrev pub invariant-loop-span : goal.invariant-loop-span
invariant-loop-span l =
    (length l.tables.items + l.fn.first / SPAN_PAGES ≡ l._span)
    × ((k : ℕ) → k < length l.tables.items → slice_get l.tables.items k ≡ Some None)
