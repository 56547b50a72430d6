use Rattle.std.proofs.Common.{◌≡◌, ℕ, ◌+◌, ◌*◌, ◌/◌, ◌<◌, length, Some}
use Rattle.std.specs.Prelude.{slice_get}
use Rattle.dmatypes.specs.declared.page.TheConstants.{SPAN_PAGES}
use Rattle.engine.specs.Domains.{domain_at}
use Rattle.engine.specs.Walkable.{table_at}
use Rattle.driven.proofs.telling.fill_tables.Given as goal

abbrev pub invariant-loop-span : goal.invariant-loop-span
invariant-loop-span l =
    (length l.tables.items + l.first / SPAN_PAGES ≡ l.span)
    × ((k : ℕ) → k < length l.tables.items → slice_get l.tables.items k
    ≡ Some (table_at l.state.pool (domain_at l.state.domains l.domain) ((l.first / SPAN_PAGES + k) * SPAN_PAGES) 1))
