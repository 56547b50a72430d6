use Rattle.std.proofs.Common.{◌≡◌, ◌+◌, ◌*◌, ◌≤◌, ◌++◌, List, length}
use Rattle.std.specs.List.{All}
use Rattle.std.specs.Prelude.{IsTrue}
use Rattle.engine.specs.Domains.{domain_at}
use Rattle.driven.specs.Effects.{IsForTables}
use Rattle.driven.specs.declared.effect.Effect.{Effect}
use Rattle.driven.proofs.Spans.{Lowest, Stay, Told}
use Rattle.driven.proofs.telling.bring_lowest.Given as goal

-- what became of the tables so far is told
abbrev pub invariant-loop-span : goal.invariant-loop-span
invariant-loop-span l =
    (more : List Effect) × ((l.effects.items ≡ l.initial.effects.items ++ more)
    × (length more + 2 * l.begin ≤ 2 * l.span)
    × (l.begin ≤ l.span)
    × All IsForTables more
    × Lowest l.state.pool (domain_at l.state.domains l.domain) l.first l.last l.before.items more
    × Told l.state.pool (domain_at l.state.domains l.domain) l.first l.last l.before.items more l.span
    × (IsTrue l.stay → Stay l.state.pool (domain_at l.state.domains l.domain) l.first l.last l.before.items l.span))
