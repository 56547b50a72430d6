use Rattle.std.proofs.Common.{sym, ◌∙◌, ap, arith}
use Rattle.ports.specs.Seen.{Port, Rows}
use Rattle.ports.proofs.steps.Told.{counted}
use Rattle.ports.proofs.port.Port.count.Goals as goal

pub load-requires : goal.load-requires
load-requires c =
    let rows = ap (λ (v : Port). v.rows) c.self.view_is ∙ c.requires ∙ sym c.rows.view_is in (
      ap (λ (r : Rows). r.table) rows,
      omega (arith, c.rows.invariant),
      counted _ _ _ _ _ _ (ap (λ (r : Rows). r.frames) rows) c.self.invariant.1,
    )
