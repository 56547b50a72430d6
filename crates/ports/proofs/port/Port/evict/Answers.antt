use Rattle.std.proofs.Common.{arith, sym, ap, ◌∙◌}
use Rattle.ports.specs.Seen.{Port, Rows}
use Rattle.dmatypes.specs.History.{IsLegal}
use Rattle.ports.specs.Lawful.{IsLawfulAfter}
use Rattle.ports.proofs.histories.LawfulWords.{legal_empty, lawful_zero}
use Rattle.ports.proofs.steps.Stores.{empties}
use Rattle.ports.proofs.port.Port.evict.Goals as goal

pub store-requires : goal.store-requires
store-requires c =
    let rows = ap (λ (v : Port). v.rows) c.self.view_is ∙ c.requires.rows ∙ sym c.rows.view_is in (
      ap (λ (r : Rows). r.table) rows,
      omega (arith, c.rows.invariant, c.place-place.ensures, c.self.invariant.0, c.requires.slot),
      rw c.place-place.ensures
          (empties (IsLegal c.rows.inside.words.shared.key.frames) (IsLawfulAfter c.rows.inside.words.shared.key.frames)
          (legal_empty c.rows.inside.words.shared.key.frames)
          (lawful_zero c.rows.inside.words.shared.key.frames) _ _ _ _ _ _ c.self.invariant.0 c.requires.slot c.self.invariant.1),
    )
