use Rattle.std.proofs.Common.{◌∙◌, sym}
use Rattle.std.proofs.lemmas.Bool.{eq-eqb, eqb-true}
use Rattle.streams.proofs.Known.{all_gone, none_gone}
use Rattle.streams.proofs.block.Block.is_empty.Goals as goal

pub returns : goal.returns
returns c = (
  λ e. sym c.self.view_is ∙ all_gone c.self.inside.gone c.self.inside.bytes.items
      (eqb-true c.self.inside.gone c.len.result e ∙ c.len.ensures.value),
  λ e. eq-eqb c.self.inside.gone c.len.result (none_gone c.self.inside.gone c.self.inside.bytes.items c.self.invariant
      (c.self.view_is ∙ e) ∙ sym c.len.ensures.value),
)
