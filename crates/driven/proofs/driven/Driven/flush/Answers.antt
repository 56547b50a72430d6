use Rattle.std.proofs.Common.{◌++◌, ◌∙◌, ap}
use Rattle.driven.proofs.Asked.{all_told}
use Rattle.driven.proofs.driven.Driven.flush.Goals as goal

pub returns-clause-effects : goal.returns-clause-effects
returns-clause-effects c =
    all_told _ _ _ _ _ c.forget.ensures.all (
    let (more, items, asks) = c.tell_flush.ensures.effects in
    rw (← c.self.view_is, ← c.deref_mut-state.ensures.value, items ∙ ap (λ xs. xs ++ more) c.forget.ensures.told) asks)
