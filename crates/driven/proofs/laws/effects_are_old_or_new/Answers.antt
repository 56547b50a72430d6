use Rattle.driven.proofs.Moments.{effects_fill_first, effects_old_or_new}
use Rattle.driven.proofs.laws.effects_are_old_or_new.Goals as goal

pub returns-clause-found : goal.returns-clause-found
returns-clause-found c = effects_old_or_new

pub returns-clause-filled : goal.returns-clause-filled
returns-clause-filled c = effects_fill_first
