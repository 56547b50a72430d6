use Rattle.driven.proofs.Halves.{contexts_old_or_new}
use Rattle.driven.proofs.laws.contexts_are_old_or_new.Goals as goal

pub returns : goal.returns
returns c = contexts_old_or_new
