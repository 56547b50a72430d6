use Rattle.moments.proofs.Walks.{unmaps_old_or_new}
use Rattle.moments.proofs.unmaps_are_old_or_new.Goals as goal

pub returns : goal.returns
returns c = unmaps_old_or_new
