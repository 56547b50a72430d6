use Rattle.moments.proofs.Walks.{destroys_old_or_absent}
use Rattle.moments.proofs.destroys_are_old_or_absent.Goals as goal

pub returns : goal.returns
returns c = destroys_old_or_absent
