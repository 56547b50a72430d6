use Rattle.moments.proofs.Walks.{maps_old_or_new}
use Rattle.moments.proofs.maps_are_old_or_new.Goals as goal

pub returns : goal.returns
returns c = maps_old_or_new
