use Rattle.moments.proofs.InPlace.{in_place_leaves, in_place_old_or_new}
use Rattle.moments.proofs.unmaps_in_place_are_old_or_new.Goals as goal

pub returns-clause-found : goal.returns-clause-found
returns-clause-found c = in_place_old_or_new

pub returns-clause-leaves : goal.returns-clause-leaves
returns-clause-leaves c = in_place_leaves
