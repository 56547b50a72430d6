use Rattle.quiet.proofs.InPlace.{map_calls_old_or_new}
use Rattle.quiet.proofs.map_calls_in_place_are_old_or_new.Goals as goal

pub returns : goal.returns
returns c = map_calls_old_or_new
