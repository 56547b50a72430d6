use Rattle.quiet.proofs.InPlace.{unmap_calls_old_or_new}
use Rattle.quiet.proofs.unmap_calls_in_place_are_old_or_new.Goals as goal

pub returns : goal.returns
returns c = unmap_calls_old_or_new
