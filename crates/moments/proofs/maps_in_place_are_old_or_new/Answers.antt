use Rattle.moments.proofs.MapsInPlace.{maps_in_place}
use Rattle.moments.proofs.maps_in_place_are_old_or_new.Goals as goal

pub returns : goal.returns
returns c = maps_in_place
