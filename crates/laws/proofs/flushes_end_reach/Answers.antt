use Rattle.laws.proofs.reach.Released.{release_ends}
use Rattle.laws.proofs.flushes_end_reach.Goals as goal

pub returns : goal.returns
returns c = release_ends
