use Rattle.quiet.proofs.Staying.{caches_stay}
use Rattle.quiet.proofs.caches_stay.Goals as goal

pub returns : goal.returns
returns c = caches_stay
