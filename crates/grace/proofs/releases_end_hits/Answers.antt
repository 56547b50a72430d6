use Rattle.grace.proofs.Ends.{releases_end}
use Rattle.grace.proofs.releases_end_hits.Goals as goal

pub returns : goal.returns
returns c = releases_end
