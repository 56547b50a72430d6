use Rattle.grace.proofs.Ends.{strict_ends_hits}
use Rattle.grace.proofs.strict_unmaps_end_hits.Goals as goal

pub returns : goal.returns
returns c = strict_ends_hits
