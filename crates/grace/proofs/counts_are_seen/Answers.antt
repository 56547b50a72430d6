use Rattle.grace.proofs.Ends.{counts_seen, hits_seen}
use Rattle.grace.proofs.counts_are_seen.Goals as goal

pub returns-clause-counts : goal.returns-clause-counts
returns-clause-counts c = counts_seen

pub returns-clause-hits : goal.returns-clause-hits
returns-clause-hits c = hits_seen
