use Rattle.laws.proofs.reach.Strict.{strict_ends}
use Rattle.laws.proofs.strict_unmaps_end_reach.Goals as goal

pub returns : goal.returns
returns c = strict_ends
