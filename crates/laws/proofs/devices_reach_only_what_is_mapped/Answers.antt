use Rattle.laws.proofs.reach.Mapped.{reaches_mapped}
use Rattle.laws.proofs.devices_reach_only_what_is_mapped.Goals as goal

pub returns : goal.returns
returns c = reaches_mapped
