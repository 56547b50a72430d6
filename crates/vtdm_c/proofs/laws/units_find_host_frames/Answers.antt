use Rattle.vtdm_c.proofs.Units.{units_find}
use Rattle.vtdm_c.proofs.laws.units_find_host_frames.Goals as goal

pub returns : goal.returns
returns c = units_find
