use Rattle.vtdm_c.proofs.Hosts.{pages_found, walks}
use Rattle.vtdm_c.proofs.laws.walks_find_host_frames.Goals as goal

pub returns : goal.returns
returns c = record { walks = walks; pages = pages_found }
