use Rattle.vtdm_c.proofs.Hosts.{contexts_named, words_named}
use Rattle.vtdm_c.proofs.laws.words_name_host_frames.Goals as goal

pub returns : goal.returns
returns c = record { entries = words_named; contexts = contexts_named }
