use Rattle.std.proofs.Common.{subst}
use Rattle.storm.specs.Storms.{HasNewPort}
use Rattle.storm.proofs.workers.work.Goals as goal

pub request-requires-clause-port : goal.request-requires-clause-port
unfolding HasNewPort
request-requires-clause-port g c _ _ = subst (λ role. HasNewPort role) c.in-Device.is c.requires.1
