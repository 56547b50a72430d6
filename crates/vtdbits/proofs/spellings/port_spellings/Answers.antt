use Rattle.vtdbits.proofs.Ports.{port_of-spelled, spelled_of-port}
use Rattle.vtdbits.proofs.spellings.port_spellings.Goals as goal

pub returns-clause-exact : goal.returns-clause-exact
returns-clause-exact c = λ word p. (spelled_of-port word p, port_of-spelled word p)
