use Rattle.ports.proofs.histories.Staying as staying
use Rattle.ports.proofs.laws.keeps.Goals as goal

pub returns : goal.returns
returns c = staying.keeps
