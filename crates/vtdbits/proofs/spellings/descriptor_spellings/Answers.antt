use Rattle.vtdbits.proofs.Descriptors.{descriptor_of-spelled, spelled_of-descriptor}
use Rattle.vtdbits.proofs.spellings.descriptor_spellings.Goals as goal

pub returns-clause-exact : goal.returns-clause-exact
returns-clause-exact c = λ words d. (spelled_of-descriptor words d, descriptor_of-spelled words d)
