use Rattle.vtdbits.proofs.Entries.{entry_of-spelled, spelled_of-entry}
use Rattle.vtdbits.proofs.spellings.entry_spellings.Goals as goal

pub returns-clause-exact : goal.returns-clause-exact
returns-clause-exact c = λ level word e. (spelled_of-entry level word e, entry_of-spelled level word e)
