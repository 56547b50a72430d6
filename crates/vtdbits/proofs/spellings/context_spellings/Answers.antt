use Rattle.vtdbits.proofs.Contexts.{context_of-spelled, spelled_of-context}
use Rattle.vtdbits.proofs.spellings.context_spellings.Goals as goal

pub returns-clause-exact : goal.returns-clause-exact
returns-clause-exact c = λ words e. (spelled_of-context words e, context_of-spelled words e)
