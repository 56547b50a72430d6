use Rattle.quiet.proofs.Ends.{list_forgets, one_forgets}
use Rattle.quiet.proofs.maps_forget_faults.Goals as goal

pub returns-clause-list : goal.returns-clause-list
returns-clause-list c = list_forgets

pub returns-clause-one : goal.returns-clause-one
returns-clause-one c = one_forgets
