use Rattle.quiet.proofs.Retired.{retired_in_place, retired_state_nothing}
use Rattle.quiet.proofs.retired_tables_state_nothing.Goals as goal

pub returns-clause-meanwhile : goal.returns-clause-meanwhile
returns-clause-meanwhile c = retired_state_nothing

pub returns-clause-in_place : goal.returns-clause-in_place
returns-clause-in_place c = retired_in_place
