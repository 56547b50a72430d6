use Rattle.quiet.proofs.FromTables.{from_root_in_place, from_root_meanwhile}
use Rattle.quiet.proofs.walks_from_tables_are_from_root.Goals as goal

pub returns-clause-meanwhile : goal.returns-clause-meanwhile
returns-clause-meanwhile c = from_root_meanwhile

pub returns-clause-in_place : goal.returns-clause-in_place
returns-clause-in_place c = from_root_in_place
