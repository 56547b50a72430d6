use Rattle.quiet.proofs.Retiring.{retires_tables}
use Rattle.quiet.proofs.lazy_unmaps_retire_tables.Goals as goal

pub returns : goal.returns
returns c = retires_tables
