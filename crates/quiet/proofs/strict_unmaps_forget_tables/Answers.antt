use Rattle.quiet.proofs.Strictly.{strict_tables}
use Rattle.quiet.proofs.strict_unmaps_forget_tables.Goals as goal

pub returns : goal.returns
returns c = strict_tables
