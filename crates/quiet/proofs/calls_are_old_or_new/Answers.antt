use Rattle.quiet.proofs.Ends.{drops_old_or_absent}
use Rattle.quiet.proofs.Every.{calls_old_or_new}
use Rattle.quiet.proofs.ReadWords.{calls_read_spelled}
use Rattle.quiet.proofs.calls_are_old_or_new.Goals as goal

pub returns-clause-calls : goal.returns-clause-calls
returns-clause-calls c = calls_old_or_new

pub returns-clause-dropped : goal.returns-clause-dropped
returns-clause-dropped c = drops_old_or_absent

pub returns-clause-spelled : goal.returns-clause-spelled
returns-clause-spelled c = calls_read_spelled
