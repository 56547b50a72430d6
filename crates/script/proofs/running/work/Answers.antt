use Rattle.script.proofs.Concluding.{nothing_written}
use Rattle.script.proofs.running.work.Goals as goal

pub returns-in_default-clause-written : goal.returns-in_default-clause-written
returns-in_default-clause-written g c = nothing_written _ c.args.output _ _ _ _
