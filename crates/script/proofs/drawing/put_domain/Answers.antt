use Rattle.streams.proofs.Known.{puts_more}
use Rattle.script.proofs.drawing.put_domain.Goals as goal

pub returns-in_err-put_runs-clause-put : goal.returns-in_err-put_runs-clause-put
returns-in_err-put_runs-clause-put g c = puts_more _ _ _ _ _ _ c.put_line.ensures.put c.put_runs.ensures.put

pub returns-clause-put : goal.returns-clause-put
returns-clause-put g c =
    puts_more _ _ _ _ _ _ (puts_more _ _ _ _ _ _ c.put_line.ensures.put c.put_runs.ensures.put) c.put_records.ensures.put
