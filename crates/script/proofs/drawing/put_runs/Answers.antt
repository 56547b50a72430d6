use Rattle.std.proofs.Common.{rules}
use Rattle.streams.proofs.Known.{puts_more}
use Rattle.script.proofs.drawing.put_runs.Goals as goal

pub loop-piece-preserved : goal.loop-piece-preserved
loop-piece-preserved g c = record {
  put = puts_more _ _ _ _ _ _ c.loop-piece.invariant.put c.put_line.ensures.put;
  unfailed = search rules;
}

pub returns-in_err-put_line-clause-put : goal.returns-in_err-put_line-clause-put
returns-in_err-put_line-clause-put g c = puts_more _ _ _ _ _ _ c.loop-piece.invariant.put c.put_line.ensures.put
