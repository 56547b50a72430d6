use Rattle.std.proofs.Common.{rules}
use Rattle.streams.proofs.Known.{puts_more}
use Rattle.script.proofs.drawing.put_domains.Goals as goal

pub returns-in_err-put_domain-clause-put : goal.returns-in_err-put_domain-clause-put
returns-in_err-put_domain-clause-put g c = puts_more _ _ _ _ _ _ c.loop-index.invariant.put c.put_domain.ensures.put

pub loop-index-preserved : goal.loop-index-preserved
loop-index-preserved g c = record {
  put = puts_more _ _ _ _ _ _ c.loop-index.invariant.put c.put_domain.ensures.put;
  unfailed = search rules;
}
