use Rattle.std.proofs.Common.{[]}
use Rattle.streams.proofs.Known.{puts_more}
use Rattle.script.proofs.drawing.draw.Goals as goal

pub returns-clause-put : goal.returns-clause-put
returns-clause-put g c = puts_more _ _ _ _ _ _ c.put_domains.ensures.put ([], c.flush.ensures.sent)
