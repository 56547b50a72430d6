use Rattle.std.proofs.Common.{[]}
use Rattle.streams.proofs.Known.{sent_more}
use Rattle.streams.proofs.line.next_line.Goals as goal

pub returns-in_err-map_err-clause-sent : goal.returns-in_err-map_err-clause-sent
returns-in_err-map_err-clause-sent g c = sent_more _ _ _ _ _ _ [] [] c.reading.invariant.sent c.flush.ensures.sent
