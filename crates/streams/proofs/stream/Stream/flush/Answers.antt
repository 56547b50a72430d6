use Rattle.std.proofs.Common.{rules, []}
use Rattle.streams.proofs.Known.{sent_front}
use Rattle.streams.proofs.stream.Stream.flush.Goals as goal

pub loop-self-preserved : goal.loop-self-preserved
loop-self-preserved g c = record {
  sent = rw c.advance.ensures (sent_front _ _ _ _ c.loop-self.self.block [] c.in-Ok.count c.loop-self.invariant.sent
      (rw c.as_slice.ensures at c.in-Ok.ensures.bytes));
  unfailed = search rules;
}
