use Rattle.std.proofs.Common.{◌≡◌, [], false, length}
use Rattle.streams.specs.Bytes.{Sent}
use Rattle.streams.proofs.stream.Stream.flush.Given as goal

-- what is no more in the block was written
abbrev pub invariant-loop-self : goal.invariant-loop-self
invariant-loop-self g l = record {
  sent : Sent (g.W.Sink.contents l.fn.self.wrapped) (g.W.Sink.contents l.self.wrapped) l.fn.self.block l.self.block [];
  unfailed : g.W.Sink.has_failed l.self.wrapped ≡ false;
}

abbrev pub decreases-loop-self : goal.decreases-loop-self
decreases-loop-self g l = length l.self.block
