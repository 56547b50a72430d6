use Rattle.std.proofs.Common.{◌≡◌, false}
use Rattle.streams.specs.Bytes.{PutsSome}
use Rattle.script.proofs.drawing.put_domains.Given as goal

-- some text was put so far, and no write has failed
abbrev pub invariant-loop-index : goal.invariant-loop-index
invariant-loop-index g l = record {
  put : PutsSome (g.W.Sink.contents l.fn.writer.wrapped) (g.W.Sink.contents l.writer.wrapped) l.fn.writer.block l.writer.block;
  unfailed : g.W.Sink.has_failed l.writer.wrapped ≡ false;
}
