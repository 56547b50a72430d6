use Rattle.std.proofs.Common.{◌≡◌, false}
use Rattle.std.specs.Io.KnownBytes.{prepend_known}
use Rattle.script.proofs.Going.{Going}
use Rattle.script.proofs.answering.answer_lines.Given as goal

abbrev pub invariant-loop : goal.invariant-loop
invariant-loop g l = record {
  going : Going l.fn.replies (record { frames = g.B.Owner.frames; room = g.B.Owner.most; caching = g.B.Owner.mode })
      (prepend_known l.fn.reader.block (g.R.Source.remaining l.fn.reader.wrapped))
      (prepend_known l.reader.block (g.R.Source.remaining l.reader.wrapped))
      (g.W.Sink.contents l.fn.writer.wrapped) l.fn.writer.block (g.W.Sink.contents l.writer.wrapped) l.writer.block l.book
      l.number;
  reader : g.R.Source.has_failed l.reader.wrapped ≡ false;
  writer : g.W.Sink.has_failed l.writer.wrapped ≡ false;
}
