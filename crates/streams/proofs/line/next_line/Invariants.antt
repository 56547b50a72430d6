use Rattle.std.proofs.Common.{false, ◌≡◌, ◌+◌, ◌*◌, ◌-◌, ◌≤◌, [], length}
use Rattle.std.specs.Io.KnownBytes.{Consumes, prepend_known}
use Rattle.streams.specs.Bytes.{IsUnbroken, Sent}
use Rattle.streams.proofs.line.next_line.Given as goal

abbrev pub invariant-reading : goal.invariant-reading
invariant-reading g l = record {
  read : Consumes (prepend_known l.fn.reader.block (g.R.Source.remaining l.fn.reader.wrapped))
      (prepend_known l.reader.block (g.R.Source.remaining l.reader.wrapped)) l.line.items;
  whole : IsUnbroken l.line.items;
  few : length l.line.items ≤ g.row.MOST;
  sent : Sent (g.W.Sink.contents l.fn.writer.wrapped) (g.W.Sink.contents l.writer.wrapped) l.fn.writer.block l.writer.block
      [];
  reader : g.R.Source.has_failed l.reader.wrapped ≡ false;
  writer : g.W.Sink.has_failed l.writer.wrapped ≡ false;
}

-- a block that isn't empty makes the line longer
abbrev pub decreases-reading : goal.decreases-reading
decreases-reading g l = 2 * (g.row.MOST - length l.line.items) + (1 - length l.reader.block)
