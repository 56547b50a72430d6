use Rattle.std.proofs.Common.{◌≡◌, false}
use Rattle.std.specs.Io.KnownBytes.{prepend_known}
use Rattle.checker.specs.World.{world_of}
use Rattle.traces.proofs.Judging.{Judged}
use Rattle.traces.proofs.checking.check_lines.Given as goal

abbrev pub invariant-loop : goal.invariant-loop
invariant-loop g l = record {
  judged : Judged l.fn.table_frames (prepend_known l.fn.reader.block (g.R.Source.remaining l.fn.reader.wrapped))
      (prepend_known l.reader.block (g.R.Source.remaining l.reader.wrapped)) (world_of l.checker) l.number;
  reader : g.R.Source.has_failed l.reader.wrapped ≡ false;
}
