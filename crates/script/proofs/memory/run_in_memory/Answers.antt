use Rattle.std.proofs.Common.{rules, ◌++◌}
use Rattle.script.proofs.memory.run_in_memory.Goals as goal

-- what is left of the script is in the block, and behind it
pub returns-in_default : goal.returns-in_default
returns-in_default g c = record {
  written = let ran = rw (
    c.over-reader.ensures.block,
    c.over-reader.ensures.wrapped,
    c.over-writer.ensures.block,
    c.over-writer.ensures.wrapped,
    c.replace.ensures.value,
  ) at c.work-end.ensures.written in
      (c.work-end.new.reader.block ++ c.work-end.new.reader.wrapped.now, rw c.into_wrapped.ensures ran);
  read = search rules;
  write = search rules;
}
