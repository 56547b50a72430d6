use Rattle.std.proofs.Common.{take}
use Rattle.engine.proofs.flushes.Together.{GivesBack}
use Rattle.engine.proofs.domain.runs.give_back_all.Given as goal

abbrev pub invariant-loop-record : goal.invariant-loop-record
invariant-loop-record l = GivesBack l.initial.pool (take l.record-index l.records) l.pool
