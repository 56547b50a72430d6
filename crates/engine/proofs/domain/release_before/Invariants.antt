use Rattle.engine.proofs.flushes.ReleasedBefore.{IsReleasingBefore}
use Rattle.engine.proofs.domain.release_before.Given as goal

abbrev pub invariant-loop-record : goal.invariant-loop-record
invariant-loop-record l =
    IsReleasingBefore l.ticket.number l.initial.pool l.initial.space l.records l.record-index l.pool l.space l.released
