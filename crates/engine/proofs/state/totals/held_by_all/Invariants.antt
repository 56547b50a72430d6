use Rattle.std.proofs.Common.{◌≡◌, ◌*◌, ◌≤◌, take}
use Rattle.dmatypes.specs.declared.limits.TheConstants.{MOST_RECORDS}
use Rattle.engine.specs.Totals.{held_by_all}
use Rattle.engine.proofs.state.totals.held_by_all.Given as goal

abbrev pub invariant-loop-place : goal.invariant-loop-place
invariant-loop-place l = record {
  so_far : l.held ≡ held_by_all (take l.place-index l.domains);
  few : l.held ≤ 8 * MOST_RECORDS * l.place-index;
}
