use Rattle.std.proofs.Common.{◌≡◌, ◌≤◌}
use Rattle.std.specs.Prelude.{vec_capacity, vec_len}
use Rattle.engine.proofs.state.all_rooms.Given as goal
use Rattle.dmatypes.specs.declared.limits.TheConstants.{MOST_DOMAINS}

abbrev pub invariant-loop-room : goal.invariant-loop-room
invariant-loop-room l = record {
  so_many : vec_len l.rooms ≡ l._room;
  room : MOST_DOMAINS ≤ vec_capacity l.rooms;
}
