use Rattle.std.proofs.Common.{◌≡◌}
use Rattle.manager.proofs.manager.owned.Given as goal

-- those that were taken out so far, in order
abbrev pub invariant-loop-port : goal.invariant-loop-port
invariant-loop-port g l = l.owned.items ≡ l.yielded
