use Rattle.std.proofs.Common.{◌+◌}
use Rattle.storm.specs.Storms.{HasMade}
use Rattle.storm.proofs.storming.set_up.Given as goal

-- the two domains, and the devices so far
abbrev pub invariant-loop-device : goal.invariant-loop-device
invariant-loop-device g l = HasMade g.B.Owner.room (2 + l.device) l.first
