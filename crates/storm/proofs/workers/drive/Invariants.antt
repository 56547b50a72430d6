use Rattle.storm.specs.Storms.{HasMade}
use Rattle.storm.proofs.workers.drive.Given as goal

-- the calls so far
abbrev pub invariant-loop-made : goal.invariant-loop-made
invariant-loop-made g l = HasMade g.B.Owner.room l.made l.caller.share
