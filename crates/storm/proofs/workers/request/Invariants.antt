use Rattle.std.specs.Prelude.{◌≡◌}
use Rattle.storm.specs.Storms.{AreHits, HasMade}
use Rattle.storm.proofs.workers.request.Given as goal

-- the calls so far, and the hits before them
abbrev pub invariant-loop-made : goal.invariant-loop-made
invariant-loop-made g l =
    HasMade g.B.Owner.room l.made l.caller.share × (l.port.device ≡ l.device) × AreHits l.device l.made l.port.did
