use Rattle.std.proofs.Common.{◌≡◌, ◌≤◌, ◌<◌, ℕ, get_or}
use Rattle.ports.specs.Seen.{Port}
use Rattle.storm.proofs.Meeting.{Meets}
use Rattle.storm.proofs.storming.meet_all.Given as goal

-- the ports so far have met the history, and the others are as they were
abbrev pub invariant-loop-port : goal.invariant-loop-port
invariant-loop-port g l =
    (l.history ≡ l.fn.history)
    × ((k : ℕ) → k < l.port-index → (d : Port) → Meets l.fn.history.history (get_or l.fn.ports.items k d) (get_or l.port-items k d))
    × ((k : ℕ) → l.port-index ≤ k → (d : Port) → get_or l.port-items k d ≡ get_or l.fn.ports.items k d)
