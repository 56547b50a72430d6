-- What a method of the state does, and which states a history follows. The conditions that the model leaves open, and what becomes of the
-- state, stand in State.antt.
use Rattle.std.specs.Prelude.{◌≡◌, ℕ, ◌+◌, Bool, List, [], ◌∷◌}
use Rattle.dmatypes.specs.declared.call.Call.{Call}
use Rattle.dmatypes.specs.declared.reply.Reply.{Reply}
use Rattle.dmatypes.specs.declared.reply.Event.{Event}
use Rattle.dmatypes.specs.World.{World}
use Rattle.dmatypes.specs.Step.{IsStep, next}
use Rattle.engine.specs.State.{State, IsNew, Exact, Becomes}
use Rattle.engine.specs.Quarantine.{Quarantine}

-- for every world that the state is one of, call and reply are a step from it, and the next state is one of the
-- world after them
abbrev pub Steps : State → Call → Reply → State → Type 0
Steps m call reply t = (w : World) → Quarantine m w → IsStep w call reply × Quarantine t (next w call reply)

-- all that a method of the state promises: a step, the exact conditions that the model leaves open, what
-- becomes of the state, and that one call more is counted
pub record Does (m : State) (call : Call) (reply : Reply) (t : State) : Type 0 where
  pub steps : Steps m call reply t
  pub exact : Exact m call reply
  pub becomes : Becomes m call reply t
  pub calls : t.calls ≡ m.calls + 1

-- the events lead from the first state to the last, each by what a method does
abbrev pub Goes : State → List Event → State → Type 0
Goes m [] t = m ≡ t
Goes m (e ∷ es) t = (s : State) × (Does m e.call e.reply s × Goes s es t)

-- they lead from some new state to the last, of so many table frames and with Caching Mode or not
abbrev pub GoesTo : ℕ → Bool → List Event → State → Type 0
GoesTo frames caching events t = (m : State) × (IsNew frames caching m × Goes m events t)
