use Rattle.engine.proofs.state.State.keeps.Goals as goal

pub returns : goal.returns
returns c = rw (← c.self.view_is) c.self.invariant.0
