use Rattle.driven.specs.UpTo.{DoesOldest}
use Rattle.driven.proofs.stepping.do_oldest.Given as goal

-- as many as turns are done
abbrev pub invariant-loop-done : goal.invariant-loop-done
invariant-loop-done l = DoesOldest l.fn.state l._done l.state
