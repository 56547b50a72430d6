use Rattle.std.proofs.Common.{ap, ◌∙◌, refl}
use Rattle.checker.specs.Rising.{at_runs, runs_end, is_rising}
use Rattle.checker.proofs.taken.Taken.with_room.Goals as goal

pub invariant_of-result : goal.invariant_of-result
unfolding is_rising
invariant_of-result c = record { rising = ap (is_rising 0) c.in_ok-runs.ensures.items ∙ refl }

pub returns-clause-none : goal.returns-clause-none
unfolding at_runs
returns-clause-none c = λ p. ap (λ es. at_runs es p) c.in_ok-runs.ensures.items ∙ refl

pub returns-clause-end : goal.returns-clause-end
unfolding runs_end
returns-clause-end c = ap (runs_end 0) c.in_ok-runs.ensures.items ∙ refl
