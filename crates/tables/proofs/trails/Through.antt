-- Calls write by steps, whatever a step keeps: what one write owes, and two calls after each other.
use Rattle.std.proofs.Common.{◌≡◌, List, [], ◌∷◌, ◌++◌, refl, ap, sym, ◌∙◌, append_assoc, append-nil, arith}
use Rattle.tables.specs.Pool.{Moment, Pool, moment_of}
use Rattle.tables.specs.Trail.{GoesThrough, Rests, WritesBySteps}

-- what rests first makes the step as well
abbrev pub MayRestFirst : (Moment → Moment → Type 0) → Type 0
MayRestFirst Step = (l m n : Moment) → Rests l m → Step m n → Step l n

-- nothing is written
pub no_step : (Step : Moment → Moment → Type 0) (old new : Pool) → new.trail ≡ old.trail → Rests (moment_of old) (moment_of new)
    → WritesBySteps old new Step
unfolding GoesThrough
no_step Step old new trail rest = record { moments = []; trail = trail ∙ sym (append-nil old.trail); through = rest }

-- one write
pub one_step : (Step : Moment → Moment → Type 0) (old new : Pool) → new.trail ≡ old.trail ++ moment_of new ∷ []
    → Step (moment_of old) (moment_of new) → WritesBySteps old new Step
unfolding GoesThrough
one_step Step old new trail on = record { moments = moment_of new ∷ []; trail = trail; through = (on, (refl, λ f. omega arith)) }

goes_on : (Step : Moment → Moment → Type 0) → MayRestFirst Step → (l m n : Moment) (before after : List Moment)
    → GoesThrough Step l before m → GoesThrough Step m after n → GoesThrough Step l (before ++ after) n
unfolding GoesThrough
goes_on Step may l m n [] [] rest then = (then.0 ∙ rest.0, λ f. omega (arith, rest.1 f, then.1 f))
goes_on Step may l m n [] (x ∷ xs) rest then = (may l m x rest then.0, then.1)
goes_on Step may l m n (x ∷ xs) after first then = (first.0, goes_on Step may x m n xs after first.1 then)

-- one call after another
pub steps_after : (Step : Moment → Moment → Type 0) → MayRestFirst Step → (old between new : Pool) → WritesBySteps old between Step
    → WritesBySteps between new Step → WritesBySteps old new Step
steps_after Step may old between new first second = record {
  moments = first.moments ++ second.moments;
  trail = second.trail ∙ ap (λ ms. ms ++ second.moments) first.trail ∙ append_assoc old.trail first.moments second.moments;
  through =
      goes_on Step may (moment_of old) (moment_of between) (moment_of new) first.moments second.moments first.through second.through;
}

-- steps are also steps of another kind, by what holds at each moment on the way
goes_by : (P : Moment → Type 0) (Step Other : Moment → Moment → Type 0) → ((m n : Moment) → P m → Step m n → P n × Other m n)
    → (m last : Moment) (ms : List Moment) → P m → GoesThrough Step m ms last → GoesThrough Other m ms last
unfolding GoesThrough
goes_by P Step Other more m last [] here rest = rest
goes_by P Step Other more m last (n ∷ ns) here on =
    let both = more m n here on.0 in (both.1, goes_by P Step Other more n last ns both.0 on.1)

pub steps_by : (P : Moment → Type 0) (Step Other : Moment → Moment → Type 0) → ((m n : Moment) → P m → Step m n → P n × Other m n)
    → (old new : Pool) → P (moment_of old) → WritesBySteps old new Step → WritesBySteps old new Other
steps_by P Step Other more old new here steps = record {
  moments = steps.moments;
  trail = steps.trail;
  through = goes_by P Step Other more (moment_of old) (moment_of new) steps.moments here steps.through;
}
