-- The trace of a legal history is read in one way.
use Rattle.std.proofs.Common.{◌≡◌, ℕ, List, [], ◌∷◌, ◌++◌, Ok, Err, refl, sym, ap, subst, ◌∙◌}
use Rattle.std.proofs.lemmas.List.{append-nil}
use Rattle.checker.specs.Traces.{event_said}
use Rattle.dmatypes.specs.declared.reply.Event.{Event}
use Rattle.dmatypes.specs.History.{IsLegal, IsLegalFrom, after_from}
use Rattle.dmatypes.specs.Step.{IsStep, next}
use Rattle.dmatypes.specs.World.{World, empty}
use Rattle.streams.specs.Lines.{BeginsBadly, LinesSay}
use Rattle.streams.proofs.Lines.{one_reading}
use Rattle.traces.specs.Checked.{TracedIsLegal, line_behind}
use Rattle.traces.specs.declared.checking.Judgement.TheVariants.{Legal, Illegal}
use Rattle.traces.specs.declared.error.CheckError.TheVariants as errors

-- in a legal history each event is a step after those before it
step_between : (w : World) (front : List Event) (e : Event) (more : List Event) → IsLegalFrom w ((front ++ e ∷ []) ++ more)
    → IsStep (after_from w front) e.call e.reply
step_between w [] e more legal = legal.0
step_between w (x ∷ xs) e more legal = step_between (next w x.call x.reply) xs e more legal.1

-- nothing is left where the lines end
no_more : (more : List Event) → LinesSay event_said [] more [] → more ≡ []
no_more [] s = refl
no_more (e ∷ more) s = absurd (not_nil s.0 s.1 (sym s.2)) where
  not_nil : (line more : List ℕ) → line ++ 10 ∷ more ≡ [] → ⊥
  not_nil [] more e = cc
  not_nil (x ∷ line) more e = cc

not_bad : (rest : List ℕ) (more : List Event) → LinesSay event_said rest more [] → BeginsBadly event_said rest → ⊥
not_bad rest [] s bad = bad.something s
not_bad rest (e ∷ more) s bad = bad.no_line s.0 s.1 e s.2 s.3

pub traced_is_legal : TracedIsLegal
traced_is_legal frames history input left (Ok (Legal events)) legal lines found =
    let read = one_reading event_said input history found.0 [] lines found.2.lines in
    let all : history ≡ found.0 = read.1 ∙ ap (λ (m : List Event). found.0 ++ m) (no_more read.0 read.2) ∙ append-nil found.0 in
    found.3 ∙ ap line_behind (sym all)
traced_is_legal frames history input left (Ok (Illegal finding)) legal lines found =
    let read = one_reading event_said input history (found.0 ++ found.1 ∷ []) left lines found.3 in
    found.4 (step_between (empty frames) found.0 found.1 read.0 (subst (IsLegal frames) read.1 legal))
traced_is_legal frames history input left (Err (errors.BadLine number)) legal lines found =
    let read = one_reading event_said input history found.0 found.2.rest lines found.2.lines in
    not_bad found.2.rest read.0 read.2 found.2.bad
traced_is_legal frames history input left (Err errors.Read) legal lines found = tt
traced_is_legal frames history input left (Err errors.NoMemory) legal lines found = tt
