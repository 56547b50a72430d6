-- A script's trace, checked.
use Rattle.std.specs.Prelude.{ℕ, List, [], Result, Err}
use Rattle.checker.specs.Traces.{event_said}
use Rattle.dmatypes.specs.declared.reply.Event.{Event}
use Rattle.dmatypes.specs.History.{IsLegal}
use Rattle.script.specs.declared.answering.Replies.TheVariants.{Traced}
use Rattle.script.specs.declared.error.RunError.{RunError}
use Rattle.script.specs.declared.error.RunError.TheVariants as errors
use Rattle.script.specs.Run.{Ran, Size}
use Rattle.streams.specs.Lines.{LinesSay}
use Rattle.traces.specs.Checked.{Checked, IsLegalIfRead}
use Rattle.traces.specs.declared.checking.Judgement.{Judgement}
use Rattle.traces.specs.declared.error.CheckError.{CheckError}

-- what was to be written is written whole
abbrev pub IsWhole : Result (Unit {0}) RunError → Type 0
IsWhole (Err errors.Write) = ⊥
IsWhole (Err errors.NoMemory) = ⊥
IsWhole end = Unit {0}

-- the trace of a script, whole, tells a legal history, all of it. A check of as many table frames finds it legal, where it is read to
-- its end, with as many events
abbrev pub TraceIsFoundLegal : Type 0
TraceIsFoundLegal =
    (size : Size) (input left traced : List ℕ) (end : Result (Unit {0}) RunError) (rest : List ℕ) (found : Result Judgement CheckError)
    → IsWhole end → Ran Traced size input left [] [] traced end → Checked size.frames traced rest found
    → (history : List Event) × IsLegal size.frames history × LinesSay event_said traced history [] × IsLegalIfRead history found
