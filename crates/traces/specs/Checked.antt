-- What a check reads, and what it finds.
use Rattle.std.specs.Prelude.{◌≡◌, ℕ, ◌+◌, ◌-◌, ◌^◌, min, List, [], ◌∷◌, ◌++◌, length, Option, Result, Ok, Err}
use Rattle.checker.specs.declared.trace.TheConstants.{LONGEST_TRACE_LINE}
use Rattle.checker.specs.Traces.{event_said}
use Rattle.dmatypes.specs.declared.reply.Event.{Event}
use Rattle.dmatypes.specs.History.{IsLegal, after}
use Rattle.dmatypes.specs.Step.{IsStep}
use Rattle.streams.specs.Lines.{IfKnown, LinesSay, ReadToBadLine, ReadToEnd, ReadToFailure}
use Rattle.traces.specs.declared.checking.Judgement.{Judgement}
use Rattle.traces.specs.declared.checking.Judgement.TheVariants.{Legal, Illegal}
use Rattle.traces.specs.declared.error.CheckError.{CheckError}
use Rattle.traces.specs.declared.error.CheckError.TheVariants as errors
use Rattle.traces.specs.Findings.{IsFinding}

-- the number of the line behind these events; the count stops at the greatest u64
abbrev pub line_behind : List Event → ℕ
line_behind events = min (length events + 1) (2 ^ 64 - 1)

-- what was there to read and what of it is left. The whole of it is the trace of a legal history, or that of a legal history and of an
-- event that is no step after it. Or what follows the trace of a legal history is no line of a trace, or can't be read. Or memory
-- lacked, to judge an event after those of a legal history or to tell what stands against it
abbrev pub Checked : ℕ → (input left : List ℕ) → Result Judgement CheckError → Type 0
Checked frames input left (Ok (Legal events)) = (history : List Event) × IsLegal frames history
    × ReadToEnd event_said input left history × (events + 1 ≡ line_behind history)
Checked frames input left (Ok (Illegal finding)) = (history : List Event) × (e : Event) × IsLegal frames history
    × LinesSay event_said input (history ++ e ∷ []) left × (IsStep (after frames history) e.call e.reply → ⊥)
    × IsFinding (after frames history) (line_behind history) e finding
Checked frames input left (Err (errors.BadLine number)) = (history : List Event) × IsLegal frames history
    × ReadToBadLine event_said LONGEST_TRACE_LINE input left history number
Checked frames input left (Err errors.Read) = (history : List Event) × IsLegal frames history
    × ReadToFailure event_said LONGEST_TRACE_LINE input left history
Checked frames input left (Err errors.NoMemory) = (history : List Event) × (e : Event) × IsLegal frames history
    × LinesSay event_said input (history ++ e ∷ []) left

-- the same where the reader tells its bytes
abbrev pub CheckedKnown : ℕ → (input left : Option (List ℕ)) → Result Judgement CheckError → Type 0
CheckedKnown frames input left result = IfKnown input left (λ i l. Checked frames i l result)

-- ---- a trace that is legal

-- legal, with so many events; or it wasn't read to its end
abbrev pub IsLegalIfRead : List Event → Result Judgement CheckError → Type 0
IsLegalIfRead history (Ok (Legal events)) = events + 1 ≡ line_behind history
IsLegalIfRead history (Ok (Illegal finding)) = ⊥
IsLegalIfRead history (Err (errors.BadLine number)) = ⊥
IsLegalIfRead history (Err errors.Read) = Unit {0}
IsLegalIfRead history (Err errors.NoMemory) = Unit {0}

-- the trace of a legal history is found legal
abbrev pub TracedIsLegal : Type 0
TracedIsLegal =
    (frames : ℕ) (history : List Event) (input left : List ℕ) (result : Result Judgement CheckError) → IsLegal frames history
    → LinesSay event_said input history [] → Checked frames input left result → IsLegalIfRead history result
