-- What is found of a history.
use Rattle.std.specs.Prelude.{◌≡◌, ℕ, List, length, take, Some, slice_get, suc}
use Rattle.dmatypes.specs.declared.reply.Event.{Event}
use Rattle.dmatypes.specs.Step.{IsStep}
use Rattle.dmatypes.specs.History.{IsLegal, after}
use Rattle.checker.specs.declared.verdict.Verdict.{Verdict}
use Rattle.checker.specs.declared.verdict.Verdict.TheVariants.{Legal, Illegal}

-- the events before the event of this number, from 1, are a legal history, and this one is no step after them
abbrev pub IsFirstIllegal : ℕ → List Event → ℕ → Type 0
IsFirstIllegal frames history number =
    (k : ℕ) × (e : Event) × (number ≡ suc k) × (slice_get history k ≡ Some e) × IsLegal frames (take k history)
    × (IsStep (after frames (take k history)) e.call e.reply → ⊥)

-- the whole history is legal, and has so many events; or an event is the first that is no step
abbrev pub IsVerdict : ℕ → List Event → Verdict → Type 0
IsVerdict frames history (Legal events) = IsLegal frames history × (events ≡ length history)
IsVerdict frames history (Illegal number) = IsFirstIllegal frames history number

-- a history has no two verdicts: so each is found exactly where it holds
abbrev pub OneVerdict : Type 0
OneVerdict =
    (frames : ℕ) (history : List Event) (one other : Verdict) → IsVerdict frames history one → IsVerdict frames history other
    → one ≡ other
