-- A check, between two lines, and how it ends.
use Rattle.std.proofs.Common.{◌≡◌, ◌≢◌, ℕ, ◌+◌, ◌-◌, ◌^◌, ◌≤◌, min, List, [], ◌∷◌, ◌++◌, length, Option, Some, None}
use Rattle.std.proofs.Common.{Result, Ok, Err, refl, sym, ap, subst, ◌∙◌}
use Rattle.std.specs.Io.KnownBytes.{Consumes, IsAtEnd}
use Rattle.checker.specs.declared.trace.TheConstants.{LONGEST_TRACE_LINE}
use Rattle.checker.specs.Traces.{event_said}
use Rattle.checker.proofs.texts.Events.{event_short}
use Rattle.dmatypes.specs.declared.reply.Event.{Event}
use Rattle.dmatypes.specs.History.{IsLegal, IsLegalFrom, after, after_from}
use Rattle.dmatypes.specs.Step.{IsStep, next}
use Rattle.dmatypes.specs.World.{World, empty}
use Rattle.streams.specs.Bytes.{IsUnbroken}
use Rattle.streams.specs.Lines.{IfKnown, LineSays, ReadToBadLine}
use Rattle.streams.proofs.Reading.{Reading, begins_reading, reads_on, reads_to_end, reads_to_failure, stops_cut, stops_long}
use Rattle.streams.proofs.Reading.{reads_all, stops_unsaid}
use Rattle.traces.specs.Checked.{Checked, CheckedKnown}
use Rattle.traces.specs.declared.checking.Judgement.{Judgement}
use Rattle.traces.specs.declared.checking.Judgement.TheVariants.{Legal, Illegal}
use Rattle.traces.specs.declared.error.CheckError.{CheckError}
use Rattle.traces.specs.declared.error.CheckError.TheVariants as errors
use Rattle.traces.specs.declared.finding.Finding.{Finding}
use Rattle.traces.specs.Findings.{IsFinding}

-- ---- a history and one event more

after_last_from : (w : World) (history : List Event) (e : Event)
    → after_from w (history ++ e ∷ []) ≡ next (after_from w history) e.call e.reply
after_last_from w [] e = refl
after_last_from w (x ∷ xs) e = after_last_from (next w x.call x.reply) xs e

legal_last_from : (w : World) (history : List Event) (e : Event) → IsLegalFrom w history
    → IsStep (after_from w history) e.call e.reply → IsLegalFrom w (history ++ e ∷ [])
legal_last_from w [] e legal step = (step, tt)
legal_last_from w (x ∷ xs) e legal step = (legal.0, legal_last_from (next w x.call x.reply) xs e legal.1 step)

-- ---- between two lines

-- the whole lines that were read say a legal history, and it leads to this world
pub record Judged (frames : ℕ) (old left : Option (List ℕ)) (w : World) (number : ℕ) : Type 0 where
  pub history : List Event
  pub reading : Reading event_said old left history number
  pub legal : IsLegal frames history
  pub world : w ≡ after frames history

pub begins : (frames : ℕ) (old : Option (List ℕ)) (w : World) → w ≡ empty frames → Judged frames old old w 1
begins frames old w is = record { history = []; reading = begins_reading event_said old; legal = tt; world = is }

-- one line more, that is a step
pub goes_on : (frames : ℕ) (old left left' : Option (List ℕ)) (w w' : World) (number : ℕ) (line : List ℕ) (e : Event)
    → Judged frames old left w number → Consumes left left' (line ++ 10 ∷ []) → LineSays event_said line e
    → IsStep w e.call e.reply × (w' ≡ next w e.call e.reply)
    → Judged frames old left' w' (min (number + 1) (2 ^ 64 - 1))
goes_on frames old left left' w w' number line e j more said step = record {
  history = j.history ++ e ∷ [];
  reading = reads_on event_said old left left' j.history number line e j.reading more said;
  legal = legal_last_from (empty frames) j.history e j.legal (subst (λ (v : World). IsStep v e.call e.reply) j.world step.0);
  world = step.1 ∙ ap (λ (v : World). next v e.call e.reply) j.world ∙ sym (after_last_from (empty frames) j.history e);
}

-- ---- the ends

-- what is shown of what was read is shown of the check
if_known : (frames : ℕ) (old left : Option (List ℕ)) (result : Result Judgement CheckError) (P : List ℕ → List ℕ → Type 0)
    → IfKnown old left P → ((input rest : List ℕ) → P input rest → Checked frames input rest result)
    → CheckedKnown frames old left result
if_known frames None left result P r h = tt
if_known frames (Some input) None result P r h = absurd r
if_known frames (Some input) (Some rest) result P r h = h input rest r

pub ends : (frames : ℕ) (old left left' : Option (List ℕ)) (w : World) (number events : ℕ) → Judged frames old left w number
    → Consumes left left' [] → IsAtEnd left' → events + 1 ≡ number → CheckedKnown frames old left' (Ok (Legal events))
ends frames old left left' w number events j none at_end is =
    if_known frames old left' (Ok (Legal events)) _ (reads_to_end event_said old left left' j.history number j.reading none at_end)
    (λ input rest read. (j.history, j.legal, read, is ∙ j.reading.place))

pub fails_reading : (frames : ℕ) (old left left' : Option (List ℕ)) (w : World) (number : ℕ) (line : List ℕ)
    → Judged frames old left w number → Consumes left left' line → IsUnbroken line → length line ≤ LONGEST_TRACE_LINE
    → CheckedKnown frames old left' (Err errors.Read)
fails_reading frames old left left' w number line j more whole few =
    if_known frames old left' (Err errors.Read) _
    (reads_to_failure event_said LONGEST_TRACE_LINE old left left' j.history number line j.reading more whole few)
    (λ input rest read. (j.history, j.legal, read))

bad : (frames : ℕ) (old left left' : Option (List ℕ)) (w : World) (number : ℕ) (j : Judged frames old left w number)
    → IfKnown old left' (λ input rest. ReadToBadLine event_said LONGEST_TRACE_LINE input rest j.history number)
    → CheckedKnown frames old left' (Err (errors.BadLine number))
bad frames old left left' w number j read =
    if_known frames old left' (Err (errors.BadLine number)) _ read (λ input rest read. (j.history, j.legal, read))

pub bad_cut : (frames : ℕ) (old left left' : Option (List ℕ)) (w : World) (number : ℕ) (line : List ℕ) → Judged frames old left w number
    → Consumes left left' line → IsUnbroken line → length line ≤ LONGEST_TRACE_LINE → line ≢ [] → IsAtEnd left'
    → CheckedKnown frames old left' (Err (errors.BadLine number))
bad_cut frames old left left' w number line j more whole few some at_end =
    bad frames old left left' w number j
    (stops_cut event_said LONGEST_TRACE_LINE old left left' j.history number line j.reading more whole few some at_end)

pub bad_long : (frames : ℕ) (old left left' : Option (List ℕ)) (w : World) (number : ℕ) (line : List ℕ) (b : ℕ)
    → Judged frames old left w number
    → Consumes left left' (line ++ b ∷ []) → IsUnbroken (line ++ b ∷ []) → length line ≡ LONGEST_TRACE_LINE
    → CheckedKnown frames old left' (Err (errors.BadLine number))
bad_long frames old left left' w number line b j more whole long =
    bad frames old left left' w number j
    (stops_long event_said LONGEST_TRACE_LINE old left left' j.history number line b j.reading event_short more whole long)

pub bad_unsaid : (frames : ℕ) (old left left' : Option (List ℕ)) (w : World) (number : ℕ) (line : List ℕ) → Judged frames old left w number
    → Consumes left left' (line ++ 10 ∷ []) → IsUnbroken line → length line ≤ LONGEST_TRACE_LINE → event_said line ≡ None
    → CheckedKnown frames old left' (Err (errors.BadLine number))
bad_unsaid frames old left left' w number line j more whole few unsaid =
    bad frames old left left' w number j
    (stops_unsaid event_said LONGEST_TRACE_LINE old left left' j.history number line j.reading more whole few unsaid)

-- one line more, and memory lacks
pub lacks_memory : (frames : ℕ) (old left left' : Option (List ℕ)) (w : World) (number : ℕ) (line : List ℕ) (e : Event)
    → Judged frames old left w number → Consumes left left' (line ++ 10 ∷ []) → LineSays event_said line e
    → CheckedKnown frames old left' (Err errors.NoMemory)
lacks_memory frames old left left' w number line e j more said =
    if_known frames old left' (Err errors.NoMemory) _
    (reads_all event_said old left' (j.history ++ e ∷ []) (min (number + 1) (2 ^ 64 - 1))
    (reads_on event_said old left left' j.history number line e j.reading more said)) (λ input rest read. (j.history, e, j.legal, read))

-- one line more, that is no step
pub is_illegal : (frames : ℕ) (old left left' : Option (List ℕ)) (w w' : World) (number : ℕ) (line : List ℕ) (e : Event) (finding : Finding)
    → Judged frames old left w number → Consumes left left' (line ++ 10 ∷ []) → LineSays event_said line e
    → (IsStep w e.call e.reply → ⊥) × (w' ≡ w) → IsFinding w' number e finding
    → CheckedKnown frames old left' (Ok (Illegal finding))
is_illegal frames old left left' w w' number line e finding j more said step found =
    if_known frames old left' (Ok (Illegal finding)) _
    (reads_all event_said old left' (j.history ++ e ∷ []) (min (number + 1) (2 ^ 64 - 1))
    (reads_on event_said old left left' j.history number line e j.reading more said))
    (λ input rest read. (
      j.history,
      e,
      j.legal,
      read,
      subst (λ (v : World). IsStep v e.call e.reply → ⊥) j.world step.0,
      subst (λ (n : ℕ). IsFinding (after frames j.history) n e finding) j.reading.place
          (subst (λ (v : World). IsFinding v number e finding) (step.1 ∙ j.world) found),
    ))
