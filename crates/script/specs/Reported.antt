-- What a report reads and writes. A report is of the history and the state that a script's calls lead to. It ends as the script did, at a
-- failed write, or for want of memory.
use Rattle.std.specs.Prelude.{◌≡◌, ◌↔◌, ◌⊎◌, ℕ, Bool, true, IsErrOf, List, [], ◌++◌, length, Option, Result, Ok, Err}
use Rattle.dmatypes.specs.declared.call.Call.{Call}
use Rattle.manager.specs.Kept.{Book}
use Rattle.manager.specs.Report.{report_text}
use Rattle.script.specs.Run.{Outcome, RanKnown, RanPartly, RanToBadLine, RanToEnd, RanToFailedRead, Size, WroteAll, WroteFront}
use Rattle.script.specs.declared.answering.Replies.{Replies}
use Rattle.script.specs.declared.answering.Replies.TheVariants.{Written, Traced, Silent}
use Rattle.script.specs.declared.error.RunError.{RunError}
use Rattle.script.specs.declared.error.RunError.TheVariants as errors
use Rattle.script.specs.declared.running.Output.{Output}
use Rattle.script.specs.declared.running.Output.TheVariants as outputs
use Rattle.streams.specs.Bytes.{Sent, SentFront}
use Rattle.streams.specs.Lines.{IfKnown}

-- ---- a script, and the book that it led to

-- the calls lead to this history and this state
pub record IsOf (book : Book) (size : Size) (calls : List Call) (outcome : Outcome size calls) : Type 0 where
  pub history : outcome.history ≡ book.history
  pub state : outcome.state ≡ book.state

-- a script was run through, and it led to this history and this state
abbrev pub GoneThrough : {U : Type 0} → Replies → Size → (input left before pending after : List ℕ) → Book → Result U RunError → Type 0
GoneThrough replies size input left before pending after book (Ok u) = (shown : List ℕ) × WroteAll before pending after shown
    × ((ran : RanToEnd replies size input left shown) × IsOf book size ran.calls ran.outcome)
GoneThrough replies size input left before pending after book (Err (errors.BadLine k)) =
    (shown : List ℕ) × WroteAll before pending after shown
    × ((ran : RanToBadLine replies size input left shown k) × IsOf book size ran.calls ran.outcome)
GoneThrough replies size input left before pending after book (Err errors.Read) = (shown : List ℕ) × WroteAll before pending after shown
    × ((ran : RanToFailedRead replies size input left shown) × IsOf book size ran.calls ran.outcome)
GoneThrough replies size input left before pending after book (Err errors.Write) =
    (shown : List ℕ) × WroteFront before pending after shown × RanPartly replies size input shown
GoneThrough replies size input left before pending after book (Err errors.NoMemory) =
    (shown : List ℕ) × WroteFront before pending after shown × RanPartly replies size input shown

-- the same where the reader and the writer tell their bytes
abbrev pub GoneThroughKnown : {U : Type 0} → Replies → Size → (input left before : Option (List ℕ)) → List ℕ → Option (List ℕ) → Book
    → Result U RunError → Type 0
GoneThroughKnown replies size input left before pending after book result =
    IfKnown input left (λ i l. IfKnown before after (λ b a. GoneThrough replies size i l b pending a book result))

-- ---- a report

-- the report of the history and the state that calls lead to
abbrev pub report_of : (size : Size) (calls : List Call) → Outcome size calls → List ℕ
report_of size calls outcome = report_text (length outcome.history) outcome.state

-- a script was run through in silence, and what is told of the report of where it leads is written, or a beginning of that where a
-- write fails. With no memory nothing was read and nothing is written
abbrev pub ReportedAs : {U : Type 0} → (List ℕ → List ℕ) → Size → (input left before pending after : List ℕ) → Result U RunError → Type 0
ReportedAs told size input left before pending after (Ok u) =
    (ran : RanToEnd Silent size input left []) × WroteAll before pending after (told (report_of size ran.calls ran.outcome))
ReportedAs told size input left before pending after (Err (errors.BadLine k)) =
    (ran : RanToBadLine Silent size input left [] k) × WroteAll before pending after (told (report_of size ran.calls ran.outcome))
ReportedAs told size input left before pending after (Err errors.Read) =
    (ran : RanToFailedRead Silent size input left []) × WroteAll before pending after (told (report_of size ran.calls ran.outcome))
ReportedAs told size input left before pending after (Err errors.Write) =
    (ran : RanPartly Silent size input []) × WroteFront before pending after (told (report_of size ran.calls ran.outcome))
ReportedAs told size input left before pending after (Err errors.NoMemory) = (left ≡ input) × (after ≡ before)

-- the same where the reader and the writer tell their bytes
abbrev pub ReportedAsKnown : {U : Type 0} → (List ℕ → List ℕ) → Size → (input left before : Option (List ℕ)) → List ℕ → Option (List ℕ)
    → Result U RunError → Type 0
ReportedAsKnown told size input left before pending after result =
    IfKnown input left (λ i l. IfKnown before after (λ b a. ReportedAs told size i l b pending a result))

-- the report alone is told
abbrev pub ReportedKnown : {U : Type 0} → Size → (input left before : Option (List ℕ)) → List ℕ → Option (List ℕ) → Result U RunError
    → Type 0
ReportedKnown size input left before pending after result = ReportedAsKnown (λ report. report) size input left before pending after result

-- the report is told, and after it a drawing, of which no more is said
abbrev pub DrawnKnown : {U : Type 0} → Size → (input left before : Option (List ℕ)) → List ℕ → Option (List ℕ) → Result U RunError
    → Type 0
DrawnKnown size input left before pending after result =
    (drawing : List ℕ) × ReportedAsKnown (λ report. report ++ drawing) size input left before pending after result

-- this text was written after what was still to be written, and the end stands; or a front of these, and the write
-- failed. Nothing follows a write that failed before
abbrev pub Concludes : {U : Type 0} → (before after : Option (List ℕ)) → (block rest text : List ℕ) → (end result : Result U RunError)
    → Type 0
Concludes before after block rest text (Err errors.Write) result = (result ≡ Err errors.Write) × (after ≡ before)
Concludes before after block rest text end result =
    ((result ≡ end) × (rest ≡ []) × Sent before after block [] text) ⊎ ((result ≡ Err errors.Write) × SentFront before after block text)

-- ---- a run or a report

-- what is written of calls: their answers, or their trace, or nothing, where a report comes in its place
abbrev pub replies_of : Output → Replies
replies_of outputs.Answers = Written
replies_of outputs.Trace = Traced
replies_of (outputs.Report text) = Silent
replies_of (outputs.Drawing text) = Silent

-- a script was answered or traced, or its report was written, alone or before a drawing
abbrev pub OutputKnown : {U : Type 0} → Output → Size → (input left before : Option (List ℕ)) → List ℕ → Option (List ℕ)
    → Result U RunError → Type 0
OutputKnown outputs.Answers size input left before pending after result = RanKnown Written size input left before pending after result
OutputKnown outputs.Trace size input left before pending after result = RanKnown Traced size input left before pending after result
OutputKnown (outputs.Report text) size input left before pending after result = ReportedKnown size input left before pending after result
OutputKnown (outputs.Drawing text) size input left before pending after result = DrawnKnown size input left before pending after result

-- a reader of which no report could be written failed too, and the write's failure is the end
abbrev pub ReportReaderEnds : {U : Type 0} → Bool → Result U RunError → Type 0
ReportReaderEnds failed result = (IsErrOf result errors.Read → failed ≡ true)
    × (failed ≡ true → IsErrOf result errors.Read ⊎ IsErrOf result errors.Write)

-- the reader has failed exactly at `Read`; but where a report can't be written, that is the answer in its place
abbrev pub ReaderEnds : {U : Type 0} → Output → Bool → Result U RunError → Type 0
ReaderEnds outputs.Answers failed result = (failed ≡ true) ↔ IsErrOf result errors.Read
ReaderEnds outputs.Trace failed result = (failed ≡ true) ↔ IsErrOf result errors.Read
ReaderEnds (outputs.Report text) failed result = ReportReaderEnds failed result
ReaderEnds (outputs.Drawing text) failed result = ReportReaderEnds failed result
