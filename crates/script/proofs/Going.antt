-- A run, between two lines, and how it ends.
use Rattle.std.proofs.Common.{◌≡◌, ◌≢◌, ℕ, ◌+◌, ◌-◌, ◌^◌, ◌≤◌, min, Bool, List, [], ◌∷◌, ◌++◌, length, Option, Some, None, Result, Ok, Err}
use Rattle.std.proofs.Common.{refl, sym, ap, subst, ◌∙◌, ◌⊎◌, inl, inr}
use Rattle.std.specs.Io.KnownBytes.{Consumes, IsAtEnd}
use Rattle.std.proofs.lemmas.List.{append-nil}
use Rattle.dmatypes.specs.declared.call.Call.{Call}
use Rattle.dmatypes.specs.declared.limits.TheConstants.{LONGEST_LINE}
use Rattle.dmatypes.specs.Grammar.{says}
use Rattle.dmatypes.proofs.texts.Lengths.{says_short}
use Rattle.engine.proofs.states.New.{new_state, new_is_new}
use Rattle.manager.specs.Kept.{Book, IsKept}
use Rattle.script.specs.declared.answering.Replies.{Replies}
use Rattle.script.specs.declared.error.RunError.{RunError}
use Rattle.script.specs.declared.error.RunError.TheVariants as errors
use Rattle.script.specs.Reported.{GoneThrough, GoneThroughKnown}
use Rattle.script.specs.Run.{AnswersOne, Outcome, Ran, RanKnown, Size, WroteAll, shown_of}
use Rattle.script.proofs.Entering.{Entered, entered_none, entered_more, outcome}
use Rattle.streams.specs.Bytes.{IsUnbroken, Sent}
use Rattle.streams.specs.Lines.{IfKnown, LineSays, ReadToBadLine}
use Rattle.streams.proofs.Known.{sent_nothing, sent_more, sent_on}
use Rattle.streams.proofs.Reading.{Reading, begins_reading, reads_on, reads_partly, reads_to_end, reads_to_failure, stops_cut, stops_long}
use Rattle.streams.proofs.Reading.{stops_unsaid}

-- the whole lines that were read say calls, and those are answered
pub record Going (replies : Replies) (size : Size) (old left before : Option (List ℕ)) (pending : List ℕ) (after : Option (List ℕ))
    (block : List ℕ) (book : Book) (number : ℕ) : Type 0 where
  pub calls : List Call
  pub reading : Reading says old left calls number
  pub shown : List ℕ
  pub wrote : Sent before after pending block shown
  pub kept_room : ℕ
  pub kept : IsKept size.frames kept_room size.caching size.room book
  pub entered : Entered replies size.room book.history calls shown

pub begins : (replies : Replies) (size : Size) (old before : Option (List ℕ)) (pending : List ℕ) (book : Book) (room : ℕ)
    → IsKept size.frames room size.caching size.room book → book.history ≡ []
    → Going replies size old old before pending before pending book 1
begins replies size old before pending book room kept none = record {
  calls = [];
  reading = begins_reading says old;
  shown = [];
  wrote = sent_nothing before pending;
  kept_room = room;
  kept = kept;
  entered = rw none (entered_none replies size.room);
}

-- one line more
pub goes_on : (replies : Replies) (size : Size) (old left left' before : Option (List ℕ)) (pending : List ℕ)
    (after after' after'' : Option (List ℕ)) (block block' block'' : List ℕ) (book book' : Book) (number : ℕ) (line : List ℕ)
    (call : Call) (entered : Bool) (text : List ℕ) (room : ℕ)
    → Going replies size old left before pending after block book number
    → Consumes left left' (line ++ 10 ∷ []) → LineSays says line call → Sent after after' block block' []
    → IsKept size.frames room size.caching size.room book' → AnswersOne size.room book book' call entered text
    → Sent after' after'' block' block'' (shown_of replies line entered text)
    → Going replies size old left' before pending after'' block'' book' (min (number + 1) (2 ^ 64 - 1))
goes_on replies size old left left' before pending after after' after'' block block' block'' book book' number line call entered text
    room g more said sent kept one put = record {
      calls = g.calls ++ call ∷ [];
      reading = reads_on says old left left' g.calls number line call g.reading more said;
      shown = g.shown ++ shown_of replies line entered text;
      wrote = sent_more before after' after'' pending block' block'' g.shown (shown_of replies line entered text)
          (sent_on before after after' pending block block' g.shown g.wrote sent) put;
      kept_room = room;
      kept = kept;
      entered = entered_more replies size book book' g.calls g.shown line call entered text g.entered kept said one;
    }

-- ---- what is to show where the bytes are known

known : {U : Type 0} (replies : Replies) (size : Size) (old left before : Option (List ℕ)) (pending : List ℕ) (after : Option (List ℕ))
    (block shown : List ℕ) (book : Book) (result : Result U RunError) (P : List ℕ → List ℕ → Type 0) → IfKnown old left P
    → Sent before after pending block shown
    → ((input rest from to : List ℕ) → P input rest → ((front : List ℕ) × (to ≡ from ++ front) × (front ++ block ≡ pending ++ shown))
    → GoneThrough replies size input rest from pending to book result)
    → GoneThroughKnown replies size old left before pending after book result
known replies size None left before pending after block shown book result P r s h = tt
known replies size (Some input) None before pending after block shown book result P r s h = absurd r
known replies size (Some input) (Some rest) None pending after block shown book result P r s h = tt
known replies size (Some input) (Some rest) (Some from) pending None block shown book result P r s h = absurd s.1
known replies size (Some input) (Some rest) (Some from) pending (Some to) block shown book result P r s h =
    h input rest from to r (s.0, s.1, s.2)

wrote_all : (from to pending shown : List ℕ) → ((front : List ℕ) × (to ≡ from ++ front) × (front ++ [] ≡ pending ++ shown))
    → WroteAll from pending to shown
wrote_all from to pending shown s = s.1 ∙ ap (λ (r : List ℕ). from ++ r) (sym (append-nil s.0) ∙ s.2)

-- ---- the ends

pub ends : {U : Type 0} (replies : Replies) (size : Size) (old left left' before : Option (List ℕ)) (pending : List ℕ)
    (after after' : Option (List ℕ)) (block : List ℕ) (book : Book) (number : ℕ) (u : U)
    → Going replies size old left before pending after block book number
    → Consumes left left' [] → IsAtEnd left' → Sent after after' block [] []
    → GoneThroughKnown replies size old left' before pending after' book (Ok u)
unfolding outcome
ends replies size old left left' before pending after after' block book number u g none at_end sent =
    known replies size old left' before pending after' [] g.shown book (Ok u) _
    (reads_to_end says old left left' g.calls number g.reading none at_end)
    (sent_on before after after' pending block [] g.shown g.wrote sent) (λ input rest from to read s. (
      g.shown,
      wrote_all from to pending g.shown s,
      (
        record {
          calls = g.calls;
          read = read;
          outcome = outcome replies size book g.calls g.shown g.kept g.entered;
          is_shown = g.entered.is_shown;
        },
        record { history = refl; state = refl },
      ),
    ))

pub fails_reading : (U : Type 0) (replies : Replies) (size : Size) (old left left' before : Option (List ℕ)) (pending : List ℕ)
    (after after' : Option (List ℕ)) (block : List ℕ) (book : Book) (number : ℕ) (line : List ℕ)
    → Going replies size old left before pending after block book number
    → Consumes left left' line → IsUnbroken line → length line ≤ LONGEST_LINE → Sent after after' block [] []
    → GoneThroughKnown {U = U} replies size old left' before pending after' book (Err errors.Read)
unfolding outcome
fails_reading U replies size old left left' before pending after after' block book number line g more whole few sent =
    known {U = U} replies size old left' before pending after' [] g.shown book (Err errors.Read) _
    (reads_to_failure says LONGEST_LINE old left left' g.calls number line g.reading more whole few)
    (sent_on before after after' pending block [] g.shown g.wrote sent) (λ input rest from to read s. (
      g.shown,
      wrote_all from to pending g.shown s,
      (
        record {
          calls = g.calls;
          read = read;
          outcome = outcome replies size book g.calls g.shown g.kept g.entered;
          is_shown = g.entered.is_shown;
        },
        record { history = refl; state = refl },
      ),
    ))

-- a bad line
stops : (U : Type 0) (replies : Replies) (size : Size) (old left left' before : Option (List ℕ)) (pending : List ℕ)
    (after after' : Option (List ℕ)) (block : List ℕ) (book : Book) (number : ℕ)
    (g : Going replies size old left before pending after block book number)
    → IfKnown old left' (λ input rest. ReadToBadLine says LONGEST_LINE input rest g.calls number) → Sent after after' block [] []
    → GoneThroughKnown {U = U} replies size old left' before pending after' book (Err (errors.BadLine number))
unfolding outcome
stops U replies size old left left' before pending after after' block book number g bad sent =
    known {U = U} replies size old left' before pending after' [] g.shown book (Err (errors.BadLine number)) _ bad
    (sent_on before after after' pending block [] g.shown g.wrote sent) (λ input rest from to read s. (
      g.shown,
      wrote_all from to pending g.shown s,
      (
        record {
          calls = g.calls;
          read = read;
          outcome = outcome replies size book g.calls g.shown g.kept g.entered;
          is_shown = g.entered.is_shown;
        },
        record { history = refl; state = refl },
      ),
    ))

pub ends_cut : (U : Type 0) (replies : Replies) (size : Size) (old left left' before : Option (List ℕ)) (pending : List ℕ)
    (after after' : Option (List ℕ)) (block : List ℕ) (book : Book) (number : ℕ) (line : List ℕ)
    → Going replies size old left before pending after block book number
    → Consumes left left' line → IsUnbroken line → length line ≤ LONGEST_LINE → line ≢ [] → IsAtEnd left' → Sent after after' block [] []
    → GoneThroughKnown {U = U} replies size old left' before pending after' book (Err (errors.BadLine number))
ends_cut U replies size old left left' before pending after after' block book number line g more whole few some at_end sent =
    stops U replies size old left left' before pending after after' block book number g
    (stops_cut says LONGEST_LINE old left left' g.calls number line g.reading more whole few some at_end) sent

pub ends_long : (U : Type 0) (replies : Replies) (size : Size) (old left left' before : Option (List ℕ)) (pending : List ℕ)
    (after after' : Option (List ℕ)) (block : List ℕ) (book : Book) (number : ℕ) (line : List ℕ) (b : ℕ)
    → Going replies size old left before pending after block book number
    → Consumes left left' (line ++ b ∷ []) → IsUnbroken (line ++ b ∷ []) → length line ≡ LONGEST_LINE → Sent after after' block [] []
    → GoneThroughKnown {U = U} replies size old left' before pending after' book (Err (errors.BadLine number))
ends_long U replies size old left left' before pending after after' block book number line b g more whole long sent =
    stops U replies size old left left' before pending after after' block book number g
    (stops_long says LONGEST_LINE old left left' g.calls number line b g.reading says_short more whole long) sent

pub ends_unsaid : (U : Type 0) (replies : Replies) (size : Size) (old left left' before : Option (List ℕ)) (pending : List ℕ)
    (after after' : Option (List ℕ)) (block : List ℕ) (book : Book) (number : ℕ) (line : List ℕ)
    → Going replies size old left before pending after block book number
    → Consumes left left' (line ++ 10 ∷ []) → IsUnbroken line → length line ≤ LONGEST_LINE → says line ≡ None
    → Sent after after' block [] []
    → GoneThroughKnown {U = U} replies size old left' before pending after' book (Err (errors.BadLine number))
ends_unsaid U replies size old left left' before pending after after' block book number line g more whole few unsaid sent =
    stops U replies size old left left' before pending after after' block book number g
    (stops_unsaid says LONGEST_LINE old left left' g.calls number line g.reading more whole few unsaid) sent

-- a write failed: of what is shown of the whole lines before, a beginning is written
pub fails_writing : (U : Type 0) (replies : Replies) (size : Size) (old left left' before : Option (List ℕ)) (pending : List ℕ)
    (after after' : Option (List ℕ)) (block block' : List ℕ) (book book' : Book) (number : ℕ) (line : List ℕ)
    → Going replies size old left before pending after block book number
    → Consumes left left' line → Sent after after' block block' []
    → GoneThroughKnown {U = U} replies size old left' before pending after' book' (Err errors.Write)
unfolding outcome
fails_writing U replies size old left left' before pending after after' block block' book book' number line g more sent =
    known {U = U} replies size old left' before pending after' block' g.shown book' (Err errors.Write) _
    (reads_partly says old left left' g.calls number line g.reading more)
    (sent_on before after after' pending block block' g.shown g.wrote sent) (λ input rest from to read s. (
      g.shown,
      (s.0, block', s.1, s.2),
      record {
        calls = g.calls;
        read = read;
        outcome = outcome replies size book g.calls g.shown g.kept g.entered;
        is_shown = g.entered.is_shown;
      },
    ))

-- a bad line stops the run, or the write that comes first fails
pub stopped : (U : Type 0) (replies : Replies) (size : Size) (old left left' before : Option (List ℕ)) (pending : List ℕ)
    (after after' after'' : Option (List ℕ)) (block block' block'' : List ℕ) (book : Book) (number : ℕ) (line : List ℕ)
    (result : Result U RunError) (F G : Type 0)
    → Going replies size old left before pending after block book number
    → Consumes left left' line → Sent after after' block block' [] → Sent after' after'' block' block'' []
    → (((result ≡ Err (errors.BadLine number)) × (block'' ≡ []) × F) ⊎ ((result ≡ Err errors.Write) × G))
    → (Sent after after'' block [] [] → GoneThroughKnown {U = U} replies size old left' before pending after'' book
    (Err (errors.BadLine number))) → GoneThroughKnown replies size old left' before pending after'' book result
stopped U replies size old left left' before pending after after' after'' block block' block'' book number line result F G g more sent
    flushed (inl h) bad =
    let both = sent_on after after' after'' block block' block'' [] sent flushed in
    rw h.0 (bad (subst (λ (b : List ℕ). Sent after after'' block b []) h.1 both))
stopped U replies size old left left' before pending after after' after'' block block' block'' book number line result F G g more sent
    flushed (inr h) bad =
    rw h.0 (fails_writing U replies size old left left' before pending after after'' block block'' book book number line g more
    (sent_on after after' after'' block block' block'' [] sent flushed))

-- ---- a run

gone_through_ran : (U : Type 0) (replies : Replies) (size : Size) (input left before pending after : List ℕ) (book : Book)
    (result : Result U RunError) → GoneThrough replies size input left before pending after book result
    → Ran replies size input left before pending after result
gone_through_ran U replies size input left before pending after book (Ok u) w = (w.0, w.1, w.2.0)
gone_through_ran U replies size input left before pending after book (Err (errors.BadLine k)) w = (w.0, w.1, w.2.0)
gone_through_ran U replies size input left before pending after book (Err errors.Read) w = (w.0, w.1, w.2.0)
gone_through_ran U replies size input left before pending after book (Err errors.Write) w = w
gone_through_ran U replies size input left before pending after book (Err errors.NoMemory) w = w

pub run_known : (U : Type 0) (replies : Replies) (size : Size) (old left before : Option (List ℕ)) (pending : List ℕ)
    (after : Option (List ℕ)) (book : Book) (result : Result U RunError)
    → GoneThroughKnown replies size old left before pending after book result
    → RanKnown replies size old left before pending after result
run_known U replies size None left before pending after book result w = tt
run_known U replies size (Some input) None before pending after book result w = absurd w
run_known U replies size (Some input) (Some left) None pending after book result w = tt
run_known U replies size (Some input) (Some left) (Some before) pending None book result w = absurd w
run_known U replies size (Some input) (Some left) (Some before) pending (Some after) book result w =
    gone_through_ran U replies size input left before pending after book result w

-- no line is answered
abbrev none_called : (replies : Replies) (size : Size) → Outcome size []
none_called replies size = record {
  history = [];
  state = new_state size.frames size.caching;
  legal = tt;
  along = (new_state size.frames size.caching, (new_is_new size.frames size.caching, refl));
  calls_are = (entered_none replies size.room).calls_are;
}

-- nothing was made
pub no_memory : (U : Type 0) (replies : Replies) (size : Size) (old before : Option (List ℕ)) (pending : List ℕ)
    → RanKnown {U = U} replies size old old before pending before (Err errors.NoMemory)
no_memory U replies size None before pending = tt
no_memory U replies size (Some input) None pending = tt
no_memory U replies size (Some input) (Some from) pending = (
  [],
  ([], pending, sym (append-nil from), sym (append-nil pending)),
  record {
    calls = [];
    read = record { rest = input; lines = refl };
    outcome = none_called replies size;
    is_shown = (entered_none replies size.room).is_shown;
  },
)
