-- What a run reads and writes.
use Rattle.std.specs.Prelude.{◌≡◌, ℕ, ◌-◌, ◌<◌, Bool, true, false, List, [], ◌∷◌, ◌++◌, length, take, map, replicate, Option, Result, Ok}
use Rattle.std.specs.Prelude.{Err, codes}
use Rattle.std.specs.List.{flat_map}
use Rattle.checker.specs.Traces.{event_said}
use Rattle.dmatypes.specs.declared.call.Call.{Call}
use Rattle.dmatypes.specs.declared.limits.TheConstants.{LONGEST_LINE}
use Rattle.dmatypes.specs.declared.refusal.Refusal.TheVariants as refusals
use Rattle.dmatypes.specs.declared.reply.Event.{Event}
use Rattle.dmatypes.specs.declared.reply.Reply.{Reply}
use Rattle.dmatypes.specs.declared.reply.Reply.TheVariants.{Refused}
use Rattle.dmatypes.specs.Grammar.{says}
use Rattle.dmatypes.specs.History.{IsLegal, event}
use Rattle.dmatypes.specs.Replying.{HasSmallNumbers}
use Rattle.dmatypes.specs.Text.{line_of, text}
use Rattle.engine.specs.State.{State}
use Rattle.engine.specs.Steps.{GoesTo}
use Rattle.manager.specs.Kept.{Book}
use Rattle.script.specs.declared.answering.Replies.{Replies}
use Rattle.script.specs.declared.answering.Replies.TheVariants.{Written, Traced, Silent}
use Rattle.script.specs.declared.error.RunError.{RunError}
use Rattle.script.specs.declared.error.RunError.TheVariants as errors
use Rattle.streams.specs.Lines.{IfKnown, LinesSay, ReadPartly, ReadToBadLine, ReadToEnd, ReadToFailure}

-- ---- where calls lead, and what is written of it

-- what manager it is: its table frames, how many calls its history has at most, and whether its unit has Caching Mode
pub record Size : Type 0 where
  pub frames : ℕ
  pub room : ℕ
  pub caching : Bool

abbrev pub call_of : Event → Call
call_of e = e.call

-- where these calls lead: a legal history of the first of them, as many as there is room for. It follows states from a new one of that
-- mode to this one by what the state's methods do
pub record Outcome (size : Size) (calls : List Call) : Type 0 where
  pub history : List Event
  pub state : State
  pub legal : IsLegal size.frames history
  pub along : GoesTo size.frames size.caching history state
  pub calls_are : map call_of history ≡ take size.room calls

-- the line of a call for which the history has no room
abbrev pub refusal_line : List ℕ
refusal_line = line_of (Refused refusals.HistoryFull)

-- what is written of calls and the history of those that were entered: the text of the history, and then a refusal for each further
-- call; or the trace of the history; or nothing
abbrev pub IsShown : Replies → ℕ → List Call → List Event → List ℕ → Type 0
IsShown Written room calls history shown =
    shown ≡ text history ++ flat_map line_of (replicate (length calls - room) (Refused refusals.HistoryFull))
IsShown Traced room calls history shown = LinesSay event_said shown history []
IsShown Silent room calls history shown = shown ≡ []

-- ---- a run: what was there to read and what of it is left, where the calls lead, and what was written of it

-- all was read, and no line is bad
pub record RanToEnd (replies : Replies) (size : Size) (input left shown : List ℕ) : Type 0 where
  pub calls : List Call
  pub read : ReadToEnd says input left calls
  pub outcome : Outcome size calls
  pub is_shown : IsShown replies size.room calls outcome.history shown

-- the first bad line has this number
pub record RanToBadLine (replies : Replies) (size : Size) (input left shown : List ℕ) (number : ℕ) : Type 0 where
  pub calls : List Call
  pub read : ReadToBadLine says LONGEST_LINE input left calls number
  pub outcome : Outcome size calls
  pub is_shown : IsShown replies size.room calls outcome.history shown

-- the reader failed
pub record RanToFailedRead (replies : Replies) (size : Size) (input left shown : List ℕ) : Type 0 where
  pub calls : List Call
  pub read : ReadToFailure says LONGEST_LINE input left calls
  pub outcome : Outcome size calls
  pub is_shown : IsShown replies size.room calls outcome.history shown

-- of whole lines at the beginning of the script
pub record RanPartly (replies : Replies) (size : Size) (input shown : List ℕ) : Type 0 where
  pub calls : List Call
  pub read : ReadPartly says input calls
  pub outcome : Outcome size calls
  pub is_shown : IsShown replies size.room calls outcome.history shown

-- ---- what is written: the bytes that were there, then those that were still to be written, then what is shown

abbrev pub WroteAll : List ℕ → List ℕ → List ℕ → List ℕ → Type 0
WroteAll before pending after shown = after ≡ before ++ (pending ++ shown)

-- a beginning of that
abbrev pub WroteFront : List ℕ → List ℕ → List ℕ → List ℕ → Type 0
WroteFront before pending after shown = (front rest : List ℕ) × (after ≡ before ++ front) × (front ++ rest ≡ pending ++ shown)

abbrev pub Ran : {U : Type 0} → Replies → Size → (input left before pending after : List ℕ) → Result U RunError → Type 0
Ran replies size input left before pending after (Ok u) =
    (shown : List ℕ) × WroteAll before pending after shown × RanToEnd replies size input left shown
Ran replies size input left before pending after (Err (errors.BadLine k)) =
    (shown : List ℕ) × WroteAll before pending after shown × RanToBadLine replies size input left shown k
Ran replies size input left before pending after (Err errors.Read) =
    (shown : List ℕ) × WroteAll before pending after shown × RanToFailedRead replies size input left shown
Ran replies size input left before pending after (Err errors.Write) =
    (shown : List ℕ) × WroteFront before pending after shown × RanPartly replies size input shown
Ran replies size input left before pending after (Err errors.NoMemory) =
    (shown : List ℕ) × WroteFront before pending after shown × RanPartly replies size input shown

-- nothing is still to be written, but where a write failed or memory lacked
abbrev pub IsAllSent : {U : Type 0} → List ℕ → Result U RunError → Type 0
IsAllSent block (Err errors.Write) = Unit {0}
IsAllSent block (Err errors.NoMemory) = Unit {0}
IsAllSent block result = block ≡ []

-- the same where the reader and the writer tell their bytes
abbrev pub RanKnown : {U : Type 0} → Replies → Size → (input left before : Option (List ℕ)) → List ℕ → Option (List ℕ)
    → Result U RunError → Type 0
RanKnown replies size input left before pending after result =
    IfKnown input left (λ i l. IfKnown before after (λ b a. Ran replies size i l b pending a result))

-- ---- one call

-- its event is entered, or there is no room for it and it is refused
abbrev pub AnswersOne : ℕ → Book → Book → Call → Bool → List ℕ → Type 0
AnswersOne room old new call true line =
    (reply : Reply) × (new.history ≡ old.history ++ event call reply ∷ []) × HasSmallNumbers reply × (line ≡ line_of reply)
    × (length old.history < room)
AnswersOne room old new call false line =
    (new.history ≡ old.history) × (new.state ≡ old.state) × (new.last ≡ old.last) × (line ≡ refusal_line) × (length old.history ≡ room)

-- what is written of a call, by its own line, whether it was entered, and the line of its reply
abbrev pub shown_of : Replies → List ℕ → Bool → List ℕ → List ℕ
shown_of Written line entered reply = reply
shown_of Traced line true reply = line ++ codes " => " ++ reply
shown_of Traced line false reply = []
shown_of Silent line entered reply = []
