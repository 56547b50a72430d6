-- What a line of a trace says: an event, as `CALL => REPLY`. A line has at most 600 bytes (own), its newline left out.
use Rattle.std.specs.Prelude.{◌≡◌, ℕ, zero, suc, List, length, nat_le, ◌&&◌, ◌++◌, Bool, true, false, IsTrue, Option, Some, None, nat_eq}
use Rattle.std.specs.Prelude.{◌==◌, if◌then◌else◌, codes, take, drop}
use Rattle.std.specs.Cmp.Lexicographic.{pointwise}
use Rattle.std.specs.List.{position_from}
use Rattle.dmatypes.specs.declared.call.Call.{Call}
use Rattle.dmatypes.specs.declared.refusal.Refusal.TheVariants as refusals
use Rattle.dmatypes.specs.declared.reply.Event.{Event}
use Rattle.dmatypes.specs.declared.reply.Reply.{Reply}
use Rattle.dmatypes.specs.declared.reply.Reply.TheVariants.{Refused}
use Rattle.dmatypes.specs.Grammar.{◌>>=◌, says}
use Rattle.dmatypes.specs.History.{event}
use Rattle.dmatypes.specs.Replying.{HasSmallNumbers, says_reply}
use Rattle.dmatypes.specs.Text.{words_of}
use Rattle.checker.specs.declared.trace.TheConstants.{LONGEST_TRACE_LINE}

-- the reply is entered in histories, as each is but that the history is full
abbrev pub is_entered : Reply → Bool
is_entered (Refused refusals.HistoryFull) = false
is_entered reply = true

abbrev pub entered : Call → Reply → Option Event
entered call reply = if is_entered reply then Some (event call reply) else None

-- the event of the call and the reply that two texts say
abbrev pub both : List ℕ → List ℕ → Option Event
both front back = do
  call ← says front
  reply ← says_reply back
  entered call reply

-- by the place of the first `=`, which has a space before it, and a `>` and a space behind it
abbrev pub event_at : List ℕ → ℕ → Option Event
event_at line zero = None
event_at line (suc i) = if nat_le 4 (length (drop i line)) && pointwise nat_eq (take 4 (drop i line)) (codes " => ")
    then both (take i line) (drop 4 (drop i line))
    else None

-- the event that a line says, its newline left out
unfoldable pub event_said : List ℕ → Option Event
event_said line = if nat_le (length line) LONGEST_TRACE_LINE then (position_from (λ b. b == 61) 0 line >>= event_at line) else None

-- ---- that is the writing, read back

-- the line of an event whose call is spelled so
abbrev pub event_text : List ℕ → Reply → List ℕ
event_text front reply = front ++ (codes " => " ++ words_of reply)

-- a text that says a call, ` => ` and what is written for a reply say the event of both
abbrev pub EventTextIsSaid : Type 0
EventTextIsSaid =
    (front : List ℕ) (e : Event) → says front ≡ Some e.call → IsTrue (is_entered e.reply) → HasSmallNumbers e.reply
    → event_said (event_text front e.reply) ≡ Some e

-- a line says no other event
abbrev pub SaidIsEventText : Type 0
SaidIsEventText =
    (line : List ℕ) (e : Event) → event_said line ≡ Some e
    → IsTrue (is_entered e.reply) × (front : List ℕ) × (says front ≡ Some e.call) × (line ≡ event_text front e.reply)
