-- What calls lead to, and what is written of them, one call after the other.
use Rattle.std.proofs.Common.{◌≡◌, ℕ, zero, suc, ◌+◌, ◌-◌, ◌≤◌, ◌<◌, min, Bool, true, false, List, [], ◌∷◌, ◌++◌, length, take, map, refl}
use Rattle.std.proofs.Common.{replicate, sym, ap, subst, ◌∙◌, arith, append_assoc}
use Rattle.std.specs.Prelude.{◌==◌, codes, IsTrue}
use Rattle.std.specs.List.{flat_map}
use Rattle.std.proofs.lemmas.Bool.{both_ways, eq-eqb}
use Rattle.std.proofs.lemmas.List.{append-nil, length-append, length-map, length-take, take-append-le, take_all, map_push}
use Rattle.std.proofs.lemmas.List.{replicate-append-replicate}
use Rattle.std.proofs.lemmas.List.Concat.{flat_map-append}
use Rattle.checker.specs.Traces.{event_said, event_text, is_entered}
use Rattle.checker.proofs.histories.Entered.{step_is_entered}
use Rattle.checker.proofs.texts.Events.{event_text_is_said}
use Rattle.checker.proofs.texts.Written.{written_short}
use Rattle.dmatypes.proofs.texts.Joining.{HasNo}
use Rattle.dmatypes.specs.declared.call.Call.{Call}
use Rattle.dmatypes.specs.declared.reply.Event.{Event}
use Rattle.dmatypes.specs.declared.reply.Reply.{Reply}
use Rattle.dmatypes.specs.declared.reply.Reply.TheVariants.{Refused}
use Rattle.dmatypes.specs.declared.refusal.Refusal.TheVariants as refusals
use Rattle.dmatypes.specs.Grammar.{says}
use Rattle.dmatypes.specs.History.{IsLegal, after, event}
use Rattle.dmatypes.specs.Replying.{HasSmallNumbers}
use Rattle.dmatypes.specs.Text.{line_of, text, words_of}
use Rattle.manager.specs.Kept.{Book, IsKept}
use Rattle.manager.proofs.words.Entered.{step_at}
use Rattle.script.specs.declared.answering.Replies.{Replies}
use Rattle.script.specs.declared.answering.Replies.TheVariants.{Written, Traced, Silent}
use Rattle.script.specs.Run.{AnswersOne, IsShown, Outcome, Size, call_of, refusal_line, shown_of}
use Rattle.streams.specs.Bytes.{IsUnbroken}
use Rattle.streams.specs.Lines.{LineSays, LinesSay}
use Rattle.streams.proofs.Known.{unbroken_append}
use Rattle.streams.proofs.Lines.{lines_rest, lines_then}

-- so many refusals for want of room
abbrev refusals_of : ℕ → List ℕ
refusals_of n = flat_map line_of (replicate n (Refused refusals.HistoryFull))

-- the history has the first of these calls, and this is shown of them
pub record Entered (replies : Replies) (room : ℕ) (history : List Event) (calls : List Call) (shown : List ℕ) : Type 0 where
  pub calls_are : map call_of history ≡ take room calls
  pub is_shown : IsShown replies room calls history shown

pub entered_none : (replies : Replies) (room : ℕ) → Entered replies room [] [] []
entered_none replies room = record { calls_are = sym (take_nil room); is_shown = none replies } where
  take_nil : (n : ℕ) → take {A = Call} n [] ≡ []
  take_nil zero = refl
  take_nil (suc n) = refl

  none : (replies : Replies) → IsShown replies room [] [] []
  none Written = let nothing : 0 - room ≡ 0 = omega arith in sym (ap refusals_of nothing)
  none Traced = refl
  none Silent = refl

unfoldable pub outcome : {room : ℕ} (replies : Replies) (size : Size) (book : Book) (calls : List Call) (shown : List ℕ)
    → IsKept size.frames room size.caching size.room book → Entered replies size.room book.history calls shown → Outcome size calls
outcome replies size book calls shown kept entered = record {
  history = book.history;
  state = book.state;
  legal = kept.legal;
  along = kept.goes;
  calls_are = entered.calls_are;
}

-- how many of the calls were entered
entered_len : (room : ℕ) (history : List Event) (calls : List Call) → map call_of history ≡ take room calls
    → length history ≡ min room (length calls)
entered_len room history calls was = sym (length-map history call_of) ∙ ap length was ∙ length-take room calls

-- ---- what is written

text_more : (history : List Event) (e : Event) → text (history ++ e ∷ []) ≡ text history ++ line_of e.reply
text_more history e = flat_map-append (λ x. line_of x.reply) history (e ∷ [])
    ∙ ap (λ (r : List ℕ). text history ++ r) (append-nil (line_of e.reply))

refusals_more : (n : ℕ) → refusals_of (n + 1) ≡ refusals_of n ++ refusal_line
refusals_more n =
    ap (flat_map line_of) (sym (replicate-append-replicate n 1 (Refused refusals.HistoryFull)))
    ∙ flat_map-append line_of (replicate n (Refused refusals.HistoryFull)) (Refused refusals.HistoryFull ∷ [])
    ∙ ap (λ (r : List ℕ). refusals_of n ++ r) (append-nil refusal_line)

written_event : (room : ℕ) (history : List Event) (calls : List Call) (shown : List ℕ) (call : Call) (reply : Reply)
    → IsShown Written room calls history shown → length calls < room
    → IsShown Written room (calls ++ call ∷ []) (history ++ event call reply ∷ []) (shown ++ line_of reply)
written_event room history calls shown call reply was few =
    let longer = length-append calls (call ∷ []) in
    let none : length calls - room ≡ 0 = omega (arith, few) in
    let none' : length (calls ++ call ∷ []) - room ≡ 0 = omega (arith, few, longer) in
    let entry : Event = event call reply in
    let was' : shown ≡ text history = was ∙ ap (λ (n : ℕ). text history ++ refusals_of n) none ∙ append-nil (text history) in
    ap (λ (t : List ℕ). t ++ line_of reply) was' ∙ sym (text_more history entry) ∙ sym (append-nil (text (history ++ entry ∷ [])))
    ∙ sym (ap (λ (n : ℕ). text (history ++ entry ∷ []) ++ refusals_of n) none')

written_refusal : (room : ℕ) (history : List Event) (calls : List Call) (shown : List ℕ) (call : Call)
    → IsShown Written room calls history shown → room ≤ length calls
    → IsShown Written room (calls ++ call ∷ []) history (shown ++ refusal_line)
written_refusal room history calls shown call was many =
    let longer = length-append calls (call ∷ []) in
    let more : length (calls ++ call ∷ []) - room ≡ (length calls - room) + 1 = omega (arith, many, longer) in
    ap (λ (t : List ℕ). t ++ refusal_line) was ∙ append_assoc (text history) (refusals_of (length calls - room)) refusal_line
    ∙ ap (λ (r : List ℕ). text history ++ r) (sym (refusals_more (length calls - room)))
    ∙ sym (ap (λ (n : ℕ). text history ++ refusals_of n) more)

-- ---- the line of an event

unbroken : (text : List ℕ) → HasNo 10 text → IsUnbroken text
unbroken [] h = tt
unbroken (c ∷ cs) h = (λ (e : c ≡ 10). both_ways (c == 10) h.0 (eq-eqb c 10 e), unbroken cs h.1)

event_line_says : (line : List ℕ) (call : Call) (reply : Reply) → LineSays says line call → IsTrue (is_entered reply)
    → HasSmallNumbers reply → LineSays event_said (event_text line reply) (event call reply)
event_line_says line call reply said enters small = record {
  whole = unbroken_append line (codes " => " ++ words_of reply) said.whole (
      unbroken_append (codes " => ") (words_of reply) (unbroken (codes " => ") (refl, (refl, (refl, (refl, tt)))))
      (unbroken (words_of reply) (written_short reply small).1)
      );
  is = event_text_is_said line (event call reply) said.is enters small;
}

line_in_parts : (line : List ℕ) (reply : Reply) → line ++ codes " => " ++ line_of reply ≡ event_text line reply ++ 10 ∷ []
unfolding line_of
line_in_parts line reply =
    append_assoc line (codes " => ") (words_of reply ++ 10 ∷ [])
    ∙ ap (λ (r : List ℕ). line ++ r) (sym (append_assoc (codes " => ") (words_of reply) (10 ∷ [])))
    ∙ sym (append_assoc line (codes " => " ++ words_of reply) (10 ∷ []))

traced_event : (history : List Event) (shown line : List ℕ) (call : Call) (reply : Reply) → LinesSay event_said shown history []
    → LineSays says line call → IsTrue (is_entered reply) → HasSmallNumbers reply
    → LinesSay event_said (shown ++ (line ++ codes " => " ++ line_of reply)) (history ++ event call reply ∷ []) []
traced_event history shown line call reply was said enters small =
    lines_then event_said (shown ++ (line ++ codes " => " ++ line_of reply)) history (line ++ codes " => " ++ line_of reply)
    (event_text line reply) [] (event call reply)
    (lines_rest event_said shown history [] (line ++ codes " => " ++ line_of reply) was) (line_in_parts line reply)
    (event_line_says line call reply said enters small)

-- ---- one call more

shows_event : (replies : Replies) (room : ℕ) (history : List Event) (calls : List Call) (shown line : List ℕ) (call : Call) (reply : Reply)
    → IsShown replies room calls history shown → length calls < room → LineSays says line call → IsTrue (is_entered reply)
    → HasSmallNumbers reply
    → IsShown replies room (calls ++ call ∷ []) (history ++ event call reply ∷ []) (shown ++ shown_of replies line true (line_of reply))
shows_event Written room history calls shown line call reply was few said enters small =
    written_event room history calls shown call reply was few
shows_event Traced room history calls shown line call reply was few said enters small =
    traced_event history shown line call reply was said enters small
shows_event Silent room history calls shown line call reply was few said enters small = append-nil shown ∙ was

shows_refusal : (replies : Replies) (room : ℕ) (history : List Event) (calls : List Call) (shown line : List ℕ) (call : Call)
    → IsShown replies room calls history shown → room ≤ length calls
    → IsShown replies room (calls ++ call ∷ []) history (shown ++ shown_of replies line false refusal_line)
shows_refusal Written room history calls shown line call was many = written_refusal room history calls shown call was many
shows_refusal Traced room history calls shown line call was many = rw (append-nil shown) was
shows_refusal Silent room history calls shown line call was many = append-nil shown ∙ was

one_event : (replies : Replies) (room : ℕ) (history : List Event) (calls : List Call) (shown line : List ℕ) (call : Call) (reply : Reply)
    → Entered replies room history calls shown → length history < room → LineSays says line call → IsTrue (is_entered reply)
    → HasSmallNumbers reply
    → Entered replies room (history ++ event call reply ∷ []) (calls ++ call ∷ []) (shown ++ shown_of replies line true (line_of reply))
one_event replies room history calls shown line call reply was less said enters small =
    let few : length calls < room = omega (arith, entered_len room history calls was.calls_are, less) in
    let longer = length-append calls (call ∷ []) in
    record {
      calls_are = map_push call_of history (event call reply) ∙ ap (λ (cs : List Call). cs ++ call ∷ [])
          (was.calls_are ∙ take_all room calls (omega (arith, few)))
          ∙ sym (take_all room (calls ++ call ∷ []) (omega (arith, few, longer)));
      is_shown = shows_event replies room history calls shown line call reply was.is_shown few said enters small;
    }

one_refusal : (replies : Replies) (room : ℕ) (history : List Event) (calls : List Call) (shown line : List ℕ) (call : Call)
    → Entered replies room history calls shown → length history ≡ room
    → Entered replies room history (calls ++ call ∷ []) (shown ++ shown_of replies line false refusal_line)
one_refusal replies room history calls shown line call was full =
    let many : room ≤ length calls = omega (arith, entered_len room history calls was.calls_are, full) in
    record {
      calls_are = was.calls_are ∙ sym (take-append-le room calls (call ∷ []) many);
      is_shown = shows_refusal replies room history calls shown line call was.is_shown many;
    }

pub entered_more : {room : ℕ} (replies : Replies) (size : Size) (old new : Book) (calls : List Call) (shown line : List ℕ) (call : Call)
    (entered : Bool) (reply : List ℕ) → Entered replies size.room old.history calls shown
    → IsKept size.frames room size.caching size.room new → LineSays says line call → AnswersOne size.room old new call entered reply
    → Entered replies size.room new.history (calls ++ call ∷ []) (shown ++ shown_of replies line entered reply)
entered_more replies size old new calls shown line call true reply was kept said h =
    let legal = subst (IsLegal size.frames) h.1 kept.legal in
    let enters = step_is_entered (after size.frames old.history) call h.0
    (step_at size.frames old.history (event call h.0) legal) in
    rw (h.1, h.3) (one_event replies size.room old.history calls shown line call h.0 was h.4 said enters h.2)
entered_more replies size old new calls shown line call false reply was kept said h =
    rw (h.0, h.3) (one_refusal replies size.room old.history calls shown line call was h.4)
