-- The line of an event says this event, and a line says no other.
use Rattle.std.proofs.Common.{◌≡◌, ℕ, zero, suc, ◌+◌, ◌≤◌, true, false, cond, List, [], ◌∷◌, ◌++◌, length, take, drop, Some, None}
use Rattle.std.proofs.Common.{refl, sym, ap, ◌∙◌, subst, arith}
use Rattle.std.specs.Prelude.{◌==◌, ◌&&◌, IsTrue, codes, nat_eq, nat_le}
use Rattle.std.specs.List.{position_from}
use Rattle.std.specs.Cmp.Lexicographic.{pointwise, same_text}
use Rattle.std.proofs.Math.Seq.{drop-append_seam, take-append_seam}
use Rattle.std.proofs.lemmas.Bool.{and_parts, le-leb, leb-true}
use Rattle.std.proofs.lemmas.List.{length-append, take-append-drop}
use Rattle.dmatypes.specs.declared.call.Call.{Call}
use Rattle.dmatypes.specs.declared.reply.Event.{Event}
use Rattle.dmatypes.specs.declared.reply.Reply.{Reply}
use Rattle.dmatypes.specs.Grammar.{◌>>=◌, says}
use Rattle.dmatypes.specs.History.{event}
use Rattle.dmatypes.specs.Replying.{says_reply}
use Rattle.dmatypes.specs.Text.{words_of}
use Rattle.dmatypes.proofs.texts.Binding.{same_value, then_some}
use Rattle.dmatypes.proofs.texts.Replied.{said_is_written, written_is_said}
use Rattle.checker.specs.Traces.{EventTextIsSaid, SaidIsEventText, both, entered, event_at, event_said, event_text, is_entered}
use Rattle.checker.specs.declared.trace.TheConstants.{LONGEST_TRACE_LINE}
use Rattle.checker.proofs.texts.Calls.{HasNoEquals, call_no_equals}
use Rattle.checker.proofs.texts.Written.{written_short}
use Rattle.dmatypes.proofs.texts.Lengths.{says_short}

-- ---- the line of an event says it

-- the first `=` behind a text without one, and a space
first_equals : (front rest : List ℕ) (j : ℕ) → HasNoEquals front
    → position_from (λ b. b == 61) j (front ++ (32 ∷ 61 ∷ rest)) ≡ Some (suc (j + length front))
first_equals [] rest j h = ap Some (omega arith)
first_equals (x ∷ xs) rest j h =
    let same : suc (j + 1 + length xs) ≡ suc (j + suc (length xs)) = omega arith in
    rw h.0 (first_equals xs rest (j + 1) h.1 ∙ ap Some same)

-- by what is before and behind the arrow
at_arrow : (line front back : List ℕ) (i : ℕ) → take i line ≡ front → drop i line ≡ codes " => " ++ back
    → event_at line (suc i) ≡ both front back
at_arrow line front back i before behind =
    let long : nat_le 4 (length (codes " => " ++ back)) ≡ true = le-leb 4 (length (codes " => " ++ back)) (omega arith) in
    rw (before, behind, long) refl

pub event_text_is_said : EventTextIsSaid
unfolding event_said
event_text_is_said front e says_call enters small =
    let back = words_of e.reply in
    let line = event_text front e.reply in
    let place : position_from (λ b. b == 61) 0 line ≡ Some (suc (length front)) =
    first_equals front (62 ∷ 32 ∷ back) 0 (call_no_equals front e.call says_call) ∙ ap (λ (n : ℕ). Some (suc n)) (omega arith) in
    let at : event_at line (suc (length front)) ≡ both front back =
    at_arrow line front back (length front) (take-append_seam front (codes " => " ++ back))
    (drop-append_seam front (codes " => " ++ back)) in
    let read : both front back ≡ Some e = rw (says_call, written_is_said e.reply small, enters) refl in
    let short : length line ≤ LONGEST_TRACE_LINE = omega (
      arith,
      says_short front e.call says_call,
      (written_short e.reply small).0,
      length-append front (codes " => " ++ back),
    ) in
    rw (le-leb (length line) LONGEST_TRACE_LINE short, place) (at ∙ read)

-- ---- a line says no other event

-- a line in three parts
in_parts : (line : List ℕ) (i : ℕ) → line ≡ take i line ++ (take 4 (drop i line) ++ drop 4 (drop i line))
in_parts line i =
    sym (take-append-drop i line) ∙ ap (λ (r : List ℕ). take i line ++ r) (sym (take-append-drop 4 (drop i line)))

entered_is : (call : Call) (reply : Reply) (e : Event) → entered call reply ≡ Some e → IsTrue (is_entered reply) × (event call reply ≡ e)
entered_is call reply e h =
    elim (is_entered reply)
    as (λ b. is_entered reply ≡ b → cond b (Some (event call reply)) None ≡ Some e → IsTrue (is_entered reply) × (event call reply ≡ e)) [
      | true ↦ λ is k. (is, same_value (event call reply) e k)
      | false ↦ λ is k. absurd cc
    ] refl h

record Parts (front back : List ℕ) (e : Event) : Type 0 where
  call_said : says front ≡ Some e.call
  written : back ≡ words_of e.reply
  enters : IsTrue (is_entered e.reply)

parts_of : (front back : List ℕ) (e : Event) → both front back ≡ Some e → Parts front back e
parts_of front back e h =
    let call = then_some (says front) _ e h in
    let reply = then_some (says_reply back) _ e call.2 in
    let last = entered_is call.0 reply.0 e reply.2 in
    subst (Parts front back) last.1 (record {
      call_said = call.1;
      written = said_is_written back reply.0 reply.1;
      enters = last.0;
    })

arrow_at : (line : List ℕ) (i : ℕ) (e : Event) → event_at line (suc i) ≡ Some e
    → (take 4 (drop i line) ≡ codes " => ") × Parts (take i line) (drop 4 (drop i line)) e
arrow_at line i e h =
    elim (nat_le 4 (length (drop i line)) && pointwise nat_eq (take 4 (drop i line)) (codes " => "))
    as (λ b. (nat_le 4 (length (drop i line)) && pointwise nat_eq (take 4 (drop i line)) (codes " => ")) ≡ b
    → cond b (both (take i line) (drop 4 (drop i line))) None ≡ Some e
    → (take 4 (drop i line) ≡ codes " => ") × Parts (take i line) (drop 4 (drop i line)) e) [
      | true ↦ λ is k.
          let tests = and_parts (nat_le 4 (length (drop i line))) (pointwise nat_eq (take 4 (drop i line)) (codes " => ")) is in
          (same_text (take 4 (drop i line)) (codes " => ") (sym tests.1), parts_of (take i line) (drop 4 (drop i line)) e k)
      | false ↦ λ is k. absurd cc
    ] refl h

at_place : (line : List ℕ) (place : ℕ) (e : Event) → event_at line place ≡ Some e
    → IsTrue (is_entered e.reply) × (front : List ℕ) × (says front ≡ Some e.call) × (line ≡ event_text front e.reply)
at_place line zero e h = absurd cc
at_place line (suc i) e h =
    let found = arrow_at line i e h in
    let parts = found.1 in (
      parts.enters,
      take i line,
      parts.call_said,
      in_parts line i ∙ ap (λ (r : List ℕ). take i line ++ (r ++ drop 4 (drop i line))) found.0
          ∙ ap (λ (r : List ℕ). take i line ++ (codes " => " ++ r)) parts.written,
    )

pub said_is_event_text : SaidIsEventText
unfolding event_said
said_is_event_text line e h =
    elim (nat_le (length line) LONGEST_TRACE_LINE)
    as (λ b. cond b (position_from (λ c. c == 61) 0 line >>= event_at line) None ≡ Some e
    → IsTrue (is_entered e.reply) × (front : List ℕ) × (says front ≡ Some e.call) × (line ≡ event_text front e.reply)) [
      | true ↦ λ k. let place = then_some (position_from (λ c. c == 61) 0 line) _ e k in at_place line place.0 e place.2
      | false ↦ λ k. absurd cc
    ] h

-- a line that says an event is no longer than one may be
pub event_short : (line : List ℕ) (e : Event) → event_said line ≡ Some e → length line ≤ LONGEST_TRACE_LINE
unfolding event_said
event_short line e h =
    elim (nat_le (length line) LONGEST_TRACE_LINE)
    as (λ b. nat_le (length line) LONGEST_TRACE_LINE ≡ b
    → cond b (position_from (λ c. c == 61) 0 line >>= event_at line) None ≡ Some e → length line ≤ LONGEST_TRACE_LINE) [
      | true ↦ λ is k. leb-true (length line) LONGEST_TRACE_LINE is
      | false ↦ λ is k. absurd cc
    ] refl h
