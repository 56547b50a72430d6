-- The report at the end of a script.
use Rattle.std.proofs.Common.{◌≡◌, ◌≢◌, ℕ, List, [], ◌++◌, length, Option, Some, None, Result, Ok, Err, refl, sym, ap, subst}
use Rattle.std.proofs.Common.{◌∙◌, ◌⊎◌, inl, inr, append_assoc}
use Rattle.std.proofs.lemmas.List.{append-nil}
use Rattle.dmatypes.specs.declared.call.Call.{Call}
use Rattle.dmatypes.specs.declared.limits.TheConstants.{LONGEST_LINE}
use Rattle.dmatypes.specs.Grammar.{says}
use Rattle.manager.specs.Kept.{Book}
use Rattle.manager.specs.Report.{report_text}
use Rattle.script.specs.Reported.{Concludes, GoneThrough, GoneThroughKnown, IsOf, OutputKnown, ReportedAs, ReportedAsKnown, replies_of}
use Rattle.script.specs.Reported.{report_of}
use Rattle.script.specs.Run.{IsAllSent, Outcome, RanPartly, RanToBadLine, RanToEnd, RanToFailedRead, Size, WroteAll, WroteFront}
use Rattle.script.specs.declared.answering.Replies.{Replies}
use Rattle.script.specs.declared.answering.Replies.TheVariants.{Silent, Traced, Written}
use Rattle.script.specs.declared.error.RunError.{RunError}
use Rattle.script.specs.declared.error.RunError.TheVariants as errors
use Rattle.script.specs.declared.running.Output.{Output}
use Rattle.script.specs.declared.running.Output.TheVariants as outputs
use Rattle.script.proofs.Going.{no_memory, run_known}
use Rattle.streams.specs.Bytes.{PutsSome, Sent, SentFront}
use Rattle.streams.specs.Lines.{ReadPartly}
use Rattle.streams.proofs.Known.{front_with, sent_more}
use Rattle.streams.proofs.Reading.{bad_partly, end_partly, failure_partly}

-- ---- a script that was run through in silence

abbrev silent_end : (size : Size) (input left shown : List ℕ) → RanToEnd Silent size input left shown → RanToEnd Silent size input left []
silent_end size input left shown r = record { calls = r.calls; read = r.read; outcome = r.outcome; is_shown = refl }

abbrev silent_bad : (size : Size) (input left shown : List ℕ) (k : ℕ) → RanToBadLine Silent size input left shown k
    → RanToBadLine Silent size input left [] k
silent_bad size input left shown k r = record { calls = r.calls; read = r.read; outcome = r.outcome; is_shown = refl }

abbrev silent_read : (size : Size) (input left shown : List ℕ) → RanToFailedRead Silent size input left shown
    → RanToFailedRead Silent size input left []
silent_read size input left shown r = record { calls = r.calls; read = r.read; outcome = r.outcome; is_shown = refl }

-- whole lines at the beginning of the script were answered
abbrev silent_partly : (size : Size) (input : List ℕ) (calls : List Call) → ReadPartly says input calls → Outcome size calls
    → RanPartly Silent size input []
silent_partly size input calls read outcome = record { calls = calls; read = read; outcome = outcome; is_shown = refl }

-- ---- what is written

-- the report of where the calls lead is that of the book
report_is : (book : Book) (size : Size) (calls : List Call) (outcome : Outcome size calls) → IsOf book size calls outcome
    → report_of size calls outcome ≡ report_text (length book.history) book.state
report_is book size calls outcome is = rw (is.history, is.state) refl

-- all of it is, behind what was pending
all_written : (before pending after after' block text : List ℕ) → WroteAll before pending after [] → block ≡ []
    → Sent (Some after) (Some after') block [] text → WroteAll before pending after' text
all_written before pending after after' block text wrote empty s =
    let front : s.0 ≡ text = sym (append-nil s.0) ∙ s.2 ∙ ap (λ (b : List ℕ). b ++ text) empty in
    s.1 ∙ ap (λ (a : List ℕ). a ++ s.0) wrote ∙ ap (λ (f : List ℕ). (before ++ (pending ++ [])) ++ f) front
    ∙ ap (λ (p : List ℕ). (before ++ p) ++ text) (append-nil pending) ∙ append_assoc before pending text

-- a front of it is
front_written : (before pending after after' block text : List ℕ) → WroteAll before pending after [] → block ≡ []
    → SentFront (Some after) (Some after') block text → WroteFront before pending after' text
front_written before pending after after' block text wrote empty s = (
  pending ++ s.0,
  s.1,
  s.2 ∙ ap (λ (a : List ℕ). a ++ s.0) wrote ∙ ap (λ (p : List ℕ). (before ++ p) ++ s.0) (append-nil pending)
      ∙ append_assoc before pending s.0,
  append_assoc pending s.0 s.1 ∙ ap (λ (f : List ℕ). pending ++ f) (s.3 ∙ ap (λ (b : List ℕ). b ++ text) empty),
)

-- nothing of it is
none_written : (before pending after text : List ℕ) → WroteFront before pending after [] → WroteFront before pending after text
none_written before pending after text w =
    (w.0, w.1 ++ text, w.2, sym (append_assoc w.0 w.1 text) ∙ ap (λ (f : List ℕ). f ++ text) (w.3 ∙ append-nil pending))

-- ---- the end

-- what is told of the report, or the failure to write it
ends_so : (U : Type 0) (told : List ℕ → List ℕ) (size : Size) (input left before pending after after' block rest text : List ℕ)
    (end result : Result U RunError) (partly : RanPartly Silent size input []) → report_of size partly.calls partly.outcome ≡ text
    → WroteAll before pending after [] → block ≡ []
    → (WroteAll before pending after' (told text) → ReportedAs told size input left before pending after' end)
    → (((result ≡ end) × (rest ≡ []) × Sent (Some after) (Some after') block [] (told text))
    ⊎ ((result ≡ Err errors.Write) × SentFront (Some after) (Some after') block (told text)))
    → ReportedAs told size input left before pending after' result
ends_so U told size input left before pending after after' block rest text end result partly is wrote empty ended (inl h) =
    rw h.0 (ended (all_written before pending after after' block (told text) wrote empty h.2))
ends_so U told size input left before pending after after' block rest text end result partly is wrote empty ended (inr h) =
    rw h.0 (partly, rw is (front_written before pending after after' block (told text) wrote empty h.1))

concluded : (U : Type 0) (told : List ℕ → List ℕ) (size : Size) (input left before pending after after' block rest : List ℕ)
    (book : Book) (end result : Result U RunError) → GoneThrough Silent size input left before pending after book end
    → IsAllSent block end → end ≢ Err errors.NoMemory
    → Concludes (Some after) (Some after') block rest (told (report_text (length book.history) book.state)) end result
    → ReportedAs told size input left before pending after' result
concluded U told size input left before pending after after' block rest book (Ok u) result w empty made c =
    let is = report_is book size w.2.0.calls w.2.0.outcome w.2.1 in
    ends_so U told size input left before pending after after' block rest (report_text (length book.history) book.state) (Ok u) result
    (silent_partly size input w.2.0.calls (end_partly says input left w.2.0.calls w.2.0.read) w.2.0.outcome) is
    (subst (WroteAll before pending after) w.2.0.is_shown w.1) empty
    (λ all. (silent_end size input left w.0 w.2.0, rw is all)) c
concluded U told size input left before pending after after' block rest book (Err (errors.BadLine k)) result w empty made c =
    let is = report_is book size w.2.0.calls w.2.0.outcome w.2.1 in
    ends_so U told size input left before pending after after' block rest (report_text (length book.history) book.state)
    (Err (errors.BadLine k)) result
    (silent_partly size input w.2.0.calls (bad_partly says LONGEST_LINE input left w.2.0.calls k w.2.0.read) w.2.0.outcome) is
    (subst (WroteAll before pending after) w.2.0.is_shown w.1) empty
    (λ all. (silent_bad size input left w.0 k w.2.0, rw is all)) c
concluded U told size input left before pending after after' block rest book (Err errors.Read) result w empty made c =
    let is = report_is book size w.2.0.calls w.2.0.outcome w.2.1 in
    ends_so U told size input left before pending after after' block rest (report_text (length book.history) book.state)
    (Err errors.Read) result
    (silent_partly size input w.2.0.calls (failure_partly says LONGEST_LINE input left w.2.0.calls w.2.0.read) w.2.0.outcome) is
    (subst (WroteAll before pending after) w.2.0.is_shown w.1) empty
    (λ all. (silent_read size input left w.0 w.2.0, rw is all)) c
concluded U told size input left before pending after after' block rest book (Err errors.Write) result w empty made c = rw c.0 (
  silent_partly size input w.2.calls w.2.read w.2.outcome,
  rw (same after' after c.1) (none_written before pending after _ (subst (WroteFront before pending after) w.2.is_shown w.1)),
) where
  same : (a b : List ℕ) → Some a ≡ Some b → a ≡ b
  same a b e = cc
concluded U told size input left before pending after after' block rest book (Err errors.NoMemory) result w empty made c =
    absurd (made refl)

-- the writer doesn't lose what it holds
still_known : (U : Type 0) (after : List ℕ) (block rest text : List ℕ) (end result : Result U RunError)
    → Concludes (Some after) None block rest text end result → ⊥
still_known U after block rest text (Ok u) result (inl h) = h.2.1
still_known U after block rest text (Ok u) result (inr h) = h.1.2
still_known U after block rest text (Err (errors.BadLine k)) result (inl h) = h.2.1
still_known U after block rest text (Err (errors.BadLine k)) result (inr h) = h.1.2
still_known U after block rest text (Err errors.Read) result (inl h) = h.2.1
still_known U after block rest text (Err errors.Read) result (inr h) = h.1.2
still_known U after block rest text (Err errors.NoMemory) result (inl h) = h.2.1
still_known U after block rest text (Err errors.NoMemory) result (inr h) = h.1.2
still_known U after block rest text (Err errors.Write) result h = none_some after h.1 where
  none_some : (a : List ℕ) → None ≡ Some a → ⊥
  none_some a e = cc

pub told_known : (U : Type 0) (told : List ℕ → List ℕ) (size : Size) (old left before : Option (List ℕ)) (pending : List ℕ)
    (after after' : Option (List ℕ)) (block rest : List ℕ) (book : Book) (end result : Result U RunError)
    → GoneThroughKnown Silent size old left before pending after book end → IsAllSent block end → end ≢ Err errors.NoMemory
    → Concludes after after' block rest (told (report_text (length book.history) book.state)) end result
    → ReportedAsKnown told size old left before pending after' result
told_known U told size None left before pending after after' block rest book end result w empty made c = tt
told_known U told size (Some input) None before pending after after' block rest book end result w empty made c = absurd w
told_known U told size (Some input) (Some left) None pending after after' block rest book end result w empty made c = tt
told_known U told size (Some input) (Some left) (Some before) pending None after' block rest book end result w empty made c = absurd w
told_known U told size (Some input) (Some left) (Some before) pending (Some after) None block rest book end result w empty made c =
    absurd (still_known U after block rest _ end result c)
told_known U told size (Some input) (Some left) (Some before) pending (Some after) (Some after') block rest book end result w empty made
    c = concluded U told size input left before pending after after' block rest book end result w empty made c

-- nothing was read and nothing written
nothing_done : (U : Type 0) (told : List ℕ → List ℕ) (size : Size) (old before : Option (List ℕ)) (pending : List ℕ)
    → ReportedAsKnown {U = U} told size old old before pending before (Err errors.NoMemory)
nothing_done U told size None before pending = tt
nothing_done U told size (Some input) None pending = tt
nothing_done U told size (Some input) (Some from) pending = (refl, refl)

pub nothing_written : (U : Type 0) (output : Output) (size : Size) (old before : Option (List ℕ)) (pending : List ℕ)
    → OutputKnown {U = U} output size old old before pending before (Err errors.NoMemory)
nothing_written U outputs.Answers size old before pending = no_memory U Written size old before pending
nothing_written U outputs.Trace size old before pending = no_memory U Traced size old before pending
nothing_written U (outputs.Report text) size old before pending = nothing_done U (λ report. report) size old before pending
nothing_written U (outputs.Drawing text) size old before pending =
    ([], nothing_done U (λ report. report ++ []) size old before pending)

-- ---- two texts, one behind the other

sent_then : (x y z : Option (List ℕ)) (a b text more : List ℕ) → Sent x y a b text → b ≡ [] → Sent y z b [] more
    → Sent x z a [] (text ++ more)
sent_then x y z a b text more s e t = sent_more x y z a b [] text more s t

front_then : (x y z : Option (List ℕ)) (a b text more : List ℕ) → Sent x y a b text → b ≡ [] → SentFront y z b more
    → SentFront x z a (text ++ more)
front_then x y z a b text more s e t =
    let all = sent_more x y z a b t.1 text more s (t.0, t.2, t.3) in
    (all.0, t.1, all.1, all.2)

front_on : (x y : Option (List ℕ)) (a text more : List ℕ) → SentFront x y a text → SentFront x y a (text ++ more)
front_on x y a text more s =
    (s.0, s.1 ++ more, s.2, sym (append_assoc s.0 s.1 more) ∙ ap (λ (r : List ℕ). r ++ more) s.3 ∙ append_assoc a text more)

-- the first text concluded an end that stood
concludes_then : (U : Type 0) (x y z : Option (List ℕ)) (a b c text more : List ℕ) (end middle result : Result U RunError)
    → (((middle ≡ end) × (b ≡ []) × Sent x y a [] text) ⊎ ((middle ≡ Err errors.Write) × SentFront x y a text))
    → (middle ≡ end → ((result ≡ end) × (c ≡ []) × Sent y z b [] more) ⊎ ((result ≡ Err errors.Write) × SentFront y z b more))
    → (middle ≡ Err errors.Write → (result ≡ Err errors.Write) × (z ≡ y))
    → ((result ≡ end) × (c ≡ []) × Sent x z a [] (text ++ more)) ⊎ ((result ≡ Err errors.Write) × SentFront x z a (text ++ more))
concludes_then U x y z a b c text more end middle result (inl h) stood failed = more_then (stood h.0) where
  more_then : ((result ≡ end) × (c ≡ []) × Sent y z b [] more) ⊎ ((result ≡ Err errors.Write) × SentFront y z b more)
      → ((result ≡ end) × (c ≡ []) × Sent x z a [] (text ++ more)) ⊎ ((result ≡ Err errors.Write) × SentFront x z a (text ++ more))
  more_then (inl m) = inl (m.0, m.1, sent_then x y z a b text more (subst (λ (r : List ℕ). Sent x y a r text) (sym h.1) h.2) h.1 m.2)
  more_then (inr m) = inr (m.0, front_then x y z a b text more (subst (λ (r : List ℕ). Sent x y a r text) (sym h.1) h.2) h.1 m.1)
concludes_then U x y z a b c text more end middle result (inr h) stood failed =
    let m = failed h.0 in
    inr (m.0, subst (λ (to : Option (List ℕ)). SentFront x to a (text ++ more)) (sym m.1) (front_on x y a text more h.1))

pub concludes_both : (U : Type 0) (x y z : Option (List ℕ)) (a b c text more : List ℕ) (end middle result : Result U RunError)
    → Concludes x y a b text end middle → Concludes y z b c more middle result → Concludes x z a c (text ++ more) end result
concludes_both U x y z a b c text more end middle result p q = ended end p where
  follows : (from : Result U RunError) → middle ≡ from → Concludes y z b c more from result
  follows from e = subst (λ (m : Result U RunError). Concludes y z b c more m result) e q

  ended : (from : Result U RunError) → Concludes x y a b text from middle → Concludes x z a c (text ++ more) from result
  ended (Ok u) p = concludes_then U x y z a b c text more (Ok u) middle result p (follows (Ok u)) (follows (Err errors.Write))
  ended (Err (errors.BadLine k)) p = concludes_then U x y z a b c text more (Err (errors.BadLine k)) middle result p
      (follows (Err (errors.BadLine k))) (follows (Err errors.Write))
  ended (Err errors.Read) p = concludes_then U x y z a b c text more (Err errors.Read) middle result p (follows (Err errors.Read))
      (follows (Err errors.Write))
  ended (Err errors.NoMemory) p = concludes_then U x y z a b c text more (Err errors.NoMemory) middle result p
      (follows (Err errors.NoMemory)) (follows (Err errors.Write))
  ended (Err errors.Write) p = let failed = follows (Err errors.Write) p.0 in (failed.0, failed.1 ∙ p.1)

-- ---- the drawing

-- it was drawn to its end, or a write of it failed
pub drawn : (U : Type 0) (before after : Option (List ℕ)) (block rest : List ℕ) (end result : Result U RunError) → end ≢ Err errors.Write
    → PutsSome before after block rest → (((result ≡ end) × (rest ≡ [])) ⊎ (result ≡ Err errors.Write))
    → (drawing : List ℕ) × Concludes before after block rest drawing end result
drawn U before after block rest end result stands put how = (put.0, ended end stands (both how)) where
  both : (((result ≡ end) × (rest ≡ [])) ⊎ (result ≡ Err errors.Write))
      → ((result ≡ end) × (rest ≡ []) × Sent before after block [] put.0)
      ⊎ ((result ≡ Err errors.Write) × SentFront before after block put.0)
  both (inl h) = inl (h.0, h.1, subst (λ (r : List ℕ). Sent before after block r put.0) h.1 put.1)
  both (inr h) = inr (h, front_with before after block rest put.0 put.1)

  ended : (from : Result U RunError) → from ≢ Err errors.Write
      → ((result ≡ from) × (rest ≡ []) × Sent before after block [] put.0)
      ⊎ ((result ≡ Err errors.Write) × SentFront before after block put.0)
      → Concludes before after block rest put.0 from result
  ended (Ok u) others h = h
  ended (Err (errors.BadLine k)) others h = h
  ended (Err errors.Read) others h = h
  ended (Err errors.NoMemory) others h = h
  ended (Err errors.Write) others h = absurd (others refl)

-- ---- what is written at the end

pub answers_known : (U : Type 0) (output : Output) (replies : Replies) (size : Size) (old left before : Option (List ℕ))
    (pending : List ℕ) (after : Option (List ℕ)) (book : Book) (result : Result U RunError) → output ≡ outputs.Answers
    → replies ≡ replies_of output
    → GoneThroughKnown replies size old left before pending after book result
    → OutputKnown output size old left before pending after result
answers_known U output replies size old left before pending after book result is so w =
    rw is (run_known U Written size old left before pending after book result (subst (λ r. GoneThroughKnown r size old left before pending
    after book result) (so ∙ ap replies_of is) w))

pub trace_known : (U : Type 0) (output : Output) (replies : Replies) (size : Size) (old left before : Option (List ℕ))
    (pending : List ℕ) (after : Option (List ℕ)) (book : Book) (result : Result U RunError) → output ≡ outputs.Trace
    → replies ≡ replies_of output
    → GoneThroughKnown replies size old left before pending after book result
    → OutputKnown output size old left before pending after result
trace_known U output replies size old left before pending after book result is so w =
    rw is (run_known U Traced size old left before pending after book result (subst (λ r. GoneThroughKnown r size old left before pending
    after book result) (so ∙ ap replies_of is) w))

pub report_known : (U : Type 0) (output : Output) (replies : Replies) (text : List ℕ) (size : Size)
    (old left before : Option (List ℕ)) (pending : List ℕ) (after after' : Option (List ℕ)) (block rest : List ℕ) (book : Book)
    (end result : Result U RunError) → output ≡ outputs.Report text → replies ≡ replies_of output
    → GoneThroughKnown replies size old left before pending after book end → IsAllSent block end → end ≢ Err errors.NoMemory
    → Concludes after after' block rest (report_text (length book.history) book.state) end result
    → OutputKnown output size old left before pending after' result
report_known U output replies text size old left before pending after after' block rest book end result is so w empty made c =
    rw is (told_known U (λ report. report) size old left before pending after after' block rest book end result
    (subst (λ r. GoneThroughKnown r size old left before pending after book end) (so ∙ ap replies_of is) w) empty made c)

pub drawing_known : (U : Type 0) (output : Output) (replies : Replies) (text : List ℕ) (size : Size)
    (old left before : Option (List ℕ)) (pending : List ℕ) (after middle after' : Option (List ℕ)) (block between rest : List ℕ)
    (book : Book) (end reported result : Result U RunError) → output ≡ outputs.Drawing text → replies ≡ replies_of output
    → GoneThroughKnown replies size old left before pending after book end → IsAllSent block end → end ≢ Err errors.NoMemory
    → Concludes after middle block between (report_text (length book.history) book.state) end reported
    → ((drawing : List ℕ) × Concludes middle after' between rest drawing reported result)
    → OutputKnown output size old left before pending after' result
drawing_known U output replies text size old left before pending after middle after' block between rest book end reported result is so w
    empty made c m = rw is (
      m.0,
      told_known U (λ report. report ++ m.0) size old left before pending after after' block rest book end result
          (subst (λ r. GoneThroughKnown r size old left before pending after book end) (so ∙ ap replies_of is) w) empty made
          (concludes_both U after middle after' block between rest (report_text (length book.history) book.state) m.0 end reported
          result c m.1),
    )
