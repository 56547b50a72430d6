-- What is written for a reply says this reply, and a line says no other.
use Rattle.std.proofs.Common.{◌≡◌, inl, ℕ, ◌^◌, ◌<◌, true, false, cond, List, [], ◌∷◌, ◌++◌, Option, Some, None, refl, sym, ap, ◌∙◌}
use Rattle.std.proofs.Common.{append_assoc, arith}
use Rattle.std.specs.Prelude.{nat_eq, codes, decimal}
use Rattle.std.specs.List.{AllByRecursion}
use Rattle.std.specs.Cmp.Lexicographic.{bytes_decides, pointwise, same_text}
use Rattle.std.proofs.lemmas.List.{append-nil}
use Rattle.dmatypes.specs.declared.refusal.Fault.{Fault}
use Rattle.dmatypes.specs.declared.refusal.Fault.TheVariants as faults
use Rattle.dmatypes.specs.declared.refusal.Refusal.{Refusal}
use Rattle.dmatypes.specs.declared.refusal.Refusal.TheVariants as refusals
use Rattle.dmatypes.specs.declared.reply.Progress.TheVariants.{Did, Idle}
use Rattle.dmatypes.specs.declared.reply.Reply.{Reply}
use Rattle.dmatypes.specs.declared.reply.Reply.TheVariants.{Made, Done, Mapped, Unmapped, Flushed, Ticket, Stepped, Reaped, Pending}
use Rattle.dmatypes.specs.declared.reply.Reply.TheVariants.{Host, Faulted, Refused}
use Rattle.dmatypes.specs.Grammar.{◌>>=◌, fields, number}
use Rattle.dmatypes.specs.Numbers.{fault_number, numbered_fault, numbered_refusal, refusal_number}
use Rattle.dmatypes.specs.Replying.{SaidIsWritten, WrittenIsSaid, alone, as_written, reply_of, says_reply, stepped_of, ticket_of}
use Rattle.dmatypes.specs.Spelled.{IsNumber, spaced}
use Rattle.dmatypes.specs.Text.{address_text, words_of}
use Rattle.dmatypes.proofs.texts.Binding.{same_value}
use Rattle.dmatypes.proofs.texts.Joining.{HasNoSpace, fields_spaced}
use Rattle.dmatypes.proofs.texts.Numerals.{address_number, number_no_space, number_said}

-- ---- the writing is read back

alone_said : (text : List ℕ) (n : ℕ) → number text ≡ Some n → alone (text ∷ []) ≡ Some n
unfolding alone
alone_said text n e = rw e refl

ticket_said : (d t : List ℕ) (domain ticket : ℕ) → number d ≡ Some domain → number t ≡ Some ticket
    → ticket_of (d ∷ t ∷ []) ≡ Some (Ticket domain ticket)
unfolding ticket_of
ticket_said d t domain ticket ed et = rw (ed, et) refl

pub fault_small : (f : Fault) → fault_number f < 2 ^ 64
fault_small faults.NotAttached = omega arith
fault_small faults.BeyondWidth = omega arith
fault_small faults.Write = omega arith
fault_small faults.Read = omega arith

fault_of_number : (f : Fault) → numbered_fault (fault_number f) ≡ Some f
fault_of_number faults.NotAttached = refl
fault_of_number faults.BeyondWidth = refl
fault_of_number faults.Write = refl
fault_of_number faults.Read = refl

pub refusal_small : (r : Refusal) → refusal_number r < 2 ^ 64
refusal_small refusals.NoDomain = omega arith
refusal_small refusals.NoDevice = omega arith
refusal_small refusals.Busy = omega arith
refusal_small refusals.NotAttached = omega arith
refusal_small refusals.BadRange = omega arith
refusal_small refusals.FrameOwned = omega arith
refusal_small refusals.NoRange = omega arith
refusal_small refusals.NoFrames = omega arith
refusal_small refusals.TooManyPieces = omega arith
refusal_small refusals.NotLive = omega arith
refusal_small refusals.Window = omega arith
refusal_small refusals.TooManyDomains = omega arith
refusal_small refusals.BadTicket = omega arith
refusal_small refusals.TooManyTickets = omega arith
refusal_small refusals.HistoryFull = omega arith

refusal_of_number : (r : Refusal) → numbered_refusal (refusal_number r) ≡ Some r
refusal_of_number refusals.NoDomain = refl
refusal_of_number refusals.NoDevice = refl
refusal_of_number refusals.Busy = refl
refusal_of_number refusals.NotAttached = refl
refusal_of_number refusals.BadRange = refl
refusal_of_number refusals.FrameOwned = refl
refusal_of_number refusals.NoRange = refl
refusal_of_number refusals.NoFrames = refl
refusal_of_number refusals.TooManyPieces = refl
refusal_of_number refusals.NotLive = refl
refusal_of_number refusals.Window = refl
refusal_of_number refusals.TooManyDomains = refl
refusal_of_number refusals.BadTicket = refl
refusal_of_number refusals.TooManyTickets = refl
refusal_of_number refusals.HistoryFull = refl

-- the line of a reply, by its fields
line_said : (line word : List ℕ) (fs : List (List ℕ)) (reply : Reply) → line ≡ words_of reply → line ≡ word ++ spaced fs
    → HasNoSpace word → AllByRecursion HasNoSpace fs → reply_of (word ∷ fs) ≡ Some reply → says_reply line ≡ Some reply
unfolding says_reply
line_said line word fs reply written is h hs e =
    let split : fields line ≡ word ∷ fs = ap fields is ∙ fields_spaced word fs h hs in
    rw (split, e, (bytes_decides line (words_of reply)).1 written) refl

-- a word and a number
counted : (reply : Reply) (word text : List ℕ) (n : ℕ) → words_of reply ≡ word ++ 32 ∷ text → IsNumber text n
    → HasNoSpace word → reply_of (word ∷ text ∷ []) ≡ Some reply → says_reply (words_of reply) ≡ Some reply
counted reply word text n is number h e =
    line_said (words_of reply) word (text ∷ []) reply refl
    (is ∙ ap (λ (r : List ℕ). word ++ 32 ∷ r) (sym (append-nil text))) h (number_no_space text n number, tt) e

decimal_number : (n : ℕ) → n < 2 ^ 64 → IsNumber (decimal n) n
decimal_number n small = inl (refl, small)

made_said : (n : ℕ) → n < 2 ^ 64 → says_reply (words_of (Made n)) ≡ Some (Made n)
unfolding reply_of
made_said n small =
    let is : IsNumber (decimal n) n = decimal_number n small in
    counted (Made n) (codes "domain") (decimal n) n refl is (refl, (refl, (refl, (refl, (refl, (refl, tt))))))
    (rw (alone_said (decimal n) n (number_said (decimal n) n is)) refl)

mapped_said : (n : ℕ) → n < 2 ^ 64 → says_reply (words_of (Mapped n)) ≡ Some (Mapped n)
unfolding reply_of
mapped_said n small =
    let is : IsNumber (address_text n) n = address_number n small in
    counted (Mapped n) (codes "map") (address_text n) n refl is (refl, (refl, (refl, tt)))
    (rw (alone_said (address_text n) n (number_said (address_text n) n is)) refl)

unmapped_said : (n : ℕ) → n < 2 ^ 64 → says_reply (words_of (Unmapped n)) ≡ Some (Unmapped n)
unfolding reply_of
unmapped_said n small =
    let is : IsNumber (decimal n) n = decimal_number n small in
    counted (Unmapped n) (codes "unmapped") (decimal n) n refl is (refl, (refl, (refl, (refl, (refl, (refl, (refl, (refl, tt))))))))
    (rw (alone_said (decimal n) n (number_said (decimal n) n is)) refl)

flushed_said : (n : ℕ) → n < 2 ^ 64 → says_reply (words_of (Flushed n)) ≡ Some (Flushed n)
unfolding reply_of
flushed_said n small =
    let is : IsNumber (decimal n) n = decimal_number n small in
    counted (Flushed n) (codes "flushed") (decimal n) n refl is (refl, (refl, (refl, (refl, (refl, (refl, (refl, tt)))))))
    (rw (alone_said (decimal n) n (number_said (decimal n) n is)) refl)

reaped_said : (n : ℕ) → n < 2 ^ 64 → says_reply (words_of (Reaped n)) ≡ Some (Reaped n)
unfolding reply_of
reaped_said n small =
    let is : IsNumber (decimal n) n = decimal_number n small in
    counted (Reaped n) (codes "reaped") (decimal n) n refl is (refl, (refl, (refl, (refl, (refl, (refl, tt))))))
    (rw (alone_said (decimal n) n (number_said (decimal n) n is)) refl)

host_said : (n : ℕ) → n < 2 ^ 64 → says_reply (words_of (Host n)) ≡ Some (Host n)
unfolding reply_of
host_said n small =
    let is : IsNumber (address_text n) n = address_number n small in
    counted (Host n) (codes "host") (address_text n) n refl is (refl, (refl, (refl, (refl, tt))))
    (rw (alone_said (address_text n) n (number_said (address_text n) n is)) refl)

faulted_said : (f : Fault) → says_reply (words_of (Faulted f)) ≡ Some (Faulted f)
unfolding reply_of
faulted_said f =
    let n = fault_number f in
    let is : IsNumber (decimal n) n = decimal_number n (fault_small f) in
    counted (Faulted f) (codes "fault") (decimal n) n refl is (refl, (refl, (refl, (refl, (refl, tt)))))
    (rw (alone_said (decimal n) n (number_said (decimal n) n is), fault_of_number f) refl)

refused_said : (r : Refusal) → says_reply (words_of (Refused r)) ≡ Some (Refused r)
unfolding reply_of
refused_said r =
    let n = refusal_number r in
    let is : IsNumber (decimal n) n = decimal_number n (refusal_small r) in
    counted (Refused r) (codes "refused") (decimal n) n refl is (refl, (refl, (refl, (refl, (refl, (refl, (refl, tt)))))))
    (rw (alone_said (decimal n) n (number_said (decimal n) n is), refusal_of_number r) refl)

pub written_is_said : WrittenIsSaid
unfolding reply_of stepped_of
written_is_said (Made n) small = made_said n small
written_is_said Done small = line_said (words_of Done) (codes "ok") [] Done refl refl (refl, (refl, tt)) tt refl
written_is_said (Mapped n) small = mapped_said n small
written_is_said (Unmapped n) small = unmapped_said n small
written_is_said (Flushed n) small = flushed_said n small
written_is_said (Ticket d n) small =
    let domain : IsNumber (decimal d) d = decimal_number d small.0 in
    let ticket : IsNumber (decimal n) n = decimal_number n small.1 in
    line_said (words_of (Ticket d n)) (codes "ticket") (decimal d ∷ decimal n ∷ []) (Ticket d n) refl
    (ap (λ (r : List ℕ). codes "ticket " ++ r)
    (append_assoc (decimal d) (codes " ") (decimal n) ∙ ap (λ (r : List ℕ). decimal d ++ 32 ∷ r) (sym (append-nil (decimal n)))))
    (refl, (refl, (refl, (refl, (refl, (refl, tt)))))) (number_no_space (decimal d) d domain, (number_no_space (decimal n) n ticket, tt))
    (ticket_said (decimal d) (decimal n) d n (number_said (decimal d) d domain) (number_said (decimal n) n ticket))
written_is_said (Stepped Did) small =
    line_said (words_of (Stepped Did)) (codes "unit") (codes "did" ∷ []) (Stepped Did) refl refl
    (refl, (refl, (refl, (refl, tt)))) ((refl, (refl, (refl, tt))), tt) refl
written_is_said (Stepped Idle) small =
    line_said (words_of (Stepped Idle)) (codes "unit") (codes "idle" ∷ []) (Stepped Idle) refl refl
    (refl, (refl, (refl, (refl, tt)))) ((refl, (refl, (refl, (refl, tt)))), tt) refl
written_is_said (Reaped n) small = reaped_said n small
written_is_said Pending small =
    line_said (words_of Pending) (codes "pending") [] Pending refl refl (refl, (refl, (refl, (refl, (refl, (refl, (refl, tt))))))) tt refl
written_is_said (Host n) small = host_said n small
written_is_said (Faulted f) small = faulted_said f
written_is_said (Refused r) small = refused_said r

-- ---- a line says no other reply

written : (line : List ℕ) (x reply : Reply) → as_written line x ≡ Some reply → line ≡ words_of reply
written line x reply e =
    elim (pointwise nat_eq line (words_of x))
    as (λ b. pointwise nat_eq line (words_of x) ≡ b → cond b (Some x) None ≡ Some reply → line ≡ words_of reply) [
      | true ↦ λ is h. same_text line (words_of x) (sym is) ∙ ap words_of (same_value x reply h)
      | false ↦ λ is h. absurd cc
    ] refl e

from_fields : (line : List ℕ) (o : Option Reply) (reply : Reply) → (o >>= as_written line) ≡ Some reply → line ≡ words_of reply
from_fields line None reply e = absurd cc
from_fields line (Some x) reply e = written line x reply e

pub said_is_written : SaidIsWritten
unfolding says_reply
said_is_written line reply e = from_fields line (reply_of (fields line)) reply e
