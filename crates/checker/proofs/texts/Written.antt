-- What is written of a reply is short, and has no newline.
use Rattle.std.proofs.Common.{ℕ, ◌+◌, ◌^◌, ◌<◌, ◌≤◌, List, ◌++◌, length, inl, refl, arith}
use Rattle.std.specs.Prelude.{codes, decimal}
use Rattle.std.proofs.lemmas.Fmt.{length-decimal-le}
use Rattle.std.proofs.lemmas.List.{length-append}
use Rattle.dmatypes.specs.declared.reply.Progress.TheVariants.{Did, Idle}
use Rattle.dmatypes.specs.declared.reply.Reply.{Reply}
use Rattle.dmatypes.specs.declared.reply.Reply.TheVariants.{Made, Done, Mapped, Unmapped, Flushed, Ticket, Stepped, Reaped, Pending}
use Rattle.dmatypes.specs.declared.reply.Reply.TheVariants.{Host, Faulted, Refused}
use Rattle.dmatypes.specs.Numbers.{fault_number, refusal_number}
use Rattle.dmatypes.specs.Replying.{HasSmallNumbers}
use Rattle.dmatypes.specs.Text.{address_text, words_of}
use Rattle.dmatypes.proofs.texts.Hexadecimal.{length_digits}
use Rattle.dmatypes.proofs.texts.Joining.{HasNo, has_no-append}
use Rattle.dmatypes.proofs.texts.Numerals.{address_number, number_has_no}
use Rattle.dmatypes.proofs.texts.Replied.{fault_small, refusal_small}

-- at most so many bytes, none of which is a newline
abbrev IsShort : ℕ → List ℕ → Type 0
IsShort most text = (length text ≤ most) × HasNo 10 text

both : (m n : ℕ) (a b : List ℕ) → IsShort m a → IsShort n b → IsShort (m + n) (a ++ b)
both m n a b h k = (omega (arith, h.0, k.0, length-append a b), has_no-append 10 a b h.1 k.1)

of_decimal : (n : ℕ) → n < 2 ^ 64 → IsShort 20 (decimal n)
of_decimal n small =
    (length-decimal-le 20 n (omega arith) (omega arith) small, number_has_no 10 (decimal n) n (omega arith) (inl (refl, small)))

of_address : (a : ℕ) → a < 2 ^ 64 → IsShort 18 (address_text a)
of_address a small =
    (omega (arith, length_digits a small), number_has_no 10 (address_text a) a (omega arith) (address_number a small))

-- a word, and what is behind it
counted : (word : List ℕ) (n : ℕ) → IsShort 9 word → n < 2 ^ 64 → IsShort 50 (word ++ decimal n)
counted word n h small = let all = both 9 20 word (decimal n) h (of_decimal n small) in (omega (arith, all.0), all.1)

addressed : (word : List ℕ) (a : ℕ) → IsShort 9 word → a < 2 ^ 64 → IsShort 50 (word ++ address_text a)
addressed word a h small = let all = both 9 18 word (address_text a) h (of_address a small) in (omega (arith, all.0), all.1)

pub written_short : (reply : Reply) → HasSmallNumbers reply → IsShort 50 (words_of reply)
written_short (Made d) small = counted (codes "domain ") d (omega arith, (refl, (refl, (refl, (refl, (refl, (refl, (refl, tt)))))))) small
written_short Done small = (omega arith, (refl, (refl, tt)))
written_short (Mapped a) small = addressed (codes "map ") a (omega arith, (refl, (refl, (refl, (refl, tt))))) small
written_short (Unmapped n) small =
    counted (codes "unmapped ") n (omega arith, (refl, (refl, (refl, (refl, (refl, (refl, (refl, (refl, (refl, tt)))))))))) small
written_short (Flushed n) small =
    counted (codes "flushed ") n (omega arith, (refl, (refl, (refl, (refl, (refl, (refl, (refl, (refl, tt))))))))) small
written_short (Ticket d n) small =
    let front = both 9 20 (codes "ticket ") (decimal d) (omega arith, (refl, (refl, (refl, (refl, (refl, (refl, (refl, tt))))))))
    (of_decimal d small.0) in
    both 30 20 (codes "ticket " ++ decimal d ++ codes " ") (decimal n)
    (both 29 1 (codes "ticket " ++ decimal d) (codes " ") front (omega arith, (refl, tt))) (of_decimal n small.1)
written_short (Stepped Did) small = (omega arith, (refl, (refl, (refl, (refl, (refl, (refl, (refl, (refl, tt)))))))))
written_short (Stepped Idle) small = (omega arith, (refl, (refl, (refl, (refl, (refl, (refl, (refl, (refl, (refl, tt))))))))))
written_short (Reaped n) small = counted (codes "reaped ") n (omega arith, (refl, (refl, (refl, (refl, (refl, (refl, (refl, tt)))))))) small
written_short Pending small = (omega arith, (refl, (refl, (refl, (refl, (refl, (refl, (refl, tt))))))))
written_short (Host a) small = addressed (codes "host ") a (omega arith, (refl, (refl, (refl, (refl, (refl, tt)))))) small
written_short (Faulted f) small =
    counted (codes "fault ") (fault_number f) (omega arith, (refl, (refl, (refl, (refl, (refl, (refl, tt))))))) (fault_small f)
written_short (Refused r) small =
    counted (codes "refused ") (refusal_number r) (omega arith, (refl, (refl, (refl, (refl, (refl, (refl, (refl, (refl, tt)))))))))
    (refusal_small r)
