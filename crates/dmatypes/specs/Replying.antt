-- What a line says of a reply, its newline left out: the reply that it is written for.
use Rattle.std.specs.Prelude.{◌≡◌, ℕ, ◌^◌, ◌<◌, List, [], ◌∷◌, Option, Some, None, nat_eq, if◌then◌else◌, codes}
use Rattle.std.specs.Cmp.Lexicographic.{pointwise}
use Rattle.dmatypes.specs.declared.reply.Progress.TheVariants.{Did, Idle}
use Rattle.dmatypes.specs.declared.reply.Reply.{Reply}
use Rattle.dmatypes.specs.declared.reply.Reply.TheVariants.{Made, Done, Mapped, Unmapped, Flushed, Ticket, Stepped, Reaped, Pending}
use Rattle.dmatypes.specs.declared.reply.Reply.TheVariants.{Host, Faulted, Refused}
use Rattle.dmatypes.specs.Grammar.{◌>>=◌, ended, field_as, fields, is_word, number}
use Rattle.dmatypes.specs.Numbers.{numbered_fault, numbered_refusal}
use Rattle.dmatypes.specs.Text.{words_of}

-- ---- what fields say

-- one number, and no more
unfoldable pub alone : List (List ℕ) → Option ℕ
alone fs = do
  n ← field_as number fs
  ended n.0 n.1

unfoldable pub ticket_of : List (List ℕ) → Option Reply
ticket_of fs = do
  d ← field_as number fs
  n ← field_as number d.1
  ended (Ticket d.0 n.0) n.1

unfoldable pub stepped_of : List (List ℕ) → Option Reply
stepped_of [] = None
stepped_of (word ∷ fs) = if is_word word (codes "did") then ended (Stepped Did) fs
    else (if is_word word (codes "idle") then ended (Stepped Idle) fs else None)

abbrev pub faulted_of : List (List ℕ) → Option Reply
faulted_of fs = do
  n ← alone fs
  f ← numbered_fault n
  Some (Faulted f)

abbrev pub refused_of : List (List ℕ) → Option Reply
refused_of fs = do
  n ← alone fs
  r ← numbered_refusal n
  Some (Refused r)

-- by the first field
unfoldable pub reply_of : List (List ℕ) → Option Reply
reply_of [] = None
reply_of (word ∷ fs) = if is_word word (codes "domain") then (alone fs >>= λ n. Some (Made n))
    else (if is_word word (codes "ok") then ended Done fs
    else (if is_word word (codes "map") then (alone fs >>= λ n. Some (Mapped n))
    else (if is_word word (codes "unmapped") then (alone fs >>= λ n. Some (Unmapped n))
    else (if is_word word (codes "flushed") then (alone fs >>= λ n. Some (Flushed n))
    else (if is_word word (codes "ticket") then ticket_of fs
    else (if is_word word (codes "unit") then stepped_of fs
    else (if is_word word (codes "reaped") then (alone fs >>= λ n. Some (Reaped n))
    else (if is_word word (codes "pending") then ended Pending fs
    else (if is_word word (codes "host") then (alone fs >>= λ n. Some (Host n))
    else (if is_word word (codes "fault") then faulted_of fs
    else (if is_word word (codes "refused") then refused_of fs else None)))))))))))

-- ---- what a line says

-- the reply, where the line is the one that is written for it
abbrev pub as_written : List ℕ → Reply → Option Reply
as_written line reply = if pointwise nat_eq line (words_of reply) then Some reply else None

-- the reply that a line says
unfoldable pub says_reply : List ℕ → Option Reply
says_reply line = reply_of (fields line) >>= as_written line

-- ---- that is the writing, read back

-- its numbers are below 2^64, as those of each `Reply` of the code are
abbrev pub HasSmallNumbers : Reply → Type 0
HasSmallNumbers (Made d) = d < 2 ^ 64
HasSmallNumbers (Mapped a) = a < 2 ^ 64
HasSmallNumbers (Unmapped n) = n < 2 ^ 64
HasSmallNumbers (Flushed n) = n < 2 ^ 64
HasSmallNumbers (Ticket d n) = (d < 2 ^ 64) × (n < 2 ^ 64)
HasSmallNumbers (Reaped n) = n < 2 ^ 64
HasSmallNumbers (Host a) = a < 2 ^ 64
HasSmallNumbers reply = Unit {0}

-- what is written for a reply says this reply
abbrev pub WrittenIsSaid : Type 0
WrittenIsSaid = (reply : Reply) → HasSmallNumbers reply → says_reply (words_of reply) ≡ Some reply

-- a line says no reply but the one that it is written for
abbrev pub SaidIsWritten : Type 0
SaidIsWritten = (line : List ℕ) (reply : Reply) → says_reply line ≡ Some reply → line ≡ words_of reply
