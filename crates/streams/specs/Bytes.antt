-- What a `Stream` does to the bytes of its reader or writer, where they are known.
use Rattle.std.specs.Prelude.{◌≡◌, ◌≢◌, ◌<◌, ◌+◌, take, drop, ℕ, Bool, true, false, length, List, [], ◌∷◌, ◌++◌, Option, Result, Ok, Err}
use Rattle.std.specs.List.{AllByRecursion}
use Rattle.std.specs.Io.KnownBytes.{Appends, Consumes, IsAtEnd}
use Rattle.streams.specs.declared.stream.LineScan.{LineScan}
use Rattle.streams.specs.declared.stream.LineScan.TheVariants as parts
use Rattle.streams.specs.declared.error.StreamError.{StreamError}
use Rattle.streams.specs.declared.error.StreamError.TheVariants as errors
use Rattle.streams.specs.declared.line.LineEnd.{LineEnd}
use Rattle.streams.specs.declared.line.LineEnd.TheVariants.{Newline, Nothing, Cut, Long}

-- no newline stands in these bytes
abbrev pub IsUnbroken : List ℕ → Type 0
IsUnbroken bytes = AllByRecursion (λ b. b ≢ 10) bytes

-- a block was read, or nothing at the end, or the read failed and took nothing
abbrev pub Filled : {E : Type 0} → Option (List ℕ) → Option (List ℕ) → List ℕ → Result Bool E → Type 0
Filled old new block (Ok true) = Consumes old new block × (block ≢ [])
Filled old new block (Ok false) = Consumes old new [] × IsAtEnd new × (block ≡ [])
Filled old new block (Err e) = Consumes old new [] × (block ≡ [])

-- bytes of the block were moved to the line: up to a newline, or all of them, or up to a byte for which
-- a line of at most so many bytes has no room
abbrev pub TakesLine : ℕ → List ℕ → List ℕ → List ℕ → List ℕ → LineScan → Type 0
TakesLine most block rest line longer parts.Newline =
    (more : List ℕ) × (longer ≡ line ++ more) × (block ≡ more ++ 10 ∷ rest) × IsUnbroken more
TakesLine most block rest line longer parts.More = (longer ≡ line ++ block) × (rest ≡ []) × IsUnbroken block
TakesLine most block rest line longer parts.Long =
    (more : List ℕ) × (b : ℕ) × (longer ≡ line ++ more) × (block ≡ more ++ b ∷ rest) × IsUnbroken (more ++ b ∷ [])
    × (length longer ≡ most)

-- where a line with so much room ends in these bytes: at the newline behind so many, or at the last of them, or before one for which
-- there is no room
abbrev pub EndsLine : List ℕ → ℕ → ℕ → LineScan → Type 0
EndsLine bytes room count parts.Newline = (bytes ≡ take count bytes ++ 10 ∷ drop (count + 1) bytes) × IsUnbroken (take count bytes)
EndsLine bytes room count parts.More = (count ≡ length bytes) × IsUnbroken bytes
EndsLine bytes room count parts.Long = (count ≡ room) × (room < length bytes) × IsUnbroken (take (room + 1) bytes)

-- of the bytes that were still to be written and a text behind them, a front is written, and the rest is
-- still to be
abbrev pub Sent : Option (List ℕ) → Option (List ℕ) → List ℕ → List ℕ → List ℕ → Type 0
Sent before after block rest text = (front : List ℕ) × Appends before after front × (front ++ rest ≡ block ++ text)

-- of the bytes that were still to be written and a text behind them, a front is written
abbrev pub SentFront : Option (List ℕ) → Option (List ℕ) → List ℕ → List ℕ → Type 0
SentFront before after block text = (front : List ℕ) × (rest : List ℕ) × Appends before after front × (front ++ rest ≡ block ++ text)

-- some text was put behind the bytes that were still to be written
abbrev pub PutsSome : Option (List ℕ) → Option (List ℕ) → List ℕ → List ℕ → Type 0
PutsSome before after block rest = (text : List ℕ) × Sent before after block rest text

-- how the next line was read, of at most so many bytes: these bytes of it, and how it ended
abbrev pub ReadLine : {E : Type 0} → ℕ → Option (List ℕ) → Option (List ℕ) → List ℕ → Result LineEnd E → Type 0
ReadLine most old new line (Ok Newline) = Consumes old new (line ++ 10 ∷ []) × IsUnbroken line
ReadLine most old new line (Ok Nothing) = Consumes old new [] × IsAtEnd new
ReadLine most old new line (Ok Cut) = Consumes old new line × IsUnbroken line × (line ≢ []) × IsAtEnd new
ReadLine most old new line (Ok Long) = (b : ℕ) × Consumes old new (line ++ b ∷ []) × IsUnbroken (line ++ b ∷ []) × (length line ≡ most)
ReadLine most old new line (Err e) = Consumes old new line × IsUnbroken line

-- nothing is still to be written where a read found the end, or failed
abbrev pub IsAnswered : List ℕ → Result LineEnd StreamError → Type 0
IsAnswered block (Ok Nothing) = block ≡ []
IsAnswered block (Ok Cut) = block ≡ []
IsAnswered block (Err errors.Read) = block ≡ []
IsAnswered block result = Unit {0}
