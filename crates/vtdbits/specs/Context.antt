-- Spellings of context entries. A spelling is a sum of fields times powers of two in each of two words, and any other pair spells nothing.
use Rattle.std.specs.Prelude.{◌≡◌, ℕ, ◌+◌, ◌*◌, ◌/◌, ◌%◌, ◌^◌, ◌==◌, ◌&&◌, nat_lt, Bool, if◌then◌else◌, Option, Some, None}
use Rattle.dmatypes.specs.Page.{IsFrame}
use Rattle.dmatypes.specs.declared.page.TheConstants.{FRAMES_END}
use Rattle.dmatypes.specs.declared.width.Width.{Width}
use Rattle.dmatypes.specs.declared.width.Width.TheVariants.{W39, W48}
use Rattle.vtdbits.specs.Numbers.{IsDomainId, is_domain_id}
use Rattle.vtdbits.specs.declared.words.Words.{Words}
use Rattle.vtdbits.specs.declared.context.ContextEntry.{ContextEntry}
use Rattle.vtdbits.specs.declared.context.ContextEntry.TheVariants.{Absent, Present}

-- the number of an address width
abbrev pub number_of_width : Width → ℕ
number_of_width W39 = 1
number_of_width W48 = 2

-- the words spell the entry
abbrev pub Spells : Words → ContextEntry → Type 0
Spells words Absent = (words.low ≡ 0) × (words.high ≡ 0)
Spells words (Present root width domain) =
    IsFrame root × IsDomainId domain
    × (words.low ≡ 1 + 2 ^ 12 * root) × (words.high ≡ number_of_width width + 2 ^ 8 * domain)

-- the domain that an entry attaches its device to
abbrev pub attached : Option ContextEntry → Option ℕ
attached None = None
attached (Some Absent) = None
attached (Some (Present root width domain)) = Some domain

-- ---- the same as a function

-- the address width of a number
abbrev pub width_of_number : ℕ → Option Width
width_of_number n = if n == 1 then Some W39 else (if n == 2 then Some W48 else None)

-- a present entry, where its width is one
abbrev pub present_with : ℕ → ℕ → Option Width → Option ContextEntry
present_with root domain None = None
present_with root domain (Some width) = Some (Present root width domain)

abbrev pub is_present : Words → Bool
is_present words =
    (words.low % 2 ^ 12 == 1) && nat_lt (words.low / 2 ^ 12) FRAMES_END && is_domain_id (words.high / 2 ^ 8)

-- the entry that the words spell, where they spell one
unfoldable pub context_of : Words → Option ContextEntry
context_of words =
    if (words.low == 0) && (words.high == 0) then Some Absent
    else (if is_present words
    then present_with (words.low / 2 ^ 12) (words.high / 2 ^ 8) (width_of_number (words.high % 2 ^ 8))
    else None)
