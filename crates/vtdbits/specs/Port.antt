-- Spellings of port words. A spelling is a sum of fields times powers of two, and any other word spells nothing. A word that is 0 is empty.
use Rattle.std.specs.Prelude.{◌≡◌, ◌⊎◌, ℕ, ◌+◌, ◌*◌, ◌/◌, ◌%◌, ◌^◌, ◌&&◌, nat_le, if◌then◌else◌, Option, Some, None}
use Rattle.dmatypes.specs.declared.call.Access.{Access}
use Rattle.dmatypes.specs.Page.{IsPage, page_of}
use Rattle.dmatypes.specs.Rights.{Permits}
use Rattle.dmatypes.specs.World.{Target}
use Rattle.dmatypes.specs.Allows.{host_of}
use Rattle.vtdbits.specs.Numbers.{is_page}
use Rattle.vtdbits.specs.Translation.{IsTranslation, target}
use Rattle.vtdbits.specs.declared.port.PortWord.{PortWord}

-- the word spells the page with its frame and rights
abbrev pub Spells : ℕ → PortWord → Type 0
Spells word p =
    IsPage p.page × IsTranslation p.translation
    × (word ≡ p.translation.rights + 4 * p.translation.frame + 2 ^ 26 * p.page)

-- ---- the same as a function

abbrev pub port_word : ℕ → Target → PortWord
port_word page t = record { page = page; translation = t }

-- what the word spells, where it spells something
unfoldable pub port_of : ℕ → Option PortWord
port_of word =
    if nat_le 1 (word % 4) && is_page (word / 2 ^ 26)
    then Some (port_word (word / 2 ^ 26) (target (word / 4 % 2 ^ 24) (word % 4)))
    else None

-- ---- what a word says to a device

-- the word is empty, or spells something
abbrev pub IsEmptyOrSpelling : ℕ → Type 0
IsEmptyOrSpelling word = (word ≡ 0) ⊎ ((p : PortWord) × Spells word p)

-- the word states the page of a byte address with the right for an access, and this is the host byte address
abbrev pub States : ℕ → ℕ → Access → ℕ → Type 0
States word address access host =
    (p : PortWord) × Spells word p × (p.page ≡ page_of address) × Permits p.translation.rights access
    × (host ≡ host_of p.translation address)
