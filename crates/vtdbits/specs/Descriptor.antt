-- Spellings of descriptors. A spelling is a sum of fields times powers of two in each of two words, and any other pair spells nothing.
use Rattle.std.specs.Prelude.{◌≡◌, ℕ, ◌+◌, ◌-◌, ◌*◌, ◌/◌, ◌%◌, ◌^◌, ◌<◌, ◌==◌, ◌&&◌, nat_le, nat_lt, Bool, if◌then◌else◌, Option, Some}
use Rattle.std.specs.Prelude.{None}
use Rattle.dmatypes.specs.Block.{Block, block}
use Rattle.vtdbits.specs.Numbers.{IsDomainId, IsDevice, IsPageBlock, bit_of_flag, is_domain_id, is_page_block}
use Rattle.vtdbits.specs.declared.words.Words.{Words}
use Rattle.vtdbits.specs.declared.descriptor.Descriptor.{Descriptor}
use Rattle.vtdbits.specs.declared.descriptor.Descriptor.TheVariants.{ContextGlobal, ContextDomain, ContextDevice, IotlbGlobal, IotlbDomain}
use Rattle.dmatypes.specs.declared.limits.TheConstants.{DEVICES}
use Rattle.vtdbits.specs.declared.descriptor.Descriptor.TheVariants.{IotlbPages, Wait}

-- the words spell the descriptor
abbrev pub Spells : Words → Descriptor → Type 0
Spells words ContextGlobal = (words.low ≡ 0x11) × (words.high ≡ 0)
Spells words (ContextDomain domain) =
    IsDomainId domain × (words.low ≡ 0x21 + 2 ^ 16 * domain) × (words.high ≡ 0)
Spells words (ContextDevice domain device) =
    IsDomainId domain × IsDevice device
    × (words.low ≡ 0x31 + 2 ^ 16 * domain + 2 ^ 32 * (8 * device)) × (words.high ≡ 0)
Spells words IotlbGlobal = (words.low ≡ 0xd2) × (words.high ≡ 0)
Spells words (IotlbDomain domain) =
    IsDomainId domain × (words.low ≡ 0xe2 + 2 ^ 16 * domain) × (words.high ≡ 0)
Spells words (IotlbPages domain pages hint) =
    IsDomainId domain × IsPageBlock pages
    × (words.low ≡ 0xf2 + 2 ^ 16 * domain)
    × (words.high ≡ 2 ^ 12 * pages.first + 2 ^ 6 * bit_of_flag hint + pages.order)
Spells words (Wait status) =
    (status < 2 ^ 32) × (words.low ≡ 0x25 + 2 ^ 32 * status) × (words.high ≡ 2 ^ 36)

-- ---- the same as a function: tests of the words, by the low bits of each form

-- low bits alone
abbrev pub is_global : ℕ → Words → Bool
is_global form words = (words.low == form) && (words.high == 0)

-- low bits and a domain
abbrev pub is_of_domain : ℕ → Words → Bool
is_of_domain form words =
    (words.low % 2 ^ 16 == form) && is_domain_id (words.low / 2 ^ 16) && (words.high == 0)

-- low bits, a domain and a device
abbrev pub is_of_device : ℕ → Words → Bool
is_of_device form words =
    (words.low % 2 ^ 16 == form) && is_domain_id (words.low / 2 ^ 16 % 2 ^ 16)
    && (words.low / 2 ^ 32 % 8 == 0) && nat_le (words.low / 2 ^ 35) (DEVICES - 1) && (words.high == 0)

-- the block in the high word
abbrev pub block_in : Words → Block
block_in words = block (words.high / 2 ^ 12) (words.high % 2 ^ 6)

-- low bits, a domain and a block
abbrev pub is_of_pages : ℕ → Words → Bool
is_of_pages form words =
    (words.low % 2 ^ 16 == form) && is_domain_id (words.low / 2 ^ 16)
    && (words.high / 2 ^ 7 % 2 ^ 5 == 0) && is_page_block (block_in words)

-- low bits and a status
abbrev pub is_wait : ℕ → Words → Bool
is_wait form words =
    (words.low % 2 ^ 32 == form) && nat_lt (words.low / 2 ^ 32) (2 ^ 32) && (words.high == 2 ^ 36)

-- the descriptor that the words spell, where they spell one
unfoldable pub descriptor_of : Words → Option Descriptor
descriptor_of words =
    if is_global 0x11 words then Some ContextGlobal
    else (if is_of_domain 0x21 words then Some (ContextDomain (words.low / 2 ^ 16))
    else (if is_of_device 0x31 words
    then Some (ContextDevice (words.low / 2 ^ 16 % 2 ^ 16) (words.low / 2 ^ 35))
    else (if is_global 0xd2 words then Some IotlbGlobal
    else (if is_of_domain 0xe2 words then Some (IotlbDomain (words.low / 2 ^ 16))
    else (if is_of_pages 0xf2 words
    then Some (IotlbPages (words.low / 2 ^ 16) (block_in words) (words.high / 2 ^ 6 % 2 == 1))
    else (if is_wait 0x25 words then Some (Wait (words.low / 2 ^ 32))
    else None))))))
