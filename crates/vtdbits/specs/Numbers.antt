-- The numbers that words are made of, beside frames and rights.
use Rattle.std.specs.Prelude.{ℕ, ◌-◌, ◌%◌, ◌^◌, ◌<◌, ◌≤◌, ◌==◌, ◌&&◌, ◌||◌, nat_le, nat_lt, Bool, true, false}
use Rattle.dmatypes.specs.declared.limits.TheConstants.{DEVICES, MOST_DOMAINS}
use Rattle.dmatypes.specs.declared.page.TheConstants.{WINDOW_FIRST, WINDOW_LAST}
use Rattle.dmatypes.specs.declared.width.TheConstants.{PAGES_END}
use Rattle.vtdbits.specs.declared.number.TheConstants.{MOST_BLOCK_ORDER}
use Rattle.dmatypes.specs.Block.{Block, IsAligned}

-- the id of a domain
abbrev pub IsDomainId : ℕ → Type 0
IsDomainId d = (1 ≤ d) × (d ≤ MOST_DOMAINS)

-- the number of a device
abbrev pub IsDevice : ℕ → Type 0
IsDevice v = v ≤ DEVICES - 1

-- a block that page-selective invalidation can name
abbrev pub IsPageBlock : Block → Type 0
IsPageBlock b = (b.order ≤ MOST_BLOCK_ORDER) × (b.first < PAGES_END) × IsAligned b

-- a flag's bit
abbrev pub bit_of_flag : Bool → ℕ
bit_of_flag false = 0
bit_of_flag true = 1

-- ---- the same as tests

abbrev pub is_domain_id : ℕ → Bool
is_domain_id d = nat_le 1 d && nat_le d MOST_DOMAINS

abbrev pub is_page : ℕ → Bool
is_page p = nat_le 1 p && nat_lt p PAGES_END && (nat_lt p WINDOW_FIRST || nat_lt WINDOW_LAST p)

abbrev pub is_page_block : Block → Bool
is_page_block b = nat_le b.order MOST_BLOCK_ORDER && nat_lt b.first PAGES_END && (b.first % 2 ^ b.order == 0)
