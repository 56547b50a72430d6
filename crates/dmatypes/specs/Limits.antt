-- The limits of pages, frames and calls, and of what a manager keeps, as numbers (own), and where pages of a device are.
use Rattle.std.specs.Prelude.{◌≡◌, ◌^◌}
use Rattle.dmatypes.specs.declared.limits.TheConstants.{CALLS_END, DEVICES, LEAST_TABLE_FRAMES, LONGEST_LINE, MOST_CACHED_CONTEXTS}
use Rattle.dmatypes.specs.declared.limits.TheConstants.{MOST_CACHED_FAULTS, MOST_CACHED_LEAVES, MOST_CACHED_NON_LEAVES, MOST_CALLS}
use Rattle.dmatypes.specs.declared.limits.TheConstants.{MOST_DOMAINS, MOST_ORDER, MOST_RECORDS, MOST_SEGMENTS, MOST_SHARES, MOST_STEPS}
use Rattle.dmatypes.specs.declared.limits.TheConstants.{MOST_TABLE_FRAMES, MOST_TICKETS}
use Rattle.dmatypes.specs.declared.page.TheConstants.{FRAMES_END, MOST_PAGES, PAGE_BYTES, SPAN_ORDER, SPAN_PAGES, WINDOW_FIRST, WINDOW_LAST}
use Rattle.dmatypes.specs.declared.width.TheConstants.{ADDRESSES_END, MOST_LEVELS, PAGES_END}

-- 0xFEE00 and 0xFEEFF are the first and the last page of the interrupt address range
pub record AreLimits : Type 0 where
  pub page : PAGE_BYTES ≡ 4096
  pub span : (SPAN_PAGES ≡ 512) × (SPAN_ORDER ≡ 9)
  pub window : (WINDOW_FIRST ≡ 1043968) × (WINDOW_LAST ≡ 1044223)
  pub widest : (ADDRESSES_END ≡ 2 ^ 48) × (PAGES_END ≡ 2 ^ 36) × (MOST_LEVELS ≡ 4)
  pub frames : FRAMES_END ≡ 2 ^ 24
  pub table_frames : (LEAST_TABLE_FRAMES ≡ 16) × (MOST_TABLE_FRAMES ≡ 4096)
  pub pages : MOST_PAGES ≡ 4096
  pub segments : MOST_SEGMENTS ≡ 16
  pub order : MOST_ORDER ≡ 9
  pub domains : MOST_DOMAINS ≡ 15
  pub devices : DEVICES ≡ 16
  pub records : MOST_RECORDS ≡ 256
  pub tickets : MOST_TICKETS ≡ 64
  pub shares : MOST_SHARES ≡ 64
  pub calls : (MOST_CALLS ≡ 2 ^ 20) × (CALLS_END ≡ 2 ^ 56)
  pub steps : MOST_STEPS ≡ 130
  pub line : LONGEST_LINE ≡ 512
  pub leaves : MOST_CACHED_LEAVES ≡ 64
  pub tables : MOST_CACHED_NON_LEAVES ≡ 32
  pub contexts : MOST_CACHED_CONTEXTS ≡ 16
  pub faults : MOST_CACHED_FAULTS ≡ 64
