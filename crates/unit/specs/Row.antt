-- The row of contexts as words. `Contexts` is seen as the list of the entries that its 16 pairs of words spell.
use Rattle.std.specs.Prelude.{◌≡◌, List, length, All, IsSome, unwrap_or}
use Rattle.vtdbits.specs.Context.{context_of}
use Rattle.vtdbits.specs.declared.words.Words.{Words}
use Rattle.vtdbits.specs.declared.context.ContextEntry.{ContextEntry}
use Rattle.dmatypes.specs.declared.limits.TheConstants.{DEVICES}
use Rattle.vtdbits.specs.declared.context.ContextEntry.TheVariants.{Absent}

-- the entry that the words spell
abbrev pub entry_in : Words → ContextEntry
entry_in words = unwrap_or (context_of words) Absent

-- a pair of words for each device, and each pair spells an entry
pub record IsRow (row : List Words) : Type 0 where
  pub devices : length row ≡ DEVICES
  pub spelled : All (λ w. IsSome (context_of w)) row
