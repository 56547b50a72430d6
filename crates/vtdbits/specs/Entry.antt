-- Spellings of second-stage entries. A spelling is a sum of fields times powers of two, and any other word spells nothing.
use Rattle.std.specs.Prelude.{◌≡◌, ℕ, ◌+◌, ◌-◌, ◌*◌, ◌/◌, ◌%◌, ◌^◌, ◌≤◌, ◌==◌, ◌&&◌, nat_le, nat_lt, if◌then◌else◌, Option, Some, None}
use Rattle.std.specs.Prelude.{unwrap_or}
use Rattle.dmatypes.specs.Page.{IsFrame}
use Rattle.vtdbits.specs.Translation.{IsTranslation, IsLargeTranslation, target}
use Rattle.vtdbits.specs.declared.entry.SsEntry.{SsEntry}
use Rattle.dmatypes.specs.declared.page.TheConstants.{FRAMES_END, SPAN_PAGES}
use Rattle.vtdbits.specs.declared.entry.SsEntry.TheVariants.{Absent, Table, Leaf, LargeLeaf}

-- the word spells the entry in a table of the level
abbrev pub Spells : ℕ → ℕ → SsEntry → Type 0
Spells level word Absent = word ≡ 0
Spells level word (Table frame) =
    (2 ≤ level) × (level ≤ 4) × IsFrame frame × (word ≡ 3 + 2 ^ 12 * frame)
Spells level word (Leaf t) = (level ≡ 1) × IsTranslation t × (word ≡ t.rights + 2 ^ 12 * t.frame)
Spells level word (LargeLeaf t) =
    (level ≡ 2) × IsLargeTranslation t × (word ≡ t.rights + 2 ^ 7 + 2 ^ 12 * t.frame)

-- the entry has a place in a table of the level
abbrev pub MayStandAt : ℕ → SsEntry → Type 0
MayStandAt level Absent = Unit {0}
MayStandAt level (Table frame) = (2 ≤ level) × (level ≤ 4)
MayStandAt level (Leaf t) = level ≡ 1
MayStandAt level (LargeLeaf t) = level ≡ 2

-- ---- the same as a function

-- the entry of a word other than 0, by its bits below the frame and its frame
abbrev pub entry_at : ℕ → ℕ → ℕ → Option SsEntry
entry_at level low frame =
    if (level == 1) && nat_le 1 low && nat_le low 3 then Some (Leaf (target frame low))
    else (if nat_le 2 level && nat_le level 4 && (low == 3) then Some (Table frame)
    else (if (level == 2) && nat_le 0x81 low && nat_le low 0x83 && (frame % SPAN_PAGES == 0)
    then Some (LargeLeaf (target frame (low - 2 ^ 7)))
    else None))

-- the entry that the word spells, where it spells one
unfoldable pub entry_of : ℕ → ℕ → Option SsEntry
entry_of level word =
    if word == 0 then Some Absent
    else (if nat_lt (word / 2 ^ 12) FRAMES_END then entry_at level (word % 2 ^ 12) (word / 2 ^ 12) else None)

-- what a walk sees there: the entry, and nothing where the word spells none
unfoldable pub look : ℕ → ℕ → SsEntry
look level word = unwrap_or (entry_of level word) Absent
