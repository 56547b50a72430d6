-- What it means that the table frames begin at a base: numbers of host frames are judged as these are and lead back to them, and a unit
-- that walks the words which C brings finds what the manager's own walk finds.
use Rattle.std.specs.Prelude.{◌≡◌, ◌↔◌, ℕ, ◌+◌, ◌*◌, ◌%◌, ◌<◌, ◌≤◌, Option, None, Some}
use Rattle.dmatypes.specs.World.{Target}
use Rattle.dmatypes.specs.declared.page.TheConstants.{FRAMES_END, PAGE_BYTES, SPAN_PAGES}
use Rattle.dmatypes.specs.declared.width.Width.{Width}
use Rattle.dmatypes.specs.Page.{levels}
use Rattle.vtdbits.specs.Context as context
use Rattle.vtdbits.specs.Entry.{Spells, look}
use Rattle.vtdbits.specs.Translation.{target}
use Rattle.vtdbits.specs.declared.context.ContextEntry.{ContextEntry}
use Rattle.vtdbits.specs.declared.entry.SsEntry.{SsEntry}
use Rattle.vtdbits.specs.declared.words.Words.{Words}
use Rattle.tables.specs.declared.entries.TheConstants.{TABLE_ENTRIES}
use Rattle.tables.specs.Tree.{LeafEntry, Memory, leaf_from, root_states, table_from}
use Rattle.vtdm_c.specs.Base.{IsBase, address_of, context_of, entry_of, frame_of, number_of, word_of, words_of}

-- ---- frames of a map

-- so many frames from a first one on are host frames, and none of them is a table frame
abbrev pub AreFree : ℕ → ℕ → ℕ → ℕ → Type 0
AreFree frames base frame pages =
    (frame + pages ≤ FRAMES_END)
    × ((k : ℕ) → k < pages → base ≤ frame + k → base + frames ≤ frame + k)

-- by its number the manager finds so many frames from a first one on among the host frames, and none of them a table frame
abbrev pub AreFreeByNumber : ℕ → ℕ → ℕ → Type 0
AreFreeByNumber frames number pages = (frames ≤ number) × (number + pages ≤ FRAMES_END)

-- by numbers the manager refuses exactly the frames that it would refuse by themselves, and those that aren't all host frames as such
abbrev pub FramesAreJudgedAlike : Type 0
FramesAreJudgedAlike =
    (frames base frame pages : ℕ) → IsBase frames base → 1 ≤ frames → 1 ≤ pages
    → ((FRAMES_END < number_of base frame pages + pages) ↔ (FRAMES_END < frame + pages))
    × (AreFreeByNumber frames (number_of base frame pages) pages ↔ AreFree frames base frame pages)

-- a byte of them that is told by their number is told as their own
abbrev pub FramesAreReached : Type 0
FramesAreReached =
    (frames base frame pages page offset : ℕ) → IsBase frames base → 1 ≤ frames → AreFree frames base frame pages
    → page < pages → offset < PAGE_BYTES
    → address_of base ((number_of base frame pages + page) * PAGE_BYTES + offset) ≡ (frame + page) * PAGE_BYTES + offset

-- a leaf of 2 MiB may begin at a number exactly where it may begin at the host frame
abbrev pub LeavesStayAligned : Type 0
LeavesStayAligned =
    (frames base frame pages : ℕ) → IsBase frames base → 1 ≤ frames → AreFree frames base frame pages → 1 ≤ pages
    → (number_of base frame pages % SPAN_PAGES ≡ 0) ↔ (frame % SPAN_PAGES ≡ 0)

-- table frames follow one another from the base on
abbrev pub TablesBeginThere : Type 0
TablesBeginThere = (frames base table : ℕ) → IsBase frames base → table < frames → frame_of base table ≡ base + table

-- where the table frames begin at host frame 0, all is as the manager has it
abbrev pub NothingMovesAt0 : Type 0
NothingMovesAt0 =
    (frame pages address : ℕ)
    → (number_of 0 frame pages ≡ frame) × (address_of 0 address ≡ address) × (word_of 0 address ≡ address)

-- ---- words

-- what is seen in a word with host frames is what is seen in the word, with host frames; and where that spells it, so does this
abbrev pub WordsNameHostFrames : Type 0
WordsNameHostFrames =
    (frames base level word : ℕ) → IsBase frames base → 1 ≤ frames
    → (look level (word_of base word) ≡ entry_of base (look level word))
    × ((e : SsEntry) → Spells level word e → Spells level (word_of base word) (entry_of base e))

-- a context entry's words that spell one spell it with host frames then
abbrev pub ContextsNameHostFrames : Type 0
ContextsNameHostFrames =
    (frames base : ℕ) (words : Words) (e : ContextEntry) → IsBase frames base → 1 ≤ frames → context.Spells words e
    → context.Spells (words_of base words) (context_of base e)

-- ---- walks

-- The words of tables, those of each level as the walk reads them there: so they may be read while a call's words are brought. Host memory
-- has each in the host frame of its table frame, with host frames
abbrev pub AreHosted : ℕ → ℕ → (ℕ → ℕ → ℕ → ℕ) → (ℕ → ℕ → ℕ → ℕ) → Type 0
AreHosted frames base words hosted =
    (level table index : ℕ) → table < frames → index < TABLE_ENTRIES
    → hosted level (base + table) index ≡ word_of base (words level table index)

-- what a walk sees in words
abbrev pub seen : (ℕ → ℕ → ℕ → ℕ) → Memory
seen words level table index = look level (words level table index)

-- each table that a walk passes is a table frame
abbrev pub PassesTableFrames : ℕ → Memory → ℕ → ℕ → ℕ → Type 0
PassesTableFrames frames m level table page = (w f : ℕ) → table_from m level table page w ≡ Some f → f < frames

abbrev pub leaf_of : ℕ → Option LeafEntry → Option LeafEntry
leaf_of base None = None
leaf_of base (Some x) = Some (record { size = x.size; frame = frame_of base x.frame; rights = x.rights })

abbrev pub table_of : ℕ → Option ℕ → Option ℕ
table_of base None = None
table_of base (Some table) = Some (base + table)

abbrev pub target_of : ℕ → Option Target → Option Target
target_of base None = None
target_of base (Some t) = Some (target (frame_of base t.frame) t.rights)

-- a walk through host memory from the host frame of a table finds the leaf, and at each level the table, that a walk through the words from
-- the table finds, each by its host frame
abbrev pub WalksFindHostFrames : Type 0
WalksFindHostFrames =
    (frames base : ℕ) (words hosted : ℕ → ℕ → ℕ → ℕ) (level table page : ℕ) → IsBase frames base
    → AreHosted frames base words hosted → PassesTableFrames frames (seen words) level table page
    → (leaf_from (seen hosted) level (base + table) page ≡ leaf_of base (leaf_from (seen words) level table page))
    × ((w : ℕ) → table_from (seen hosted) level (base + table) page w ≡ table_of base (table_from (seen words) level table page w))

-- so a page is found by the host frame of what the root states of it
abbrev pub PagesAreFoundInHostFrames : Type 0
PagesAreFoundInHostFrames =
    (frames base : ℕ) (words hosted : ℕ → ℕ → ℕ → ℕ) (width : Width) (root page : ℕ) → IsBase frames base
    → AreHosted frames base words hosted → PassesTableFrames frames (seen words) (levels width) root page
    → root_states (seen hosted) width (base + root) page ≡ target_of base (root_states (seen words) width root page)
