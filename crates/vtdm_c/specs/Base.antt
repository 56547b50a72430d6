-- Host frames where the table frames begin at one of them, the base. The manager has numbers of its own for host frames: that of the base
-- is 0, and behind the last host frame those before the base go on. So table frame F is number F at each base.
use Rattle.std.specs.Prelude.{◌≡◌, ℕ, ◌+◌, ◌-◌, ◌*◌, ◌%◌, ◌≤◌, ◌==◌, nat_le, nat_lt, if◌then◌else◌, map}
use Rattle.dmatypes.specs.declared.call.Call.{Call}
use Rattle.dmatypes.specs.declared.call.Call.TheVariants as calls
use Rattle.dmatypes.specs.declared.call.Segment.{Segment}
use Rattle.dmatypes.specs.declared.page.TheConstants.{FRAMES_END, PAGE_BYTES, SPAN_PAGES}
use Rattle.dmatypes.specs.declared.reply.Reply.{Reply}
use Rattle.dmatypes.specs.declared.reply.Reply.TheVariants as replies
use Rattle.vtdbits.specs.declared.context.ContextEntry.{ContextEntry}
use Rattle.vtdbits.specs.declared.context.ContextEntry.TheVariants as contexts
use Rattle.vtdbits.specs.declared.entry.SsEntry.{SsEntry}
use Rattle.vtdbits.specs.declared.entry.SsEntry.TheVariants as entries
use Rattle.vtdbits.specs.declared.words.Words.{Words}
use Rattle.vtdbits.specs.Translation.{target}

-- so many table frames are host frames from there on, and where one frame of a leaf of 2 MiB may be its first, so may its number
abbrev pub IsBase : ℕ → ℕ → Type 0
IsBase frames base = (base % SPAN_PAGES ≡ 0) × (base + frames ≤ FRAMES_END)

-- ---- what the manager is told

-- The number of the first of so many host frames. Where they aren't all host frames it is the first itself, and a map of them is refused.
-- Where they begin before the base and end behind it, it is the number of the base, and a map of them is refused too
abbrev pub number_of : ℕ → ℕ → ℕ → ℕ
number_of base frame pages =
    if nat_lt FRAMES_END (frame + pages) then frame
    else (if nat_le base frame then frame - base
    else (if nat_le (frame + pages) base then frame + (FRAMES_END - base) else 0))

abbrev pub numbered : ℕ → Segment → Segment
numbered base s = record { frame = number_of base s.frame s.pages; pages = s.pages }

-- the call with the manager's numbers of host frames: two kinds of call name some
abbrev pub by_numbers : ℕ → Call → Call
by_numbers base (calls.Map domain frame pages order rights) = calls.Map domain (number_of base frame pages) pages order rights
by_numbers base (calls.MapList domain order rights segments) =
    calls.MapList domain order rights (record { items = map (numbered base) segments.items })
by_numbers base call = call

-- ---- what the manager tells

-- the host frame of a number
abbrev pub frame_of : ℕ → ℕ → ℕ
frame_of base number = (number + base) % FRAMES_END

-- the host address of one that is told by a number of a frame; no other is told
abbrev pub address_of : ℕ → ℕ → ℕ
address_of base address =
    if nat_lt address (FRAMES_END * PAGE_BYTES) then (address + base * PAGE_BYTES) % (FRAMES_END * PAGE_BYTES) else address

-- the reply of a call with host addresses: a request's alone has one
abbrev pub at_host : ℕ → Reply → Reply
at_host base (replies.Host address) = replies.Host (address_of base address)
at_host base reply = reply

abbrev pub by_hosts : ℕ → Call → Reply → Reply
by_hosts base (calls.Dma device address access whim) reply = at_host base reply
by_hosts base call reply = reply

-- an entry's word with host frames: the frame stands in it from bit 12 on, as in an address
abbrev pub word_of : ℕ → ℕ → ℕ
word_of base word = if word == 0 then 0 else address_of base word

-- likewise a context entry's, of which the low word names a frame
abbrev pub words_of : ℕ → Words → Words
words_of base words = record { low = word_of base words.low; high = words.high }

-- ---- what these words spell

abbrev pub entry_of : ℕ → SsEntry → SsEntry
entry_of base entries.Absent = entries.Absent
entry_of base (entries.Table frame) = entries.Table (frame_of base frame)
entry_of base (entries.Leaf t) = entries.Leaf (target (frame_of base t.frame) t.rights)
entry_of base (entries.LargeLeaf t) = entries.LargeLeaf (target (frame_of base t.frame) t.rights)

abbrev pub context_of : ℕ → ContextEntry → ContextEntry
context_of base contexts.Absent = contexts.Absent
context_of base (contexts.Present root width domain) = contexts.Present (frame_of base root) width domain
