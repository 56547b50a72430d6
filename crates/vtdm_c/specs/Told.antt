-- What readers tell C. They find totals, a device's domain, a domain's totals, devices, mode, width and root. They also find a word of a
-- table frame or several, the words of a context entry and of a descriptor that was sent, and how many waits were sent.
use Rattle.std.specs.Prelude.{◌≡◌, ◌↔◌, ◌+◌, ◌<◌, ◌≤◌, ℕ, List, length, Option, None, Some, slice_get, slice_index}
use Rattle.std.specs.Int.{bit_at}
use Rattle.dmatypes.specs.declared.call.Mode.{Mode}
use Rattle.dmatypes.specs.declared.call.Mode.TheVariants.{Lazy, Strict}
use Rattle.dmatypes.specs.declared.limits.TheConstants.{DEVICES}
use Rattle.dmatypes.specs.declared.width.Width.{Width}
use Rattle.dmatypes.specs.declared.width.Width.TheVariants.{W39, W48}
use Rattle.engine.specs.declared.state.totals.DomainTotals as engine
use Rattle.engine.specs.declared.state.totals.Totals as state
use Rattle.engine.specs.Domains.{Domain, domain_at}
use Rattle.engine.specs.Hits.{mode_of, width_of}
use Rattle.queue.specs.Ring.{submitted_in}
use Rattle.vtdbits.specs.Context.{attached}
use Rattle.vtdbits.specs.Descriptor.{Spells}
use Rattle.vtdbits.specs.declared.descriptor.Descriptor.{Descriptor}
use Rattle.engine.specs.State.{State}
use Rattle.engine.specs.Totals.{domain_totals_of, totals_of}
use Rattle.engine.specs.Walkable.{SpellsContext, root_of}
use Rattle.tables.specs.Pool.{word}
use Rattle.tables.specs.declared.entries.TheConstants.{TABLE_ENTRIES}
use Rattle.vtdbits.specs.declared.words.Words.{Words}
use Rattle.vtdm_c.specs.Answers.{found, lone, told}
use Rattle.vtdm_c.specs.Base.{word_of, words_of}
use Rattle.vtdm_c.specs.declared.answer.Answer.{Answer}
use Rattle.vtdm_c.specs.declared.answer.TheConstants.Answer.{NO_DESCRIPTOR, NO_DEVICE, NO_DOMAIN, NO_WORD, NOT_ATTACHED, OK}
use Rattle.vtdm_c.specs.declared.told.Context.{Context}
use Rattle.vtdm_c.specs.declared.told.DomainTotals.{DomainTotals}
use Rattle.vtdm_c.specs.declared.told.Sent.{Sent}
use Rattle.vtdm_c.specs.declared.told.Totals.{Totals}

-- ---- a status with no numbers, and numbers with status 0

abbrev pub no_totals : ℕ → Totals
no_totals status = record { status = status; free = 0; used = 0; held = 0; tickets = 0; pending = 0 }

abbrev pub totals_told : state.Totals → Totals
totals_told t = record { status = OK; free = t.free; used = t.used; held = t.held; tickets = t.tickets; pending = t.pending }

abbrev pub no_domain_totals : ℕ → DomainTotals
no_domain_totals status = record { status = status; mode = 0; live = 0; retired = 0; pieces = 0 }

-- 0 strict, 1 lazy
abbrev pub number_of_mode : Mode → ℕ
number_of_mode Strict = 0
number_of_mode Lazy = 1

-- its bits
abbrev pub bits_of_width : Width → ℕ
bits_of_width W39 = 39
bits_of_width W48 = 48

abbrev pub domain_totals_told : Option engine.DomainTotals → DomainTotals
domain_totals_told None = no_domain_totals NO_DOMAIN
domain_totals_told (Some t) =
    record { status = OK; mode = number_of_mode t.mode; live = t.live; retired = t.retired; pieces = t.pieces }

abbrev pub no_context : ℕ → Context
no_context status = record { status = status; low = 0; high = 0 }

abbrev pub context_told : Words → Context
context_told words = record { status = OK; low = words.low; high = words.high }

abbrev pub no_sent : ℕ → Sent
no_sent status = record { status = status; low = 0; high = 0 }

abbrev pub sent_told : Words → Sent
sent_told words = record { status = OK; low = words.low; high = words.high }

-- ---- what each reader finds in a state

abbrev pub FindsTotals : State → Totals → Type 0
FindsTotals m answer = answer ≡ totals_told (totals_of m)

abbrev pub FindsDomainTotals : ℕ → State → DomainTotals → Type 0
FindsDomainTotals domain m answer = answer ≡ domain_totals_told (domain_totals_of (domain_at m.domains domain))

-- the domain that a device, 0 to 15, is attached to
abbrev pub FindsDomainOf : ℕ → State → Answer → Type 0
FindsDomainOf device m answer =
    (DEVICES ≤ device → answer ≡ lone NO_DEVICE)
    × (device < DEVICES → answer ≡ found (attached (slice_get m.iommu.contexts device)) NOT_ATTACHED)

-- the devices of a domain that is there: bit j is device j, and no other bit is set
abbrev pub AreDevicesOf : ℕ → State → Option Domain → Answer → Type 0
AreDevicesOf domain m None answer = answer ≡ lone NO_DOMAIN
AreDevicesOf domain m (Some h) answer =
    (answer.status ≡ OK)
    × ((device : ℕ) → (bit_at answer.value device ≡ 1) ↔ (attached (slice_get m.iommu.contexts device) ≡ Some domain))

abbrev pub FindsDevices : ℕ → State → Answer → Type 0
FindsDevices domain m answer = AreDevicesOf domain m (domain_at m.domains domain) answer

abbrev pub mode_told : Option Mode → Answer
mode_told None = lone NO_DOMAIN
mode_told (Some mode) = told (number_of_mode mode)

abbrev pub FindsMode : ℕ → State → Answer → Type 0
FindsMode domain m answer = answer ≡ mode_told (mode_of (domain_at m.domains domain))

abbrev pub width_told : Option Width → Answer
width_told None = lone NO_DOMAIN
width_told (Some width) = told (bits_of_width width)

abbrev pub FindsWidth : ℕ → State → Answer → Type 0
FindsWidth domain m answer = answer ≡ width_told (width_of (domain_at m.domains domain))

abbrev pub FindsRoot : ℕ → State → Answer → Type 0
FindsRoot domain m answer = answer ≡ found (root_of (domain_at m.domains domain)) NO_DOMAIN

-- the word of a frame of the pool at an index, with host frames
pub record FindsWord (frame index base : ℕ) (m : State) (answer : Answer) : Type 0 where
  pub there : frame < m.pool.frames → index < TABLE_ENTRIES → answer ≡ told (word_of base (word m.pool.words frame index))
  pub no_frame : m.pool.frames ≤ frame → answer ≡ lone NO_WORD
  pub no_index : TABLE_ENTRIES ≤ index → answer ≡ lone NO_WORD

-- the words of a device's entry in the row of contexts, with host frames
pub record FindsContext (device base : ℕ) (m : State) (answer : Context) : Type 0 where
  pub words : device < DEVICES → (w : Words) × (answer ≡ context_told (words_of base w)) × SpellsContext m device w
  pub none : DEVICES ≤ device → answer ≡ no_context NO_DEVICE

-- the words of a frame of the pool from an index on, with host frames, as many as there is room for; where they aren't all of the frame,
-- what was there stays
pub record FindsWords (frame first : ℕ) (old new : List ℕ) (base : ℕ) (m : State) (status : ℕ) : Type 0 where
  pub there : frame < m.pool.frames → first + length old ≤ TABLE_ENTRIES → status ≡ OK
  pub room : length new ≡ length old
  pub words : status ≡ OK → (k : ℕ) → k < length old → slice_index new k ≡ word_of base (word m.pool.words frame (first + k))
  pub no_frame : m.pool.frames ≤ frame → (status ≡ NO_WORD) × (new ≡ old)
  pub no_index : TABLE_ENTRIES < first + length old → (status ≡ NO_WORD) × (new ≡ old)

-- the words of a descriptor that may be there
abbrev pub AreOf : Option Descriptor → Sent → Type 0
AreOf None answer = answer ≡ no_sent NO_DESCRIPTOR
AreOf (Some d) answer = (w : Words) × (answer ≡ sent_told w) × Spells w d

-- those of the descriptor that was sent last, but for so many after it
abbrev pub FindsSent : ℕ → State → Sent → Type 0
FindsSent back m answer = AreOf (slice_get (submitted_in m.iommu.ring) back) answer

-- the number of the last wait that was sent
abbrev pub FindsWaits : State → Answer → Type 0
FindsWaits m answer = answer ≡ told m.iommu.sent
