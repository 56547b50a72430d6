-- What contracts see of the rows, and of the ports, passes and the desk that belong to them.
use Rattle.std.specs.Int.{bit_at}
use Rattle.std.specs.Prelude.{◌≡◌, ℕ, zero, suc, ◌+◌, ◌<◌, List, [], ◌∷◌, ◌++◌, replicate, Some, slice_get, slice_index}
use Rattle.atomic_table.specs.Seated.{TableId}
use Rattle.dmatypes.specs.declared.reply.Event.{Event}
use Rattle.ports.specs.declared.known.OwnStep.{OwnStep}
use Rattle.ports.specs.declared.known.OwnStep.TheVariants.{Stored}
use Rattle.ports.specs.Steps.{place_of}
use Rattle.dmatypes.specs.declared.limits.TheConstants.{DEVICES}
use Rattle.ports.specs.declared.rule.TheConstants.{ROW_WORDS, SLOTS}
use Rattle.ports.specs.declared.known.View.{View}

-- which rows they are: their table, and how many table frames the world of their history has
pub record Rows : Type 0 where
  pub table : TableId
  pub frames : ℕ

-- a port: its rows, its device, the history that it has learnt of, and its own steps
pub record Port : Type 0 where
  pub rows : Rows
  pub device : ℕ
  pub seen : List Event
  pub did : List OwnStep

-- a pass: the same without a row, by a number of its own among the callers
pub record Pass : Type 0 where
  pub rows : Rows
  pub caller : ℕ
  pub seen : List Event
  pub did : List OwnStep

-- the desk: its rows, the whole history, its own stores, and the word that it last stored at each place
pub record Desk : Type 0 where
  pub rows : Rows
  pub history : List Event
  pub did : List OwnStep
  pub last : List ℕ

-- ---- what seats know, as that

abbrev pub rows_of : TableId → ℕ → Rows
rows_of table frames = record { table = table; frames = frames }

abbrev pub port_of : TableId → View → ℕ → Port
port_of table v device = record { rows = rows_of table v.frames; device = device; seen = v.mine.seen; did = v.mine.did }

abbrev pub pass_of : TableId → View → ℕ → Pass
pass_of table v caller = record { rows = rows_of table v.frames; caller = caller; seen = v.mine.seen; did = v.mine.did }

abbrev pub desk_of : TableId → View → Desk
desk_of table v = record { rows = rows_of table v.frames; history = v.mine.seen; did = v.mine.did; last = v.last }

-- ---- what the desk does to a row

-- stores of 0 in a device's row, in the slots below a number
unfoldable pub emptied_slots : ℕ → ℕ → List OwnStep
emptied_slots device zero = []
emptied_slots device (suc slot) = emptied_slots device slot ++ Stored (place_of device slot) 0 ∷ []

-- but for the rows of these bits, all words are 0
abbrev pub AreEmptyBut : ℕ → List ℕ → Type 0
AreEmptyBut filled last =
    (device slot : ℕ) → device < DEVICES → slot < SLOTS → (bit_at filled device ≡ 1 → ⊥) → slice_index last (place_of device slot) ≡ 0

-- ---- what is made with new rows

abbrev pub new_port : Rows → ℕ → Port
new_port rows device = record { rows = rows; device = device; seen = []; did = [] }

abbrev pub new_pass : Rows → ℕ → Pass
new_pass rows caller = record { rows = rows; caller = caller; seen = []; did = [] }

abbrev pub new_desk : Rows → Desk
new_desk rows = record { rows = rows; history = []; did = []; last = replicate ROW_WORDS 0 }

-- up to the count, the ports are those of devices 0, 1 and so on
abbrev pub ArePorts : Rows → List Port → ℕ → Type 0
ArePorts rows ports count = (k : ℕ) → k < count → slice_get ports k ≡ Some (new_port rows k)

-- up to the count, the passes are callers behind the ports
abbrev pub ArePasses : Rows → List Pass → ℕ → Type 0
ArePasses rows passes count = (k : ℕ) → k < count → slice_get passes k ≡ Some (new_pass rows (DEVICES + k))
