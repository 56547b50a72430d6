-- The steps of ports, passes and the desk, and what runs of them lead to. Places up to ROW_WORDS are the words of the rows, SLOTS for each
-- device, and the place behind them is the counter. A port that loads a word has then seen the history, and so has a port or a pass that
-- loads the counter. The contract of `whole_run` (src/laws.rt) says what holds of all runs from the empty state. The last history is legal,
-- and begins with what each caller had seen at any point (`legal`, `seen`). Each word that a port loaded is lawful for its device after the
-- history of that point, which the port has then seen (`lawful`, `learnt`). The points of one caller's loads are fronts of one another, in
-- its order (`ordered`).
use Rattle.std.specs.Prelude.{◌≡◌, ℕ, ◌+◌, ◌*◌, ◌%◌, ◌<◌, List, [], ◌∷◌, ◌++◌, length, replicate, slice_index, slice_index_or, slice_set}
use Rattle.std.specs.Prelude.{◌==◌, if◌then◌else◌, flat_map, fold}
use Rattle.dmatypes.specs.declared.reply.Event.{Event}
use Rattle.dmatypes.specs.History.{IsLegal}
use Rattle.dmatypes.specs.declared.limits.TheConstants.{DEVICES}
use Rattle.ports.specs.declared.rule.TheConstants.{COUNTER, ROW_WORDS, SLOTS}
use Rattle.ports.specs.declared.known.OwnStep.{OwnStep}
use Rattle.ports.specs.declared.known.OwnStep.TheVariants.{Loaded, Stored}
use Rattle.ports.specs.Lawful.{IsLawfulAfter}

-- the place of a word: its slot in the row of a device
abbrev pub place_of : ℕ → ℕ → ℕ
place_of device slot = SLOTS * device + slot

-- the slot of a page in a row
abbrev pub slot_of : ℕ → ℕ
slot_of page = page % SLOTS

abbrev pub counter : ℕ
counter = COUNTER

-- each word is lawful in its device's row
abbrev pub AreLawful : (List Event → ℕ → ℕ → Type 0) → List Event → List ℕ → Type 0
AreLawful lawful history words =
    (device slot : ℕ) → device < DEVICES → slot < SLOTS → lawful history device (slice_index words (place_of device slot))

-- a history, the words of the rows, and what each caller has seen: the ports, one for each device, then the passes
pub record Core : Type 0 where
  pub history : List Event
  pub words : List ℕ
  pub seen : List (List Event)

-- one step is one of five kinds
pub data PortStep : Type 0 where
  -- a port loads a word of its row: the port, the slot and the word
  loads_word : ℕ → ℕ → ℕ → PortStep
  -- a port stores 0 in its row
  empties_word : ℕ → ℕ → PortStep
  -- the desk stores a word in a device's row
  stores_word : ℕ → ℕ → ℕ → PortStep
  -- the desk adds one to the counter, and an event to the history
  adds_event : Event → PortStep
  -- a port or a pass loads the counter: the caller, and the answer
  loads_counter : ℕ → ℕ → PortStep

abbrev pub empty : ℕ → Core
empty passes = record { history = []; words = replicate ROW_WORDS 0; seen = replicate (DEVICES + passes) [] }

abbrev pub seen_by : Core → ℕ → List Event
seen_by c caller = slice_index_or c.seen caller []

abbrev pub word_at : Core → ℕ → ℕ → ℕ
word_at c device slot = slice_index c.words (place_of device slot)

-- what the caller has seen becomes the history
abbrev pub shown_to : ℕ → Core → Core
shown_to caller c = record { history = c.history; words = c.words; seen = slice_set c.seen caller c.history }

abbrev pub with_word : ℕ → ℕ → ℕ → Core → Core
with_word device slot word c = record { history = c.history; words = slice_set c.words (place_of device slot) word; seen = c.seen }

abbrev pub with_event : Event → Core → Core
with_event event c = record { history = c.history ++ event ∷ []; words = c.words; seen = c.seen }

abbrev pub stepped : Core → PortStep → Core
stepped c (loads_word port slot word) = shown_to port c
stepped c (empties_word port slot) = with_word port slot 0 c
stepped c (stores_word device slot word) = with_word device slot word c
stepped c (adds_event event) = with_event event c
stepped c (loads_counter caller answer) = shown_to caller c

abbrev pub stepped_by : Core → List PortStep → Core
stepped_by c [] = c
stepped_by c (s ∷ ss) = stepped_by (stepped c s) ss

-- where they lead from the empty state
abbrev pub led_to : ℕ → List PortStep → Core
led_to passes steps = stepped_by (empty passes) steps

-- a step as the caller's own, with its place and the value loaded or stored: none where another made it
abbrev pub own_step : ℕ → PortStep → List OwnStep
own_step caller (loads_word port slot word) = if port == caller then Loaded (place_of port slot) word ∷ [] else []
own_step caller (empties_word port slot) = if port == caller then Stored (place_of port slot) 0 ∷ [] else []
own_step caller (loads_counter other answer) = if other == caller then Loaded counter answer ∷ [] else []
own_step caller _ = []

-- the caller's own steps among these, in their order
abbrev pub own_steps : ℕ → List PortStep → List OwnStep
own_steps caller steps = flat_map (own_step caller) steps

-- a step as a store of the desk's own: none where another made it
abbrev pub desk_store : PortStep → List OwnStep
desk_store (stores_word device slot word) = Stored (place_of device slot) word ∷ []
desk_store _ = []

-- the desk's own stores among these, in their order
abbrev pub desk_stores : List PortStep → List OwnStep
desk_stores steps = flat_map desk_store steps

-- the word that the desk last stored at each place, after one step more
abbrev pub stored_after : List ℕ → PortStep → List ℕ
stored_after last (stores_word device slot word) = slice_set last (place_of device slot) word
stored_after last _ = last

-- the word that the desk last stored at each place, after these steps: at first 0
abbrev pub last_stored : List PortStep → List ℕ
last_stored steps = fold stored_after (replicate ROW_WORDS 0) steps

module _ (legal : List Event → Type 0) (lawful : List Event → ℕ → ℕ → Type 0) where
  -- a port loads the word that stands there, and the desk stores a lawful word. The history with the event is legal, and every word
  -- stays lawful after it. The answer of the counter is the length of the history
  abbrev pub IsPortStep : Core → PortStep → Type 0
  IsPortStep c (loads_word port slot word) = (port < DEVICES) × (slot < SLOTS) × (word ≡ word_at c port slot)
  IsPortStep c (empties_word port slot) = (port < DEVICES) × (slot < SLOTS)
  IsPortStep c (stores_word device slot word) = (device < DEVICES) × (slot < SLOTS) × lawful c.history device word
  IsPortStep c (adds_event event) =
      legal (c.history ++ event ∷ []) × AreLawful lawful (c.history ++ event ∷ []) c.words
  IsPortStep c (loads_counter caller answer) = (caller < length c.seen) × (answer ≡ length c.history)

  abbrev pub IsRun : Core → List PortStep → Type 0
  IsRun c [] = Unit {0}
  IsRun c (s ∷ ss) = IsPortStep c s × IsRun (stepped c s) ss

  -- A run leads to this history, which the caller has seen there, and to such words; and these are the caller's own steps in it
  pub record IsSeenInRun (caller : ℕ) (history : List Event) (own : List OwnStep) (are : List ℕ → Type 0) : Type 0 where
    pub passes : ℕ
    pub steps : List PortStep
    pub is_run : IsRun (empty passes) steps
    pub history_is : (led_to passes steps).history ≡ history
    pub seen : seen_by (led_to passes steps) caller ≡ history
    pub did : own_steps caller steps ≡ own
    pub words : are (led_to passes steps).words

-- the run of these steps, in a world with this number of table frames
abbrev pub IsRunOf : ℕ → ℕ → List PortStep → Type 0
IsRunOf frames passes steps = IsRun (IsLegal frames) (IsLawfulAfter frames) (empty passes) steps

-- the step is a load by the caller
abbrev pub IsLoadBy : ℕ → PortStep → Type 0
IsLoadBy caller (loads_word port slot word) = port ≡ caller
IsLoadBy caller (loads_counter other answer) = other ≡ caller
IsLoadBy caller _ = ⊥
