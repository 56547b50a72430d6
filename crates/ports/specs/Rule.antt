-- The rule of the table, and what whoever makes a step learns by it. The rule is what holds of the table between any two steps.
use Rattle.std.specs.Prelude.{◌≡◌, ℕ, suc, ◌+◌, ◌<◌, ◌≤◌, ◌⊎◌, Bool, true, false, List, [], ◌∷◌, ◌++◌, length, slice_index, slice_set}
use Rattle.std.specs.Prelude.{replicate}
use mathlib.Core.Option.{some}
use mathlib.Core.List.{IsPrefix}
use lib.ListN.{get_elem?}
use Rattle.atomic_table.specs.Table.{State, Me, Step}
use Rattle.dmatypes.specs.declared.reply.Event.{Event}
use Rattle.ports.specs.Steps.{Core, PortStep, IsRun, IsSeenInRun, AreLawful, counter, empty, desk_stores, last_stored, led_to}
use Rattle.ports.specs.Steps.{own_steps, place_of, seen_by}
use Rattle.ports.specs.declared.known.OwnStep.{OwnStep}
use Rattle.ports.specs.declared.known.OwnStep.TheVariants.{Loaded, Stored}
use Rattle.ports.specs.declared.known.Known.{Known}
use Rattle.dmatypes.specs.declared.limits.TheConstants.{DEVICES}
use Rattle.ports.specs.declared.rule.TheConstants.{ROW_WORDS, SLOTS, WORDS}
use Rattle.ports.specs.declared.known.View.{View}

-- ---- views

-- who is 0 for nobody, and p + 1 for the caller p
abbrev pub nobody : Known
nobody = record { who = 0; seen = []; did = [] }

abbrev pub newcomer : ℕ → Known
newcomer p = record { who = suc p; seen = []; did = [] }

-- a caller that learnt of a history, by a load of the counter
abbrev pub told : Known → List Event → Known
told known history = record { who = known.who; seen = history; did = known.did ++ Loaded counter (length history) ∷ [] }

-- the view of a port or a pass
abbrev pub caller_view : ℕ → Known → View
caller_view frames known = record { frames = frames; is_desk = false; made = 0; mine = known; guest = nobody; last = [] }

-- the view of a seat that a caller has left
abbrev pub left_seat : View
left_seat = caller_view 0 nobody

-- the view of the desk: the whole history, its own stores, and the word that it last stored at each place
abbrev pub desk_view : ℕ → List Event → List OwnStep → List ℕ → ℕ → Known → View
desk_view frames history did last made guest = record {
  frames = frames;
  is_desk = true;
  made = made;
  mine = record { who = 0; seen = history; did = did };
  guest = guest;
  last = last;
}

-- the desk of a new table that has made this number of callers
abbrev pub made_desk : ℕ → ℕ → View
made_desk frames made = desk_view frames [] [] (replicate ROW_WORDS 0) made nobody

-- a guest sits down at the desk, or stands up
abbrev pub with_guest : View → Known → View
with_guest v guest = desk_view v.frames v.mine.seen v.mine.did v.last v.made guest

-- the desk makes one more caller
abbrev pub one_more : View → View
one_more v = desk_view v.frames v.mine.seen v.mine.did v.last (suc v.made) v.guest

-- ---- the rule

-- What is true of the table. These are the steps that were made, where they have led to, and the word that the desk last stored at each
-- place. So are the desk's seat, how many callers were made, and where each one is: at which seat, and whether as the desk's guest
pub record Truth : Type 0 where
  pub steps : List PortStep
  pub core : Core
  pub last : List ℕ
  pub desk : ℕ
  pub made : ℕ
  pub place : ℕ → ℕ × Bool

-- what is known there is the caller's: what it has seen, and its own steps among those that were made
pub record IsNamed (t : Truth) (seat : ℕ) (as_guest : Bool) (known : Known) : Type 0 where
  pub is : (p : ℕ) → known.who ≡ suc p
      → (p < t.made) × (t.place p ≡ (seat, as_guest)) × (seen_by t.core p ≡ known.seen) × (own_steps p t.steps ≡ known.did)

-- the view of a seat: what was seen is a front of the history; the desk has seen all of it, and knows its own stores among the
-- steps that were made
pub record Fits (t : Truth) (seat : ℕ) (v : View) : Type 0 where
  pub seen : IsPrefix v.mine.seen t.core.history
  pub guest : IsPrefix v.guest.seen t.core.history
  pub whole : v.is_desk ≡ true → (seat ≡ t.desk) × (v.mine.seen ≡ t.core.history) × (v.last ≡ t.last) × (v.made ≡ t.made)
      × (v.mine.did ≡ desk_stores t.steps)
  pub mine_named : IsNamed t seat false v.mine
  pub guest_named : IsNamed t seat true v.guest

abbrev pub Table : Type 0
Table = State (Unit {0}) View

abbrev pub Sat : Type 0
Sat = Me (Unit {0}) View

module _ (legal : List Event → Type 0) (lawful : List Event → ℕ → ℕ → Type 0) where
  -- the steps that were made are a run from the empty state, lead to this core, and these words are the desk's last in it
  pub record IsReached (passes : ℕ) (t : Truth) : Type 0 where
    pub is_run : IsRun legal lawful (empty passes) t.steps
    pub leads : led_to passes t.steps ≡ t.core
    pub last : last_stored t.steps ≡ t.last

  -- The steps of ports, passes and the desk have led here, and no others. The row words are those of the run, and so is what callers
  -- have seen, what each of them did, and what the desk last stored at each place. The counter is the length of the desk's history,
  -- which is legal. Every row word is 0 or the one that the desk last stored there, and every one of these is lawful after the history
  pub record FollowsRule (passes : ℕ) (s : Table) : Type 0 where
    pub truth : Truth
    pub reached : IsReached passes truth
    pub wide : length s.words ≡ WORDS
    pub count : slice_index s.words counter ≡ length truth.core.history
    pub is_legal : legal truth.core.history
    pub core_wide : length truth.core.words ≡ ROW_WORDS
    pub words : (k : ℕ) → k < ROW_WORDS → slice_index truth.core.words k ≡ slice_index s.words k
    pub rows : (k : ℕ) → k < ROW_WORDS → (slice_index s.words k ≡ 0) ⊎ (slice_index s.words k ≡ slice_index truth.last k)
    pub each_lawful : AreLawful lawful truth.core.history truth.last
    pub callers : length truth.core.seen ≡ DEVICES + passes
    pub made : truth.made ≤ DEVICES + passes
    pub fresh : (p : ℕ) → truth.made ≤ p → (seen_by truth.core p ≡ []) × (own_steps p truth.steps ≡ [])
    pub each_seat : (j : ℕ) (v : View) → get_elem? s.views j ≡ some v → Fits truth j v

  -- ---- what steps tell

  -- a caller has made a load: it has seen a legal history that begins with what it had seen
  pub record Learns (known later : Known) (step : OwnStep) : Type 0 where
    pub more : IsPrefix known.seen later.seen
    pub is_legal : legal later.seen
    pub did : later.did ≡ known.did ++ step ∷ []
    pub who : later.who ≡ known.who

  -- a load of the counter also gives the length of that history
  abbrev pub Counted : Step (Unit {0}) → Sat → ℕ → Sat → Type 0
  Counted st m n m' =
      Learns m.0.mine m'.0.mine (Loaded st.word n) × (length m'.0.mine.seen ≡ n)
      × ((p : ℕ) → m.0.mine.who ≡ suc p → IsSeenInRun legal lawful p m'.0.mine.seen m'.0.mine.did (λ words. Unit {0}))
      × (m'.0.frames ≡ m.0.frames)

  -- a load of a word that it is lawful after that history, and stands in such a state
  abbrev pub Looked : Step (Unit {0}) → Sat → ℕ → Sat → Type 0
  Looked st m n m' =
      Learns m.0.mine m'.0.mine (Loaded st.word n)
      × ((device slot : ℕ) → device < DEVICES → slot < SLOTS → st.word ≡ place_of device slot → lawful m'.0.mine.seen device n)
      × ((p : ℕ) → m.0.mine.who ≡ suc p → IsSeenInRun legal lawful p m'.0.mine.seen m'.0.mine.did (λ words. slice_index words st.word ≡ n))
      × (m'.0.frames ≡ m.0.frames)

abbrev pub Emptied : Step (Unit {0}) → Sat → ℕ → Sat → Type 0
Emptied st m n m' =
    m'.0 ≡ caller_view m.0.frames (record { who = m.0.mine.who; seen = m.0.mine.seen; did = m.0.mine.did ++ Stored st.word n ∷ [] })

abbrev pub Filled : Step (Unit {0}) → Sat → ℕ → Sat → Type 0
Filled st m n m' =
    m'.0 ≡ desk_view m.0.frames m.0.mine.seen (m.0.mine.did ++ Stored st.word n ∷ []) (slice_set m.0.last st.word n) m.0.made m.0.guest

abbrev pub Appended : Event → Step (Unit {0}) → Sat → ℕ → Sat → Type 0
Appended event st m n m' = m'.0 ≡ desk_view m.0.frames (m.0.mine.seen ++ event ∷ []) m.0.mine.did m.0.last m.0.made m.0.guest

-- the desk loads the counter for its guest, who has then seen all that the desk has
abbrev pub Hosted : Step (Unit {0}) → Sat → ℕ → Sat → Type 0
Hosted st m n m' =
    (m'.0 ≡ with_guest m.0 (record { who = m.0.guest.who; seen = m.0.mine.seen; did = m.0.guest.did ++ Loaded st.word n ∷ [] }))
    × IsPrefix m.0.guest.seen m.0.mine.seen × (n ≡ length m.0.mine.seen)
