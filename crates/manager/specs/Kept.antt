-- What a book keeps, and what contracts see of managers, seeds and shares. An owner's room is how many calls are kept at one time, and its
-- most how many there may be in all.
use Rattle.std.specs.Prelude.{◌≡◌, ◌+◌, ◌≤◌, ◌++◌, ◌∷◌, [], ℕ, All, Bool, List, drop, length, min}
use mathlib.Core.List.{IsPrefix}
use Rattle.dmatypes.specs.declared.call.Call.{Call}
use Rattle.dmatypes.specs.declared.reply.Event.{Event}
use Rattle.dmatypes.specs.declared.reply.Reply.{Reply}
use Rattle.dmatypes.specs.History.{after, event, IsLegal}
use Rattle.engine.specs.State.{State}
use Rattle.engine.specs.Quarantine.{Quarantine}
use Rattle.engine.specs.Steps.{GoesTo}
use Rattle.dmatypes.specs.declared.limits.TheConstants.{LEAST_TABLE_FRAMES, MOST_CALLS, MOST_SHARES, MOST_TABLE_FRAMES}
use Rattle.engine.specs.Whole.{IsWhole}
use Rattle.ports.specs.Lawful.{IsLawfulAfter}
use Rattle.ports.specs.Seen.{Rows}
use Rattle.ports.specs.Steps.{AreLawful}

-- what contracts see of a book: its history, its state, the word that its desk last stored at each place of the rows, and how many
-- of the first events were handed on. It keeps those after them
pub record Book : Type 0 where
  pub history : List Event
  pub state : State
  pub last : List ℕ
  pub handed : ℕ

abbrev pub kept_events : Book → List Event
kept_events a = drop a.handed a.history

-- where its history has no room left, of which this number is kept at one time, and this is the most in all
abbrev pub end_of : ℕ → ℕ → Book → ℕ
end_of room most a = min (a.handed + room) most

-- what contracts see of a share: how many calls it counted, and the history that it has seen
pub record Share : Type 0 where
  pub calls : ℕ
  pub seen : List Event

-- a share by which no call was made, and that has seen nothing
abbrev pub new_share : Share
new_share = record { calls = 0; seen = [] }

-- what a configuration says: three numbers, whether the unit has Caching Mode, and how many calls there may be in all, of which
-- `calls` are kept at one time
pub record Config : Type 0 where
  pub frames : ℕ
  pub calls : ℕ
  pub shares : ℕ
  pub caching : Bool
  pub most : ℕ

pub record IsWithinLimits (frames calls shares : ℕ) : Type 0 where
  pub least_frames : LEAST_TABLE_FRAMES ≤ frames
  pub most_frames : frames ≤ MOST_TABLE_FRAMES
  pub least_calls : 1 ≤ calls
  pub most_calls : calls ≤ MOST_CALLS
  pub least_shares : 1 ≤ shares
  pub most_shares : shares ≤ MOST_SHARES

-- one manager's numbers, whether its unit has Caching Mode, the names of its two ledgers, of its calls and of what it hands on, and
-- its rows
pub record Seed : Type 0 where
  pub name : ℕ
  pub shares : ℕ
  pub room : ℕ
  pub frames : ℕ
  pub caching : Bool
  pub rows : Rows
  pub most : ℕ
  pub handing : ℕ

-- the rows of no table
abbrev pub no_rows : Rows
no_rows = record {
  table = record { words = 0; slots = 0; views_name = 0; atom = 0; block = 0; offset = 0; slot_names = [] };
  frames = 0;
}

-- an owner with these ledgers, these numbers, this mode and these rows names the manager that the seed becomes: one part of the
-- ledger of calls for each share
pub record IsNamedBy (seed : Seed) (name parts shares room frames : ℕ) (mode : Bool) (rows : Rows) (most handing : ℕ) : Type 0 where
  pub name_is : seed.name ≡ name
  pub parts_are : seed.shares ≡ parts
  pub shares_are : seed.shares ≡ shares
  pub room_is : seed.room ≡ room
  pub frames_are : seed.frames ≡ frames
  pub mode_is : seed.caching ≡ mode
  pub rows_are : seed.rows ≡ rows
  pub most_is : seed.most ≡ most
  pub handing_is : seed.handing ≡ handing

-- the history is legal. The state is one of the world after it, with all places for domains and devices and nothing that waits in the
-- ring but descriptors of tickets, and has counted its calls. The history follows states from a new one of this mode (whether the unit
-- has Caching Mode) to this one. No more of it is kept than there is room for, and nothing was handed on where there is room for all.
-- Every word that was last stored in the rows is lawful after the history
pub record IsKept (frames room : ℕ) (mode : Bool) (most : ℕ) (a : Book) : Type 0 where
  pub legal : IsLegal frames a.history
  pub quarantine : Quarantine a.state (after frames a.history)
  pub whole : IsWhole frames a.state
  pub goes : GoesTo frames mode a.history a.state
  pub begun : a.handed ≤ length a.history
  pub within : length a.history ≤ end_of room most a
  pub all_kept : most ≡ room → a.handed ≡ 0
  pub room_within : room ≤ most
  pub calls : a.state.calls ≡ length a.history
  pub lawful : AreLawful (IsLawfulAfter frames) a.history a.last

-- a history that ends with this call and its reply
abbrev pub EndsWith : List Event → Call → Reply → Type 0
EndsWith history call reply = (before : List Event) × (history ≡ before ++ event call reply ∷ [])

-- each of the shares had seen a beginning of the history
abbrev pub AllSaw : List Event → List Share → Type 0
AllSaw history shares = All (λ (s : Share). IsPrefix s.seen history) shares

-- ---- what is kept, and what is handed on

-- the events that are kept, and for how many there is room
pub record Kept : Type 0 where
  pub events : List Event
  pub room : ℕ

-- events that were handed on, and how many stand before them in the history
pub record Epoch : Type 0 where
  pub first : ℕ
  pub events : List Event

-- how many events of the history there are up to their end
abbrev pub upto : Epoch → ℕ
upto e = e.first + length e.events

-- nothing was handed on
abbrev pub new_epoch : Epoch
new_epoch = record { first = 0; events = [] }

-- they are the end of this history
abbrev pub IsEndOf : Epoch → List Event → Type 0
IsEndOf e history = (e.first ≤ length history) × (e.events ≡ drop e.first history)

abbrev pub events_of : Epoch → List Event
events_of e = e.events

-- epochs that follow one another from this number on to the end of the history: each is the end of a history that this one begins with
abbrev pub AreFrom : ℕ → List Event → List Epoch → Type 0
AreFrom first history [] = first ≡ length history
AreFrom first history (e ∷ rest) =
    (e.first ≡ first) × ((seen : List Event) × IsPrefix seen history × IsEndOf e seen)
    × AreFrom (first + length e.events) history rest
