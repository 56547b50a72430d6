-- What the calls of a port do: relations between the port before a call and after it, and the answer. That a list is a front of another is
-- mathlib's `IsPrefix`.
use Rattle.std.specs.Prelude.{◌≡◌, ℕ, List, [], ◌∷◌, ◌++◌, length, slice_index, Option, IfSome, IfNone}
use mathlib.Core.List.{IsPrefix}
use Rattle.dmatypes.specs.declared.call.Access.{Access}
use Rattle.dmatypes.specs.declared.reply.Event.{Event}
use Rattle.dmatypes.specs.declared.reply.Reply.TheVariants.{Host}
use Rattle.dmatypes.specs.Allows.{Allows}
use Rattle.dmatypes.specs.History.{IsLegal, after}
use Rattle.dmatypes.specs.Page.{page_of}
use Rattle.vtdbits.specs.Port.{States}
use Rattle.ports.specs.Lawful.{IsLawfulAfter}
use Rattle.ports.specs.Seen.{Port}
use Rattle.ports.specs.Steps.{IsSeenInRun, counter, place_of, slot_of}
use Rattle.ports.specs.declared.known.OwnStep.TheVariants.{Loaded, Stored}

-- the place that answers for an address: the slot of its page in the port's row
abbrev pub place_for : Port → ℕ → ℕ
place_for port address = place_of port.device (slot_of (page_of address))

-- a run has led to where the port has seen this history, by these own steps
abbrev pub IsPortInRun : ℕ → Port → (List ℕ → Type 0) → Type 0
IsPortInRun frames port are = IsSeenInRun (IsLegal frames) (IsLawfulAfter frames) port.device port.seen port.did are

-- In a world with `frames` table frames, a port answers a request at an address by a host address or none, and hands back a count
pub record IsHit (frames : ℕ) (port port' : Port) (address : ℕ) (access : Access) (host : Option ℕ) (count : ℕ) : Type 0 where
  -- it loads the counter, whose value is the count, and then the word at the place for the address
  pub word : ℕ
  pub did : port'.did ≡ port.did ++ Loaded counter count ∷ Loaded (place_for port address) word ∷ []
  -- the answer is the host address that this word states, and none exactly where it states none
  pub some : IfSome host (States word address access)
  pub none : IfNone host ((stated : ℕ) → States word address access stated → ⊥)
  -- the word stands there where a run of steps has led, in which the port did this and has seen what it now has
  pub run : IsPortInRun frames port' (λ words. slice_index words (place_for port address) ≡ word)
  -- the count is the length of a legal history, which begins with all that the port had seen and is a front of what it has seen
  pub counted : List Event
  pub counted_legal : IsLegal frames counted
  pub count_is : count ≡ length counted
  pub begins : IsPrefix port.seen counted
  pub front : IsPrefix counted port'.seen
  -- what it has seen is legal, and after it the device may be answered so
  pub legal : IsLegal frames port'.seen
  pub allowed : IfSome host (λ answered. Allows (after frames port'.seen) port.device address access (Host answered))

-- A port loads the counter. Its value is the length of a legal history, to which a run of steps has led. That begins with all that the
-- port had seen, and is what it has then seen
pub record IsCount (frames : ℕ) (port port' : Port) (count : ℕ) : Type 0 where
  pub did : port'.did ≡ port.did ++ Loaded counter count ∷ []
  pub begins : IsPrefix port.seen port'.seen
  pub legal : IsLegal frames port'.seen
  pub count_is : count ≡ length port'.seen
  pub run : IsPortInRun frames port' (λ words. Unit {0})

-- A port stores 0 in a slot of its row, and learns nothing by it
pub record IsEviction (port port' : Port) (slot : ℕ) : Type 0 where
  pub did : port'.did ≡ port.did ++ Stored (place_of port.device slot) 0 ∷ []
  pub seen : port'.seen ≡ port.seen
