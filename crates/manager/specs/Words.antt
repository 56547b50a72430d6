-- What a call makes of the words in the devices' rows: of those that the desk stored there last.
use Rattle.std.specs.Int.{bit_at}
use Rattle.std.specs.Prelude.{◌≡◌, ◌<◌, ℕ, ◌⊎◌, Bool, true, false, List, IsSomeAnd, slice_index, slice_set}
use Rattle.dmatypes.specs.Allows.{domain_of_device}
use Rattle.dmatypes.specs.Page.{page_of}
use Rattle.dmatypes.specs.Step.{next}
use Rattle.dmatypes.specs.World.{World, IsLive, IsRetired}
use Rattle.dmatypes.specs.declared.call.Call.{Call}
use Rattle.dmatypes.specs.declared.call.Call.TheVariants as calls
use Rattle.dmatypes.specs.declared.reply.Reply.{Reply}
use Rattle.dmatypes.specs.declared.reply.Reply.TheVariants.{Host}
use Rattle.ports.specs.Cleared.{IsCleared}
use Rattle.ports.specs.Steps.{place_of, slot_of}
use Rattle.vtdbits.specs.Port.{Spells}
use Rattle.vtdbits.specs.declared.port.PortWord.{PortWord}

-- the words of the rows that are cleared at a call are 0, and all others stay
abbrev pub AreCleared : World → Call → Reply → List ℕ → List ℕ → Type 0
AreCleared w call reply last last' =
    (device slot : ℕ) → device < 16 → slot < 16
    → (IsCleared w call reply device → slice_index last' (place_of device slot) ≡ 0)
    × ((IsCleared w call reply device → ⊥)
    → slice_index last' (place_of device slot) ≡ slice_index last (place_of device slot))

-- each device of these bits is one whose row is cleared, and each other such row is empty
abbrev pub TellRows : List ℕ → World → Call → Reply → ℕ → Type 0
TellRows last w call reply bits =
    (device : ℕ) → device < 16
    → (bit_at bits device ≡ 1 → IsCleared w call reply device)
    × (IsCleared w call reply device
    → (bit_at bits device ≡ 1) ⊎ ((slot : ℕ) → slot < 16 → slice_index last (place_of device slot) ≡ 0))

-- the device's domain has the page live or retired, with the frame and the rights that the word spells
abbrev pub IsHad : World → ℕ → PortWord → Type 0
IsHad w device p =
    IsSomeAnd (domain_of_device w device) (λ v. IsLive v p.page p.translation ⊎ IsRetired v p.page p.translation)

-- the word at the slot of the address's page spells that page as the device's domain has it, and all others stay
pub record IsFilled (w : World) (device address : ℕ) (last last' : List ℕ) : Type 0 where
  pub word : PortWord
  pub page : word.page ≡ page_of address
  pub had : IsHad w device word
  pub spelled : Spells (slice_index last' (place_of device (slot_of (page_of address)))) word
  pub others : last' ≡ slice_set last (place_of device (slot_of (page_of address)))
      (slice_index last' (place_of device (slot_of (page_of address))))

abbrev pub IsFilledIf : Bool → World → ℕ → ℕ → List ℕ → List ℕ → Type 0
IsFilledIf true w device address last last' = IsFilled w device address last last'
IsFilledIf false w device address last last' = last' ≡ last

-- a request with fill that is answered a host address fills a word of its device; no other call does
unfoldable pub AreFilled : World → Call → Reply → List ℕ → List ℕ → Type 0
AreFilled w (calls.Dma device address access whim) (Host host) last last' = IsFilledIf whim.fill w device address last last'
AreFilled w call reply last last' = last' ≡ last

-- rows are cleared by the world at the call, and then a word is filled by the world after it
pub record IsLastAfter (w : World) (call : Call) (reply : Reply) (last last' : List ℕ) : Type 0 where
  pub between : List ℕ
  pub cleared : AreCleared w call reply last between
  pub filled : AreFilled (next w call reply) call reply between last'
