-- What the workers of a storm come to.
use Rattle.std.specs.Prelude.{◌≡◌, ℕ, zero, suc, ◌+◌, ◌*◌, ◌%◌, ◌≤◌, ◌⊎◌, List, [], ◌∷◌, ◌++◌, length}
use Rattle.dmatypes.specs.declared.page.TheConstants.{PAGE_BYTES}
use Rattle.dmatypes.specs.declared.reply.Event.{Event}
use Rattle.dmatypes.specs.Page.{page_of}
use Rattle.manager.specs.Kept.{Share}
use Rattle.ports.specs.declared.known.OwnStep.{OwnStep}
use Rattle.ports.specs.declared.known.OwnStep.TheVariants.{Loaded}
use Rattle.ports.specs.Seen.{Port}
use Rattle.ports.specs.Steps.{counter, place_of, slot_of}
use Rattle.storm.specs.declared.workers.Role.{Role}
use Rattle.storm.specs.declared.workers.Role.TheVariants as roles
use Rattle.storm.specs.declared.workers.TheConstants.{PAGES_READ}
use Rattle.storm.specs.declared.workers.Worker.{Worker}

-- ports that made no step, of one device after the other from this number
abbrev pub AreNewFrom : ℕ → List Port → Type 0
AreNewFrom device [] = Unit {0}
AreNewFrom device (port ∷ rest) = (port.device ≡ device) × (port.did ≡ []) × AreNewFrom (device + 1) rest

-- a device has its own port, which made no step
unfoldable pub HasNewPort : {B : Type 0} → Role B → Type 0
HasNewPort (roles.Driver domain frame) = Unit {0}
HasNewPort (roles.Device device port) = (port.device ≡ device) × (port.did ≡ [])
HasNewPort roles.Unit = Unit {0}

-- by the worker's share no call was made, and by its port no step
abbrev pub IsFresh : {B : Type 0} → Worker B → Type 0
IsFresh worker = (worker.share.calls ≡ 0) × HasNewPort worker.role

-- all these calls were made by a share; or one was refused, for the history was as long as the room
abbrev pub HasMade : ℕ → ℕ → Share → Type 0
HasMade room calls share = (share.calls ≡ calls) ⊎ (room ≤ length share.seen)

-- the byte address of a device's read of this number: pages 1 to 16 go round
abbrev pub address_read : ℕ → ℕ
address_read number = PAGE_BYTES * (1 + number % PAGES_READ)

-- the steps of a device's port at this many hits, of its reads from number 1 on: for each it loads the counter, and then the
-- word at the place of the read's page
abbrev pub AreHits : ℕ → ℕ → List OwnStep → Type 0
AreHits device zero did = did ≡ []
AreHits device (suc hits) did =
    (before : List OwnStep) × (count : ℕ) × (word : ℕ) × AreHits device hits before
    × (did ≡ before ++ Loaded counter count ∷ Loaded (place_of device (slot_of (page_of (address_read (hits + 1))))) word ∷ [])

-- a port made the hits, and loaded the counter once more
abbrev pub HasChecked : ℕ → Port → Type 0
HasChecked hits port =
    (before : List OwnStep) × (count : ℕ) × AreHits port.device hits before × (port.did ≡ before ++ Loaded counter count ∷ [])

-- so did a port that by the last load learnt what its share has seen
abbrev pub HasCheckedIn : ℕ → Share → Port → Type 0
HasCheckedIn hits share port = HasChecked hits port × (port.seen ≡ share.seen)

-- and learnt the whole history by one load more
abbrev pub HasMet : ℕ → List Event → Port → Type 0
HasMet hits history port =
    (before : List OwnStep) × (count : ℕ) × AreHits port.device hits before
    × (port.did ≡ (before ++ Loaded counter count ∷ []) ++ Loaded counter (length history) ∷ []) × (port.seen ≡ history)
