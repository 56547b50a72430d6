-- Which words a device may be answered by, after a history.
use Rattle.std.specs.Prelude.{◌≡◌, ◌⊎◌, ℕ, List, IsSomeAnd}
use Rattle.dmatypes.specs.declared.call.Access.{Access}
use Rattle.dmatypes.specs.declared.reply.Event.{Event}
use Rattle.dmatypes.specs.Rights.{Permits}
use Rattle.dmatypes.specs.World.{Target, Domain, World, IsLive, IsRetired}
use Rattle.dmatypes.specs.Allows.{domain_of_device}
use Rattle.dmatypes.specs.History.{after}
use Rattle.vtdbits.specs.Port.{Spells}
use Rattle.vtdbits.specs.declared.port.PortWord.{PortWord}

-- at least these rights: what they permit is permitted
abbrev pub AreAtLeast : ℕ → ℕ → Type 0
AreAtLeast rights least = (access : Access) → Permits least access → Permits rights access

-- the domain has the page live or retired, with the frame and at least the rights that are stated
abbrev pub Backs : Domain → PortWord → Type 0
Backs v p =
    (t : Target) × (IsLive v p.page t ⊎ IsRetired v p.page t)
    × (t.frame ≡ p.translation.frame) × AreAtLeast t.rights p.translation.rights

-- the device's domain does
abbrev pub IsBacked : World → ℕ → PortWord → Type 0
IsBacked w device p = IsSomeAnd (domain_of_device w device) (λ v. Backs v p)

-- a word of the device's row is lawful: it is empty, or spells a page with frame and rights that the device's domain backs
unfoldable pub IsLawful : World → ℕ → ℕ → Type 0
IsLawful w device word = (word ≡ 0) ⊎ ((p : PortWord) × Spells word p × IsBacked w device p)

-- the same after a history
abbrev pub IsLawfulAfter : ℕ → List Event → ℕ → ℕ → Type 0
IsLawfulAfter frames history device word = IsLawful (after frames history) device word
