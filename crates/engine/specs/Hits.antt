-- What an answer says of a world besides its reply, and what is asked of the domains of devices.
use Rattle.std.specs.Prelude.{◌≡◌, ◌<◌, ◌⊎◌, ℕ, Option, None, Some, IsSomeAnd}
use Rattle.dmatypes.specs.Allows.{domain_of_device, host_of}
use Rattle.dmatypes.specs.Page.{page_of}
use Rattle.dmatypes.specs.Rights.{Permits, bits_of}
use Rattle.dmatypes.specs.World.{World, IsLive, IsRetired}
use Rattle.dmatypes.specs.World as world
use Rattle.dmatypes.specs.declared.call.Access.{Access}
use Rattle.dmatypes.specs.declared.call.Call.{Call}
use Rattle.dmatypes.specs.declared.call.Call.TheVariants as calls
use Rattle.dmatypes.specs.declared.call.Mode.{Mode}
use Rattle.dmatypes.specs.declared.call.Whim.{Whim}
use Rattle.dmatypes.specs.declared.limits.TheConstants.{DEVICES}
use Rattle.dmatypes.specs.declared.reply.Reply.{Reply}
use Rattle.dmatypes.specs.declared.width.Width.{Width}
use Rattle.dmatypes.specs.declared.reply.Reply.TheVariants.{Host, Unmapped}
use Rattle.unit.specs.declared.hit.Hit.{Hit}
use Rattle.vtdbits.specs.Translation.{target}
use Rattle.engine.specs.declared.answer.Detail.{Detail}
use Rattle.engine.specs.declared.answer.Detail.TheVariants as details
use Rattle.engine.specs.declared.answer.Unmapped as answer
use Rattle.engine.specs.Details.{mode_by, released_by}
use Rattle.engine.specs.Domains.{Domain}
use Rattle.engine.specs.State.{State}
use Rattle.engine.specs.Quarantine.{Quarantine}

-- the page of the address is live or in a record of the domain, with the frame and the rights of the hit, which has the
-- right; the host address is in that frame
pub record Has (v : world.Domain) (address : ℕ) (access : Access) (hit : Hit) : Type 0 where
  pub page : IsLive v (page_of address) (target hit.frame (bits_of hit.rights))
      ⊎ IsRetired v (page_of address) (target hit.frame (bits_of hit.rights))
  pub right : Permits (bits_of hit.rights) access
  pub host : hit.host ≡ host_of (target hit.frame (bits_of hit.rights)) address

-- the device, 0 to 15, is attached to a domain that has the page so, in every world that the state is one of
pub record IsHitOf (m : State) (device address : ℕ) (access : Access) (hit : Hit) : Type 0 where
  pub low : device < DEVICES
  pub had : (w : World) → Quarantine m w → IsSomeAnd (domain_of_device w device) (λ v. Has v address access hit)

-- of a call and its reply in a world: there is a hit exactly where a request was answered a host address, which is the hit's
unfoldable pub IsHitIn : World → Call → Reply → Option Hit → Type 0
IsHitIn w (calls.Dma device address access whim) (Host a) (Some hit) =
    (hit.host ≡ a) × (device < DEVICES) × IsSomeAnd (domain_of_device w device) (λ v. Has v address access hit)
IsHitIn w (calls.Dma device address access whim) (Host a) None = ⊥
IsHitIn w (calls.Dma device address access whim) reply hit = hit ≡ None
IsHitIn w call reply hit = hit ≡ None

-- what became of pages is told exactly where an unmap was done: it has the reply's number, and is by the domain's mode
unfoldable pub IsDetailIn : World → Call → Reply → Detail → Type 0
IsDetailIn w (calls.Unmap domain address pages) (Unmapped n) (details.Unmapped unmapped) =
    (n ≡ released_by unmapped) × IsSomeAnd (w.domains domain) (λ v. v.mode ≡ mode_by unmapped)
IsDetailIn w (calls.Unmap domain address pages) (Unmapped n) detail = ⊥
IsDetailIn w call reply detail = (unmapped : answer.Unmapped) → detail ≡ details.Unmapped unmapped → ⊥

-- the call is no request
abbrev pub IsNoRequest : Call → Type 0
IsNoRequest call = (device address : ℕ) (access : Access) (whim : Whim) → call ≡ calls.Dma device address access whim → ⊥

-- the call is no unmap
abbrev pub IsNoUnmap : Call → Type 0
IsNoUnmap call = (domain address pages : ℕ) → call ≡ calls.Unmap domain address pages → ⊥

abbrev pub mode_of : Option Domain → Option Mode
mode_of None = None
mode_of (Some domain) = Some domain.mode

abbrev pub width_of : Option Domain → Option Width
width_of None = None
width_of (Some domain) = Some domain.width
