-- What a request reaches: a page that is live or in a record of the domain its device is attached to, with the right.
use Rattle.std.proofs.Common.{◌≡◌, ◌⊎◌, ℕ, inl, inr, List, ◌∷◌, ◌++◌, Option, Some, None, refl, ap}
use Rattle.dmatypes.specs.declared.call.Access.{Access}
use Rattle.dmatypes.specs.declared.call.Call.TheVariants as calls
use Rattle.dmatypes.specs.declared.call.Whim.{Whim}
use Rattle.dmatypes.specs.declared.reply.Event.{Event}
use Rattle.dmatypes.specs.declared.reply.Reply.{Reply}
use Rattle.dmatypes.specs.declared.reply.Reply.TheVariants.{Host}
use Rattle.dmatypes.specs.Page.{byte_address, offset_of, page_of}
use Rattle.dmatypes.specs.Rights.{Permits}
use Rattle.dmatypes.specs.World.{Target, Domain, World, IsLive, IsRetired, empty}
use Rattle.dmatypes.specs.Allows.{Allows, AllowsIn, AllowsTo, AllowsWithin, domain_of_device}
use Rattle.dmatypes.specs.Step.{Answers, IsStep}
use Rattle.dmatypes.specs.History.{after, IsLegal}
use Rattle.laws.specs.Events.{Gives, reaching}
use Rattle.laws.proofs.lists.Options.{followed}
use Rattle.laws.proofs.worlds.Kept.{WasPut}
use Rattle.laws.proofs.worlds.Runs.{legal_rest}

-- in a domain
pub record IsReachedIn (v : Domain) (address : ℕ) (access : Access) (host : ℕ) : Type 0 where
  pub target : Target
  pub held : IsLive v (page_of address) target ⊎ IsRetired v (page_of address) target
  pub may : Permits target.rights access
  pub is : host ≡ byte_address target.frame (offset_of address)

-- by a device
pub record IsReached (w : World) (device address : ℕ) (access : Access) (host : ℕ) : Type 0 where
  pub id : ℕ
  pub domain : Domain
  pub attached : w.devices device ≡ Some id
  pub there : w.domains id ≡ Some domain
  pub by : IsReachedIn domain address access host

host_in : Reply → ℕ
host_in (Host host) = host
host_in reply = 0

reached_within : (v : Domain) (address : ℕ) (access : Access) (host : ℕ) → AllowsWithin v address access (Host host)
    → IsReachedIn v address access host
unfolding host_in
reached_within v address access host (inl live) =
    record { target = live.0; held = inl live.1.0; may = live.1.1; is = ap host_in live.2 }
reached_within v address access host (inr (_, inl retired)) =
    record { target = retired.0; held = inr retired.1.0; may = retired.1.1; is = ap host_in retired.2 }
reached_within v address access host (inr (_, inr fault)) = absurd cc

reached_in : (v : Domain) (address : ℕ) (access : Access) (host : ℕ) → AllowsIn v address access (Host host)
    → IsReachedIn v address access host
reached_in v address access host (inl beyond) = absurd (let no_host = beyond.1 in cc)
reached_in v address access host (inr within) = reached_within v address access host within.1

reached_to : (w : World) (device address : ℕ) (access : Access) (host : ℕ) (o : Option Domain) → domain_of_device w device ≡ o
    → AllowsTo o address access (Host host) → IsReached w device address access host
reached_to w device address access host None at allows = absurd cc
reached_to w device address access host (Some v) at allows =
    let x = followed w.domains (w.devices device) v at in
    record { id = x.0; domain = v; attached = x.1; there = x.2; by = reached_in v address access host allows }

-- of whatever answer is allowed
pub reached_allowed : (w : World) (device address : ℕ) (access : Access) (host : ℕ) → Allows w device address access (Host host)
    → IsReached w device address access host
unfolding Allows
reached_allowed w device address access host allows = reached_to w device address access host (domain_of_device w device) refl allows

pub reached : (w : World) (device address : ℕ) (access : Access) (whim : Whim) (host : ℕ)
    → IsStep w (calls.Dma device address access whim) (Host host) → IsReached w device address access host
unfolding IsStep Answers
reached w device address access whim host step = reached_allowed w device address access host step.1

pub reached_after : (frames : ℕ) (before rest : List Event) (device address : ℕ) (access : Access) (whim : Whim) (host : ℕ)
    → IsLegal frames (before ++ reaching device address access whim host ∷ rest)
    → IsReached (after frames before) device address access host
reached_after frames before rest device address access whim host legal =
    reached (after frames before) device address access whim host
    (legal_rest (empty frames) before (reaching device address access whim host ∷ rest) legal).0

-- the map that put the target there gives what is reached
pub gives : (d address : ℕ) (access : Access) (host : ℕ) (v : Domain) (by : IsReachedIn v address access host) (e : Event)
    → WasPut d (page_of address) by.target e → Gives d address access host e
gives d address access host v by e put = (by.target.frame, by.target.rights, put, by.may, by.is)
