-- What a user can say of every legal history, in terms of its events alone.
use Rattle.std.specs.Prelude.{ℕ, List, ◌∷◌, ◌++◌}
use Rattle.dmatypes.specs.declared.call.Access.{Access}
use Rattle.dmatypes.specs.declared.call.Mode.TheVariants as modes
use Rattle.dmatypes.specs.declared.call.Whim.{Whim}
use Rattle.dmatypes.specs.declared.reply.Event.{Event}
use Rattle.dmatypes.specs.Page.{page_of}
use Rattle.dmatypes.specs.History.{IsLegal}
use Rattle.laws.specs.Events.{Drops, Gives, IsAttached, IsOfMode, IsReleased, Lasts, Maps, Occurs, EndsPage, Unmaps, reaching}

-- A device reaches only frames that a map put into the domain that it is attached to, with a right that the map gave. Of each request
-- that was answered a host address, the device was attached to a domain, and a map of this domain gives that address. The domain wasn't
-- ended since the map; and in a strict domain the page wasn't unmapped since.
abbrev pub DevicesReachOnlyWhatIsMapped : Type 0
DevicesReachOnlyWhatIsMapped =
    (frames : ℕ) (before rest : List Event) (device address : ℕ) (access : Access) (whim : Whim) (host : ℕ)
    → IsLegal frames (before ++ reaching device address access whim host ∷ rest)
    → (domain : ℕ) × IsAttached device domain before
    × Lasts (Gives domain address access host) (Drops domain) before
    × (IsOfMode modes.Strict domain before
    → Lasts (Gives domain address access host) (EndsPage domain (page_of address)) before)

-- After a strict unmap answered, no request of any device reaches those frames by those pages until a map puts them there again. Where
-- one is answered a host address, a map after the unmap gives that address.
abbrev pub StrictUnmapsEndReach : Type 0
StrictUnmapsEndReach =
    (frames : ℕ) (before between rest : List Event) (unmap : Event) (domain device address : ℕ) (access : Access) (whim : Whim)
    (host : ℕ)
    → IsLegal frames ((before ++ unmap ∷ between) ++ reaching device address access whim host ∷ rest)
    → IsOfMode modes.Strict domain before
    → Unmaps domain (page_of address) unmap
    → IsAttached device domain (before ++ unmap ∷ between)
    → Occurs (Gives domain address access host) between

-- In a lazy domain the same from the flush on: once what was unmapped is released.
abbrev pub FlushesEndReach : Type 0
FlushesEndReach =
    (frames : ℕ) (before between rest : List Event) (unmap : Event) (domain device address : ℕ) (access : Access) (whim : Whim)
    (host : ℕ)
    → IsLegal frames ((before ++ unmap ∷ between) ++ reaching device address access whim host ∷ rest)
    → IsOfMode modes.Lazy domain before
    → Unmaps domain (page_of address) unmap
    → IsReleased domain between
    → IsAttached device domain (before ++ unmap ∷ between)
    → Occurs (Gives domain address access host) between

-- Two live maps of a domain never share a page: of two maps of one page the first isn't live when the second answers, for
-- between them the page was unmapped or the domain ended.
abbrev pub LiveMapsShareNoPage : Type 0
LiveMapsShareNoPage =
    (frames : ℕ) (before between rest : List Event) (one other : Event) (domain page : ℕ)
    → IsLegal frames ((before ++ one ∷ between) ++ other ∷ rest)
    → Maps domain page one
    → Maps domain page other
    → Occurs (EndsPage domain page) between

-- No page is handed out between its unmap and its release: between the unmap of a page of a lazy domain and a map of it,
-- what was unmapped is released. In a strict domain the unmap itself releases.
abbrev pub NoPageIsHandedOutUnreleased : Type 0
NoPageIsHandedOutUnreleased =
    (frames : ℕ) (before between rest : List Event) (unmap map : Event) (domain page : ℕ)
    → IsLegal frames ((before ++ unmap ∷ between) ++ map ∷ rest)
    → IsOfMode modes.Lazy domain before
    → Unmaps domain page unmap
    → Maps domain page map
    → IsReleased domain between
