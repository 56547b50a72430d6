-- What a port may still answer by pages that were unmapped. The number of an event is how many came before it in the history, and one.
use Rattle.std.specs.Prelude.{◌≡◌, ◌⊎◌, ℕ, suc, ◌≤◌, List, ◌∷◌, ◌++◌, length, Option, Some}
use mathlib.Core.List.{IsPrefix}
use Rattle.dmatypes.specs.declared.call.Access.{Access}
use Rattle.dmatypes.specs.declared.call.Mode.TheVariants.{Lazy, Strict}
use Rattle.dmatypes.specs.declared.reply.Event.{Event}
use Rattle.dmatypes.specs.Page.{page_of}
use Rattle.laws.specs.Events.{Gives, IsAttached, IsOfMode, IsReleased, Occurs, Unmaps}
use Rattle.ports.specs.Hits.{IsCount, IsHit}
use Rattle.ports.specs.Seen.{Port}

-- the port has seen the event of that number
abbrev pub HasSeen : Port → ℕ → Type 0
HasSeen port number = number ≤ length port.seen

-- where a port was answered a count, it has seen all events up to it, then and at each later moment
abbrev pub CountsAreSeen : Type 0
CountsAreSeen =
    (frames count number : ℕ) (port resting later : Port)
    → IsCount frames port resting count
    → number ≤ count
    → IsPrefix resting.seen later.seen
    → HasSeen later number

-- after a hit it has seen all that it had seen before, and all events up to the count of the hit
abbrev pub HitsAreSeen : Type 0
HitsAreSeen =
    (frames address count number : ℕ) (access : Access) (host : Option ℕ) (port port' : Port)
    → IsHit frames port port' address access host count
    → HasSeen port number ⊎ (number ≤ count)
    → HasSeen port' number

-- Say that what a port has seen is the beginning of a history, in which the pages were unmapped by a strict unmap, and that the port has
-- seen that event. Where a hit by one of these pages is answered a host address, a map after the unmap gives it, and the port has seen that
abbrev pub StrictUnmapsEndHits : Type 0
StrictUnmapsEndHits =
    (frames address host count domain : ℕ) (access : Access) (port port' : Port) (history before rest : List Event) (unmap : Event)
    → IsHit frames port port' address access (Some host) count
    → IsPrefix port'.seen history
    → history ≡ before ++ unmap ∷ rest
    → HasSeen port' (suc (length before))
    → IsOfMode Strict domain before
    → Unmaps domain (page_of address) unmap
    → IsAttached port.device domain port'.seen
    → (between : List Event)
    × ((port'.seen ≡ before ++ unmap ∷ between) × Occurs (Gives domain address access host) between)

-- The same of a lazy domain, where the pages were released by the last of some events after the unmap, and the port has seen that event
abbrev pub ReleasesEndHits : Type 0
ReleasesEndHits =
    (frames address host count domain : ℕ) (access : Access) (port port' : Port) (history before until rest : List Event) (unmap : Event)
    → IsHit frames port port' address access (Some host) count
    → IsPrefix port'.seen history
    → history ≡ (before ++ unmap ∷ until) ++ rest
    → HasSeen port' (length (before ++ unmap ∷ until))
    → IsOfMode Lazy domain before
    → Unmaps domain (page_of address) unmap
    → IsReleased domain until
    → IsAttached port.device domain port'.seen
    → (more : List Event)
    × ((port'.seen ≡ (before ++ unmap ∷ until) ++ more) × Occurs (Gives domain address access host) (until ++ more))
