-- What an event of a history says by itself, by its call and its reply: no world is asked.
use Rattle.std.specs.Prelude.{◌≡◌, ◌≢◌, ◌⊎◌, ℕ, ◌+◌, ◌<◌, List, [], ◌∷◌}
use Rattle.dmatypes.specs.declared.call.Access.{Access}
use Rattle.dmatypes.specs.declared.call.Call.TheVariants as calls
use Rattle.dmatypes.specs.declared.call.Mode.{Mode}
use Rattle.dmatypes.specs.declared.call.Segment.{Segment}
use Rattle.dmatypes.specs.declared.call.Whim.{Whim}
use Rattle.dmatypes.specs.declared.width.Width.{Width}
use Rattle.dmatypes.specs.declared.reply.Event.{Event}
use Rattle.dmatypes.specs.declared.reply.Reply.TheVariants.{Made, Done, Mapped, Unmapped, Flushed, Ticket, Reaped, Host}
use Rattle.dmatypes.specs.Page.{IsWithin, byte_address, offset_of, page_of, range_at}
use Rattle.dmatypes.specs.Rights.{Permits}
use Rattle.dmatypes.specs.History.{event}

-- ---- what happens in the course of events

-- one of them does it
abbrev pub Occurs : (Event → Type 0) → List Event → Type 0
Occurs does [] = ⊥
Occurs does (e ∷ es) = does e ⊎ Occurs does es

-- one of them does it, and after that one none undoes it
abbrev pub Lasts : (Event → Type 0) → (Event → Type 0) → List Event → Type 0
Lasts does undoes [] = ⊥
Lasts does undoes (e ∷ es) = (does e × (Occurs undoes es → ⊥)) ⊎ Lasts does undoes es

-- one of them does the first, and one after it the second
abbrev pub OccurInTurn : (Event → Type 0) → (Event → Type 0) → List Event → Type 0
OccurInTurn first second [] = ⊥
OccurInTurn first second (e ∷ es) = (first e × Occurs second es) ⊎ OccurInTurn first second es

-- ---- domains and devices

abbrev pub Makes : Mode → ℕ → Event → Type 0
Makes mode domain e = (width : Width) × (e ≡ event (calls.Domain mode width) (Made domain))

abbrev pub Drops : ℕ → Event → Type 0
Drops domain e = e ≡ event (calls.Drop domain) Done

abbrev pub Attaches : ℕ → ℕ → Event → Type 0
Attaches device domain e = e ≡ event (calls.Attach device domain) Done

abbrev pub Detaches : ℕ → Event → Type 0
Detaches device e = e ≡ event (calls.Detach device) Done

-- after these events there is a domain of this id, and it is of this mode
abbrev pub IsOfMode : Mode → ℕ → List Event → Type 0
IsOfMode mode domain history = Lasts (Makes mode domain) (Drops domain) history

-- after these events the device is attached to the domain
abbrev pub IsAttached : ℕ → ℕ → List Event → Type 0
IsAttached device domain history = Lasts (Attaches device domain) (Detaches device) history

-- ---- maps

-- of the pages of these segments, one segment after the other, the page with this number, from 0, is the frame
abbrev pub HasFrame : List Segment → ℕ → ℕ → Type 0
HasFrame [] number frame = ⊥
HasFrame (s ∷ ss) number frame =
    ((number < s.pages) × (frame ≡ s.frame + number))
    ⊎ ((later : ℕ) × (number ≡ s.pages + later) × HasFrame ss later frame)

-- the event maps these segments in the domain, with these rights, from this byte address on
abbrev pub MapsAll : ℕ → List Segment → ℕ → ℕ → Event → Type 0
MapsAll domain segments rights address e =
    ((frame pages order : ℕ) × (segments ≡ record { frame = frame; pages = pages } ∷ [])
    × (e ≡ event (calls.Map domain frame pages order rights) (Mapped address)))
    ⊎ ((order : ℕ) × (list : _) × (segments ≡ list.items)
    × (e ≡ event (calls.MapList domain order rights list) (Mapped address)))

-- the event maps the page of the domain to the frame, with these rights
abbrev pub MapsTo : ℕ → ℕ → ℕ → ℕ → Event → Type 0
MapsTo domain page frame rights e =
    (segments : List Segment) × (address number : ℕ) × MapsAll domain segments rights address e
    × (page ≡ page_of address + number) × HasFrame segments number frame

-- the event maps the page of the domain
abbrev pub Maps : ℕ → ℕ → Event → Type 0
Maps domain page e = (frame rights : ℕ) × MapsTo domain page frame rights e

-- ---- unmaps

-- the event unmaps the page of the domain
abbrev pub Unmaps : ℕ → ℕ → Event → Type 0
Unmaps domain page e =
    (address pages released : ℕ) × (e ≡ event (calls.Unmap domain address pages) (Unmapped released))
    × IsWithin (range_at address pages) page

-- it unmaps the page, or ends the domain
abbrev pub EndsPage : ℕ → ℕ → Event → Type 0
EndsPage domain page e = Unmaps domain page e ⊎ Drops domain e

-- ---- releases

abbrev pub Begins : ℕ → ℕ → Event → Type 0
Begins domain number e = e ≡ event (calls.Begin domain) (Ticket domain number)

abbrev pub Reaps : ℕ → ℕ → Event → Type 0
Reaps domain number e = (released : ℕ) × (e ≡ event (calls.Reap domain number) (Reaped released))

-- all that was unmapped in the domain before the event is released by it: it is a flush that answered, an unmap that
-- answers that it released some, or the domain's end
abbrev pub ReleasesAll : ℕ → Event → Type 0
ReleasesAll domain e =
    ((released : ℕ) × (e ≡ event (calls.Flush domain) (Flushed released)))
    ⊎ ((address pages released : ℕ) × (released ≢ 0) × (e ≡ event (calls.Unmap domain address pages) (Unmapped released)))
    ⊎ Drops domain e

-- all that was unmapped in the domain before these events is released by one of them: one releases all, or one ends a
-- flush that an earlier one of them began
abbrev pub IsReleased : ℕ → List Event → Type 0
IsReleased domain events =
    Occurs (ReleasesAll domain) events ⊎ ((number : ℕ) × OccurInTurn (Begins domain number) (Reaps domain number) events)

-- ---- requests

-- the event maps the page of the byte address to the frame of the host byte address, at the same offset, with a right
-- that this access needs
abbrev pub Gives : ℕ → ℕ → Access → ℕ → Event → Type 0
Gives domain address access host e =
    (frame rights : ℕ) × MapsTo domain (page_of address) frame rights e
    × Permits rights access × (host ≡ byte_address frame (offset_of address))

-- the request of the device that reaches this host byte address
abbrev pub reaching : ℕ → ℕ → Access → Whim → ℕ → Event
reaching device address access whim host = event (calls.Dma device address access whim) (Host host)
