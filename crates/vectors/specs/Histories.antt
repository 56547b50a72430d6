-- The history of the tests of hits: a strict domain, device 3 attached to it, 17 pages mapped at page 1 to frame 0x100, read
-- only, and two requests of the device.
use Rattle.std.specs.Prelude.{ℕ, List, [], ◌∷◌, ◌++◌, true}
use Rattle.dmatypes.specs.declared.call.Access.TheVariants.{Read}
use Rattle.dmatypes.specs.declared.call.Call.TheVariants as calls
use Rattle.dmatypes.specs.declared.call.Mode.TheVariants.{Strict}
use Rattle.dmatypes.specs.declared.width.Width.TheVariants.{W39}
use Rattle.dmatypes.specs.declared.reply.Event.{Event}
use Rattle.dmatypes.specs.declared.reply.Reply.TheVariants.{Made, Done, Mapped, Host}
use Rattle.dmatypes.specs.History.{event}

unfoldable pub mapped_history : List Event
mapped_history =
    event (calls.Domain Strict W39) (Made 1) ∷ event (calls.Attach 3 1) Done ∷ event (calls.Map 1 0x100 17 0 1) (Mapped 0x1000) ∷ []

abbrev pub request : ℕ → ℕ → Event
request address host = event (calls.Dma 3 address Read (record { look = true; fill = true })) (Host host)

unfoldable pub whole_history : List Event
whole_history = mapped_history ++ request 0x1000 0x100000 ∷ request 0x11000 0x110000 ∷ []
