-- An event that enters, lent to be written.
use Rattle.std.specs.Prelude.{◌++◌, ◌∷◌, []}
use Rattle.std.specs.Borrow.{Lends, MutBor, Fml}
use Rattle.dmatypes.specs.declared.reply.Event.{Event}
use Rattle.dmatypes.specs.contracts.reply.Event as events
use Rattle.manager.specs.contracts.kept.Kept as kept
use Rattle.manager.specs.Kept.{Kept}

-- one event more is kept, in the same room
abbrev pub with_last : Kept → Event → Kept
with_last k e = record { events = k.events ++ e ∷ []; room = k.room }

-- the last value behind the result is the last event in the end
abbrev pub LendsLast : MutBor Kept → MutBor Event → Fml
LendsLast s r = Lends kept.the_row events.the_row s r (with_last s.now)
