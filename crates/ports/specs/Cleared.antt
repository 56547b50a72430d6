-- Which rows are cleared at a call. A step leaves each lawful word lawful, but in these rows: that is the contract of `keeps`
-- (src/laws.rt). An unmap that finds 256 records in a lazy domain empties its list.
use Rattle.std.specs.Prelude.{◌≡◌, ℕ, Some, IsSomeAnd}
use Rattle.dmatypes.specs.declared.call.Call.{Call}
use Rattle.dmatypes.specs.declared.call.Call.TheVariants as calls
use Rattle.dmatypes.specs.declared.call.Mode.{Mode}
use Rattle.dmatypes.specs.declared.call.Mode.TheVariants as modes
use Rattle.dmatypes.specs.declared.reply.Reply.{Reply}
use Rattle.dmatypes.specs.declared.reply.Reply.TheVariants.{Done, Unmapped, Flushed, Reaped}
use Rattle.dmatypes.specs.World.{World}
use Rattle.dmatypes.specs.declared.limits.TheConstants.{MOST_RECORDS}

abbrev pub IsAttachedTo : World → ℕ → ℕ → Type 0
IsAttachedTo w device domain = w.devices device ≡ Some domain

-- what an unmap takes away for good: in a strict domain its own pages, in a lazy one those of all records where
-- it empties the list, and else nothing
abbrev pub TakesAway : Mode → ℕ → Type 0
TakesAway modes.Strict released = Unit {0}
TakesAway modes.Lazy released = released ≡ MOST_RECORDS

-- at this call and this reply the row of the device is cleared. At a detach it is the device's. At an unmap that takes pages away, at a
-- flush, and at a reap that isn't pending those of all devices attached to the domain are. Else none is, nor at a refused call
unfoldable pub IsCleared : World → Call → Reply → ℕ → Type 0
IsCleared w (calls.Detach device) Done other = other ≡ device
IsCleared w (calls.Unmap domain address pages) (Unmapped released) other =
    IsAttachedTo w other domain × IsSomeAnd (w.domains domain) (λ v. TakesAway v.mode released)
IsCleared w (calls.Flush domain) (Flushed released) other = IsAttachedTo w other domain
IsCleared w (calls.Reap domain number) (Reaped released) other = IsAttachedTo w other domain
IsCleared w call reply other = ⊥
