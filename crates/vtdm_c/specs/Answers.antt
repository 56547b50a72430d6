-- The answers that say replies, and what C's numbers name. The status of a fault is its number and 32 more.
use Rattle.std.specs.Prelude.{ℕ, ◌+◌, ◌==◌, if◌then◌else◌, Bool, true, false, Option, None, Some}
use Rattle.dmatypes.specs.declared.call.Mode.{Mode}
use Rattle.dmatypes.specs.declared.call.Mode.TheVariants.{Strict, Lazy}
use Rattle.dmatypes.specs.declared.call.Access.{Access}
use Rattle.dmatypes.specs.declared.call.Access.TheVariants.{Read, Write}
use Rattle.dmatypes.specs.declared.call.Cache.{Cache}
use Rattle.dmatypes.specs.declared.call.Call.{Call}
use Rattle.dmatypes.specs.declared.call.Call.TheVariants as calls
use Rattle.dmatypes.specs.declared.call.Cache.TheVariants.{Context, Fault, Leaf, NonLeaf}
use Rattle.dmatypes.specs.Numbers.{fault_number, refusal_number}
use Rattle.dmatypes.specs.declared.reply.Progress.TheVariants.{Did, Idle}
use Rattle.dmatypes.specs.declared.reply.Reply.{Reply}
use Rattle.dmatypes.specs.declared.reply.Reply.TheVariants.{Made, Done, Mapped, Unmapped, Flushed, Ticket, Stepped, Reaped, Pending}
use Rattle.dmatypes.specs.declared.reply.Reply.TheVariants.{Host, Faulted, Refused}
use Rattle.vtdm_c.specs.declared.answer.Answer.{Answer}
use Rattle.vtdm_c.specs.declared.answer.TheConstants.Answer.{FAULTS, OK, PENDING}

-- a status with no number
abbrev pub lone : ℕ → Answer
lone status = record { status = status; value = 0 }

-- done, with a number
abbrev pub told : ℕ → Answer
told value = record { status = OK; value = value }

-- what was found, or the status of what wasn't
abbrev pub found : Option ℕ → ℕ → Answer
found (Some value) status = told value
found None status = lone status

-- done, with the number of the reply; the number of a refusal; that of a fault, behind those of the refusals
abbrev pub answer_of : Reply → Answer
answer_of (Made domain) = told domain
answer_of Done = lone OK
answer_of (Mapped address) = told address
answer_of (Unmapped released) = told released
answer_of (Flushed released) = told released
answer_of (Ticket domain number) = told number
answer_of (Stepped Did) = told 1
answer_of (Stepped Idle) = told 0
answer_of (Reaped released) = told released
answer_of Pending = lone PENDING
answer_of (Host address) = told address
answer_of (Faulted fault) = lone (FAULTS + fault_number fault)
answer_of (Refused refusal) = lone (refusal_number refusal)

-- the mode that C names
abbrev pub mode_named : Bool → Mode
mode_named true = Lazy
mode_named false = Strict

-- the access that C names
abbrev pub access_named : Bool → Access
access_named true = Write
access_named false = Read

-- the request that C names
abbrev pub request_named : ℕ → ℕ → Bool → Bool → Bool → Call
request_named device address write look fill =
    calls.Dma device address (access_named write) (record { look = look; fill = fill })

-- the cache of a number, if there is one
abbrev pub cache_numbered : ℕ → Option Cache
cache_numbered n = if n == 0 then Some Leaf else (if n == 1 then Some NonLeaf else (if n == 2 then Some Context
    else (if n == 3 then Some Fault else None)))
