-- Where a request may come to, as tests.
use Rattle.std.specs.Prelude.{ℕ, ◌/◌, ◌%◌, Bool, false, ◌&&◌, ◌==◌, List, [], ◌∷◌, Option, Some, None, if◌then◌else◌}
use Rattle.std.specs.List.{flat_map}
use Rattle.dmatypes.specs.declared.call.Access.{Access}
use Rattle.dmatypes.specs.declared.call.Access.TheVariants.{Read, Write}
use Rattle.dmatypes.specs.declared.reply.Reply.{Reply}
use Rattle.dmatypes.specs.declared.reply.Reply.TheVariants.{Host}
use Rattle.dmatypes.specs.Allows.{host_of}
use Rattle.dmatypes.specs.Page.{byte_address, offset_of, page_of}
use Rattle.dmatypes.specs.World.{Target, is_within}
use Rattle.checker.specs.declared.record.Record.{Record}
use Rattle.checker.specs.Taken.{taken_at}

-- the access is permitted
abbrev pub permits : ℕ → Access → Bool
permits rights Read = rights % 2 == 1
permits rights Write = (rights / 2) % 2 == 1

-- the reply is the host address of the target, at the offset of the address
abbrev pub is_host : Target → ℕ → Reply → Bool
is_host t address (Host host) = host == byte_address t.frame (offset_of address)
is_host t address reply = false

-- the reply is that of a target with the right
abbrev pub reaches_by : ℕ → Access → Reply → Option Target → Bool
reaches_by address access reply None = false
reaches_by address access reply (Some t) = permits t.rights access && is_host t address reply

-- the page of the address is in the record, and the reply is that of what was mapped there, with the right
abbrev pub reaches : ℕ → Access → Reply → Record → Bool
reaches address access reply r =
    is_within r.range (page_of address) && reaches_by address access reply (taken_at r.targets (page_of address))

-- the host address of a target with the right
abbrev pub hosts_by : ℕ → Access → Option Target → List Reply
hosts_by address access None = []
hosts_by address access (Some t) = if permits t.rights access then Host (host_of t address) ∷ [] else []

-- that of what was mapped at the page of the address, where this is in the record
abbrev pub hosts_in : ℕ → Access → Record → List Reply
hosts_in address access r =
    if is_within r.range (page_of address) then hosts_by address access (taken_at r.targets (page_of address)) else []

-- those by all of the records
abbrev pub hosts : ℕ → Access → List Record → List Reply
hosts address access records = flat_map (hosts_in address access) records
