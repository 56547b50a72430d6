-- The table of exit statuses, by how the program ends.
use Rattle.std.specs.Prelude.{ℕ, Result, Ok, Err}
use Rattle.script.specs.declared.error.RunError.{RunError}
use Rattle.script.specs.declared.error.RunError.TheVariants.{BadLine, Read, Write, NoMemory}
use Rattle.traces.specs.declared.error.CheckError.TheVariants as checks
use Rattle.vtdm.specs.declared.status.End.{End}
use Rattle.vtdm.specs.declared.status.End.TheVariants.{Done, BadCommandLine, Illegal, NoStorm, Stopped, Unchecked}

abbrev pub status_of : End → ℕ
status_of Done = 0
status_of (Stopped Read) = 1
status_of (Stopped Write) = 1
status_of (Stopped (BadLine number)) = 2
status_of BadCommandLine = 2
status_of (Stopped NoMemory) = 3
status_of (NoStorm error) = 3
status_of Illegal = 4
status_of (Unchecked checks.Read) = 1
status_of (Unchecked (checks.BadLine number)) = 2
status_of (Unchecked checks.NoMemory) = 3

-- how a task ended
abbrev pub end_of : {U : Type 0} → Result U RunError → End
end_of (Ok u) = Done
end_of (Err error) = Stopped error
