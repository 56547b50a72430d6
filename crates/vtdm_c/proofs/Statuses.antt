-- The numbers of refusals and of faults lie apart.
use Rattle.std.proofs.Common.{◌≡◌, ℕ, ◌+◌, ◌<◌, arith, ap, sym, refl, ◌∙◌}
use Rattle.std.specs.Prelude.{◌==◌, if◌then◌else◌}
use Rattle.dmatypes.specs.Numbers.{fault_number, refusal_number}
use Rattle.dmatypes.specs.declared.refusal.Fault.{Fault}
use Rattle.dmatypes.specs.declared.refusal.Fault.TheVariants as faults
use Rattle.dmatypes.specs.declared.refusal.Refusal.{Refusal}
use Rattle.dmatypes.specs.declared.refusal.Refusal.TheVariants as refusals
use Rattle.vtdm_c.specs.declared.answer.TheConstants.Answer.{ABSENT, FAULTS, OK}

pub between : (r : Refusal) → (OK < refusal_number r) × (refusal_number r < FAULTS)
between refusals.NoDomain = (omega arith, omega arith)
between refusals.NoDevice = (omega arith, omega arith)
between refusals.Busy = (omega arith, omega arith)
between refusals.NotAttached = (omega arith, omega arith)
between refusals.BadRange = (omega arith, omega arith)
between refusals.FrameOwned = (omega arith, omega arith)
between refusals.NoRange = (omega arith, omega arith)
between refusals.NoFrames = (omega arith, omega arith)
between refusals.TooManyPieces = (omega arith, omega arith)
between refusals.NotLive = (omega arith, omega arith)
between refusals.Window = (omega arith, omega arith)
between refusals.TooManyDomains = (omega arith, omega arith)
between refusals.BadTicket = (omega arith, omega arith)
between refusals.TooManyTickets = (omega arith, omega arith)
between refusals.HistoryFull = (omega arith, omega arith)

pub behind : (f : Fault) → (FAULTS < FAULTS + fault_number f) × (FAULTS + fault_number f < ABSENT)
behind faults.NotAttached = (omega arith, omega arith)
behind faults.BeyondWidth = (omega arith, omega arith)
behind faults.Write = (omega arith, omega arith)
behind faults.Read = (omega arith, omega arith)

-- the refusal of a number
abbrev numbered : ℕ → Refusal
numbered n =
    if n == 1 then refusals.NoDomain else (
    if n == 2 then refusals.NoDevice else (
    if n == 3 then refusals.Busy else (
    if n == 4 then refusals.NotAttached else (
    if n == 5 then refusals.BadRange else (
    if n == 6 then refusals.FrameOwned else (
    if n == 7 then refusals.NoRange else (
    if n == 8 then refusals.NoFrames else (
    if n == 9 then refusals.TooManyPieces else (
    if n == 10 then refusals.NotLive else (
    if n == 11 then refusals.Window else (
    if n == 12 then refusals.TooManyDomains else (
    if n == 13 then refusals.BadTicket else (
    if n == 14 then refusals.TooManyTickets else (
    refusals.HistoryFull))))))))))))))

refusal_back : (r : Refusal) → numbered (refusal_number r) ≡ r
refusal_back refusals.NoDomain = refl
refusal_back refusals.NoDevice = refl
refusal_back refusals.Busy = refl
refusal_back refusals.NotAttached = refl
refusal_back refusals.BadRange = refl
refusal_back refusals.FrameOwned = refl
refusal_back refusals.NoRange = refl
refusal_back refusals.NoFrames = refl
refusal_back refusals.TooManyPieces = refl
refusal_back refusals.NotLive = refl
refusal_back refusals.Window = refl
refusal_back refusals.TooManyDomains = refl
refusal_back refusals.BadTicket = refl
refusal_back refusals.TooManyTickets = refl
refusal_back refusals.HistoryFull = refl

pub refusals_apart : (r q : Refusal) → refusal_number r ≡ refusal_number q → r ≡ q
refusals_apart r q same = sym (refusal_back r) ∙ ap numbered same ∙ refusal_back q

-- the fault of a number
abbrev fault_numbered : ℕ → Fault
fault_numbered n =
    if n == 2 then faults.NotAttached else (
    if n == 4 then faults.BeyondWidth else (
    if n == 5 then faults.Write else (
    faults.Read)))

fault_back : (f : Fault) → fault_numbered (fault_number f) ≡ f
fault_back faults.NotAttached = refl
fault_back faults.BeyondWidth = refl
fault_back faults.Write = refl
fault_back faults.Read = refl

pub faults_apart : (f g : Fault) → FAULTS + fault_number f ≡ FAULTS + fault_number g → f ≡ g
faults_apart f g same =
    let numbers : fault_number f ≡ fault_number g = omega (arith, same) in
    sym (fault_back f) ∙ ap fault_numbered numbers ∙ fault_back g
