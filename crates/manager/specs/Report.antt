-- The text of a report, line by line.
use Rattle.std.specs.Prelude.{ℕ, zero, suc, List, [], ◌++◌, Option, None, Some, codes, decimal, slice_get}
use Rattle.dmatypes.specs.declared.call.Mode.{Mode}
use Rattle.dmatypes.specs.declared.call.Mode.TheVariants.{Strict, Lazy}
use Rattle.engine.specs.declared.state.totals.DomainTotals.{DomainTotals}
use Rattle.engine.specs.declared.state.totals.Totals.{Totals}
use Rattle.engine.specs.Domains.{domain_at}
use Rattle.engine.specs.State.{State}
use Rattle.vtdbits.specs.Context.{attached}
use Rattle.dmatypes.specs.declared.limits.TheConstants.{DEVICES, MOST_DOMAINS}
use Rattle.engine.specs.Totals.{domain_totals_of, totals_of}

abbrev pub events_line : ℕ → List ℕ
events_line n = codes "events " ++ decimal n ++ codes "\n"

abbrev pub frames_line : Totals → List ℕ
frames_line t =
    codes "frames " ++ decimal t.free ++ codes " free " ++ decimal t.used ++ codes " used " ++ decimal t.held ++ codes " retired\n"

abbrev pub tickets_line : ℕ → List ℕ
tickets_line n = codes "tickets " ++ decimal n ++ codes " open\n"

abbrev pub ring_line : ℕ → List ℕ
ring_line n = codes "ring " ++ decimal n ++ codes " pending\n"

abbrev pub mode_word : Mode → List ℕ
mode_word Strict = codes "strict"
mode_word Lazy = codes "lazy"

abbrev pub domain_line : ℕ → DomainTotals → List ℕ
domain_line id t =
    codes "domain " ++ decimal id ++ codes " " ++ mode_word t.mode ++ codes " live " ++ decimal t.live ++ codes " retired "
    ++ decimal t.retired
    ++ codes " pieces " ++ decimal t.pieces ++ codes "\n"

abbrev pub device_line : ℕ → ℕ → List ℕ
device_line device domain = codes "device " ++ decimal device ++ codes " domain " ++ decimal domain ++ codes "\n"

-- no line where there is no such domain
abbrev pub line_of_domain : ℕ → Option DomainTotals → List ℕ
line_of_domain id None = []
line_of_domain id (Some t) = domain_line id t

-- no line where the device is attached to nothing
abbrev pub line_of_device : ℕ → Option ℕ → List ℕ
line_of_device device None = []
line_of_device device (Some domain) = device_line device domain

-- the lines of the domains of ids 1 to n
unfoldable pub domain_lines : State → ℕ → List ℕ
domain_lines m zero = []
domain_lines m (suc n) = domain_lines m n ++ line_of_domain (suc n) (domain_totals_of (domain_at m.domains (suc n)))

-- the lines of the first n devices
unfoldable pub device_lines : State → ℕ → List ℕ
device_lines m zero = []
device_lines m (suc n) = device_lines m n ++ line_of_device n (attached (slice_get m.iommu.contexts n))

-- the lines that there are for every state
abbrev pub head_lines : ℕ → Totals → List ℕ
head_lines events t = events_line events ++ frames_line t ++ tickets_line t.tickets ++ ring_line t.pending

-- the report of a history of this number of events and of the state after it
unfoldable pub report_text : ℕ → State → List ℕ
report_text events m = head_lines events (totals_of m) ++ domain_lines m MOST_DOMAINS ++ device_lines m DEVICES
