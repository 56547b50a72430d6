-- A call that sends a descriptor and a wait, and ends once the unit did both: what the type of a state keeps.
use Rattle.std.proofs.Common.{◌≡◌, ℕ, ◌+◌, ◌∙◌, Bool, true, false, List, Option, length, ap, arith, refl, slice_set}
use Rattle.dmatypes.specs.declared.call.Call.{Call}
use Rattle.dmatypes.specs.declared.reply.Reply.{Reply}
use Rattle.dmatypes.specs.Page.{Range}
use Rattle.dmatypes.specs.Step.{next}
use Rattle.queue.specs.Ring.{Ring}
use Rattle.vtdbits.specs.declared.context.ContextEntry.{ContextEntry}
use Rattle.vtdbits.specs.declared.descriptor.Descriptor.{Descriptor}
use Rattle.engine.specs.Ending.{Invalidates, SendsForMap}
use Rattle.tables.specs.Pool.{Pool}
use Rattle.engine.specs.declared.iommu.Iommu.{Iommu}
use Rattle.engine.specs.declared.iommu.Shown.{Shown}
use Rattle.engine.specs.Domains.{Domain}
use Rattle.engine.specs.State.{State}
use Rattle.engine.specs.Steps.{Does}
use Rattle.engine.specs.Whole.{IsWhole}
use Rattle.engine.proofs.states.RecordsMade.{begun_kept, made_kept}
use Rattle.engine.proofs.states.Refused.{tickets_of, whole_quiet}

-- the state with another domain at a place, or none, other table frames and another IOMMU
abbrev pub changed : State → ℕ → Pool → Option Domain → Iommu → State
changed m i pool new x = record { pool = pool; domains = slice_set m.domains i new; iommu = x; tickets = m.tickets; calls = m.calls + 1 }

pub whole_sends : (m t : State) (call : Call) (reply : Reply) (d : Descriptor) (row : List ContextEntry) {seen : Option Shown}
    → IsWhole m.pool.frames m
    → Does m call reply t → length t.domains ≡ length m.domains → length row ≡ length m.iommu.contexts
    → Invalidates (record m.iommu { contexts = row }) d seen t.iommu → IsWhole t.pool.frames t
whole_sends m t call reply d row whole does domains rows sends = record {
  of_world = (next whole.of_world.0 call reply, (does.steps whole.of_world.0 whole.of_world.1).1);
  places = domains ∙ whole.places;
  devices = ap length sends.contexts ∙ rows ∙ whole.devices;
  frames_are = refl;
  tickets = tickets_of m t call reply whole does;
  sent = omega (arith, sends.number, whole.sent, does.calls);
  steps = (let none = ap (λ (r : Ring). length r.waiting) sends.done in omega (arith, sends.steps, none, whole.steps, does.calls));
  made = made_kept m t call reply does.becomes (omega (arith, sends.number)) whole.made;
  begun = begun_kept m t call reply does.becomes (omega (arith, sends.number)) whole.begun;
}

-- a map sends in Caching Mode, and nothing without it
pub whole_mapped : (m t : State) (call : Call) (reply : Reply) (domain root : ℕ) (range : Range) (caching : Bool) → IsWhole m.pool.frames m
    → Does m call reply t → length t.domains ≡ length m.domains → SendsForMap caching m.iommu domain root range t.iommu
    → IsWhole t.pool.frames t
whole_mapped m t call reply domain root range false whole does domains same =
    whole_quiet m t call reply whole does domains (ap (λ (x : Iommu). length x.contexts) same) (ap (λ (x : Iommu). x.ring) same)
    (ap (λ (x : Iommu). x.sent) same) (ap (λ (x : Iommu). x.unit.steps) same)
whole_mapped m t call reply domain root range true whole does domains (d, is, sends) =
    whole_sends m t call reply d m.iommu.contexts whole does domains refl sends
