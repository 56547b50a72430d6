-- A refused call: the state counts it and stays.
use Rattle.std.proofs.Common.{◌≡◌, ◌+◌, ◌∙◌, length, refl, sym, ap, arith}
use Rattle.dmatypes.specs.declared.call.Call.{Call}
use Rattle.dmatypes.specs.declared.call.Call.TheVariants as calls
use Rattle.dmatypes.specs.declared.reply.Reply.{Reply}
use Rattle.dmatypes.specs.declared.reply.Reply.TheVariants.{Made, Done, Mapped, Unmapped, Flushed, Reaped, Refused}
use Rattle.dmatypes.specs.declared.refusal.Refusal.{Refusal}
use Rattle.dmatypes.specs.World.{World}
use Rattle.dmatypes.specs.Step.{IsStep, next}
use Rattle.engine.specs.State.{State, Exact, Becomes}
use Rattle.engine.specs.Quarantine.{IsOfSomeWorld, Quarantine}
use Rattle.engine.specs.Tickets.{KeepsTickets}
use Rattle.engine.specs.Whole.{IsWhole}
use Rattle.queue.specs.Ring.{Ring}
use Rattle.engine.specs.Steps.{Does}
use Rattle.engine.proofs.states.RecordsMade.{begun_kept, made_kept}
use Rattle.engine.proofs.tickets.EachCall.{tickets_kept}

-- the same state, with one call more counted
abbrev pub counted : State → State
counted m = record m { calls = m.calls + 1 }

pub quarantine_counted : (m : State) (w : World) → Quarantine m w → Quarantine (counted m) w
quarantine_counted m w q = record {
  table_frames = q.table_frames;
  domains = q.domains;
  caches = record { leaves = q.caches.leaves; tables = q.caches.tables };
  faults = q.faults;
  contexts = record { devices = q.contexts.devices; roots = q.contexts.roots; cached = q.contexts.cached };
  frames = q.frames;
  tickets = q.tickets;
}

pub next_refused : (w : World) (call : Call) (refusal : Refusal) → next w call (Refused refusal) ≡ w
unfolding next
next_refused w (calls.Domain mode width) refusal = refl
next_refused w (calls.Drop domain) refusal = refl
next_refused w (calls.Attach device domain) refusal = refl
next_refused w (calls.Detach device) refusal = refl
next_refused w (calls.MapList domain order rights segments) refusal = refl
next_refused w (calls.Flush domain) refusal = refl
next_refused w (calls.Map domain frame pages order rights) refusal = refl
next_refused w (calls.Dma device address access whim) refusal = refl
next_refused w (calls.Unmap domain address pages) refusal = refl
next_refused w (calls.Begin domain) refusal = refl
next_refused w calls.Unit refusal = refl
next_refused w (calls.Reap domain number) refusal = refl
next_refused w (calls.Evict kind place) refusal = refl

becomes_counted : (m t : State) (call : Call) (refusal : Refusal) → t ≡ counted m → Becomes m call (Refused refusal) t
unfolding Becomes
becomes_counted m t (calls.Domain mode width) refusal is = is
becomes_counted m t (calls.Drop domain) refusal is = is
becomes_counted m t (calls.Attach device domain) refusal is = is
becomes_counted m t (calls.Detach device) refusal is = is
becomes_counted m t (calls.MapList domain order rights segments) refusal is = is
becomes_counted m t (calls.Flush domain) refusal is = is
becomes_counted m t (calls.Map domain frame pages order rights) refusal is = is
becomes_counted m t (calls.Dma device address access whim) refusal is = is
becomes_counted m t (calls.Unmap domain address pages) refusal is = is
becomes_counted m t (calls.Begin domain) refusal is = is
becomes_counted m t calls.Unit refusal is = is
becomes_counted m t (calls.Reap domain number) refusal is = is
becomes_counted m t (calls.Evict kind place) refusal is = is

pub refuses : (m t : State) (call : Call) (refusal : Refusal) → t ≡ counted m → Exact m call (Refused refusal)
    → ((w : World) → Quarantine m w → IsStep w call (Refused refusal)) → Does m call (Refused refusal) t
refuses m t call refusal is exact step = record {
  steps = λ w q. (step w q, rw (next_refused w call refusal, is) (quarantine_counted m w q));
  exact = exact;
  becomes = becomes_counted m t call refusal is;
  calls = ap (λ (x : State). x.calls) is;
}

next_frames : (w : World) (call : Call) (reply : Reply) → (next w call reply).table_frames ≡ w.table_frames
unfolding next
next_frames w (calls.Domain mode width) (Made d) = refl
next_frames w (calls.Domain mode width) _ = refl
next_frames w (calls.Drop domain) Done = refl
next_frames w (calls.Drop domain) _ = refl
next_frames w (calls.Detach device) Done = refl
next_frames w (calls.Detach device) _ = refl
next_frames w (calls.MapList domain order rights segments) (Mapped address) = refl
next_frames w (calls.MapList domain order rights segments) _ = refl
next_frames w (calls.Flush domain) (Flushed released) = refl
next_frames w (calls.Flush domain) _ = refl
next_frames w (calls.Attach device domain) Done = refl
next_frames w (calls.Attach device domain) _ = refl
next_frames w (calls.Map domain frame pages order rights) (Mapped address) = refl
next_frames w (calls.Map domain frame pages order rights) _ = refl
next_frames w (calls.Dma device address access whim) reply = refl
next_frames w (calls.Unmap domain address pages) (Unmapped released) = refl
next_frames w (calls.Unmap domain address pages) _ = refl
next_frames w (calls.Begin domain) (Reply.Ticket other number) = refl
next_frames w (calls.Begin domain) _ = refl
next_frames w calls.Unit reply = refl
next_frames w (calls.Reap domain number) (Reaped released) = refl
next_frames w (calls.Reap domain number) _ = refl
next_frames w (calls.Evict kind place) reply = refl

-- there are as many table frames as before
pub frames_kept : (m t : State) (call : Call) (reply : Reply) → IsOfSomeWorld m → Does m call reply t → m.pool.frames ≡ t.pool.frames
frames_kept m t call reply (w, q) does = sym q.table_frames ∙ sym (next_frames w call reply) ∙ (does.steps w q).1.table_frames

-- what its tickets keep, after any call
pub tickets_of : (m t : State) (call : Call) (reply : Reply) → IsWhole m.pool.frames m → Does m call reply t → KeepsTickets t
tickets_of m t call reply whole does =
    tickets_kept m t whole.of_world.0 whole.of_world.1 whole.places whole.tickets call reply
    ((does.steps whole.of_world.0 whole.of_world.1).0, does.exact) does.becomes

-- what the type of a state keeps, after a call that sends nothing
pub whole_quiet : (m t : State) (call : Call) (reply : Reply) → IsWhole m.pool.frames m → Does m call reply t
    → length t.domains ≡ length m.domains → length t.iommu.contexts ≡ length m.iommu.contexts → t.iommu.ring ≡ m.iommu.ring
    → t.iommu.sent ≡ m.iommu.sent → t.iommu.unit.steps ≡ m.iommu.unit.steps → IsWhole t.pool.frames t
whole_quiet m t call reply whole does domains row ring sent steps =
    record {
      of_world = (next whole.of_world.0 call reply, (does.steps whole.of_world.0 whole.of_world.1).1);
      places = domains ∙ whole.places;
      devices = row ∙ whole.devices;
      frames_are = refl;
      tickets = tickets_of m t call reply whole does;
      sent = omega (arith, sent, whole.sent, does.calls);
      steps = (let waiting = ap (λ (r : Ring). length r.waiting) ring in omega (arith, steps, waiting, whole.steps, does.calls));
      made = made_kept m t call reply does.becomes (omega (arith, sent)) whole.made;
      begun = begun_kept m t call reply does.becomes (omega (arith, sent)) whole.begun;
    }
