-- A step of the unit is a step of the model, and keeps the quarantine and what the type of a state keeps.
use Rattle.std.proofs.Common.{◌≡◌, ◌↔◌, ℕ, ◌+◌, ◌≤◌, inl, inr, List, [], ◌∷◌, length, refl, sym, ap, subst, ◌∙◌, arith}
use Rattle.dmatypes.specs.Step.{IsStep, next}
use Rattle.dmatypes.specs.Step as model
use Rattle.dmatypes.specs.World.{World}
use Rattle.dmatypes.specs.declared.call.Call.TheVariants as calls
use Rattle.dmatypes.specs.declared.reply.Progress.{Progress}
use Rattle.dmatypes.specs.declared.reply.Progress.TheVariants.{Did, Idle}
use Rattle.dmatypes.specs.declared.reply.Reply.TheVariants.{Stepped}
use Rattle.unit.specs.Caches.{unit_state}
use Rattle.unit.specs.Filters.{after_first, done_after, left_by_first}
use Rattle.vtdbits.specs.declared.descriptor.Descriptor.{Descriptor}
use Rattle.engine.specs.State.{State, Becomes, Exact}
use Rattle.engine.specs.Quarantine.{Quarantine}
use Rattle.engine.specs.Steps.{Does}
use Rattle.engine.specs.Whole.{IsWhole}
use Rattle.engine.proofs.caches.Lawful.{fewer_lawful}
use Rattle.engine.proofs.states.RecordsMade.{begun_kept, made_kept}
use Rattle.engine.proofs.states.Refused.{tickets_of}
use Rattle.engine.proofs.tickets.UnitStep.{fewer_by_first}

-- the state once the unit made a step
abbrev pub stepped : State → State
stepped m = record m {
  iommu = record m.iommu {
    ring = after_first m.iommu.ring.waiting m.iommu.ring.status m.iommu.ring.taken;
    unit = unit_state (left_by_first m.iommu.ring.waiting m.iommu.unit.caches) (m.iommu.unit.steps + 1)
        (done_after m.iommu.ring.waiting m.iommu.unit.done) m.iommu.unit.caching;
  };
  calls = m.calls + 1;
}

quarantine_stepped : (m : State) (w : World) → Quarantine m w → Quarantine (stepped m) w
quarantine_stepped m w q =
    let left = left_by_first m.iommu.ring.waiting m.iommu.unit.caches in
    let fewer = fewer_by_first m.iommu.ring.waiting m.iommu.unit.caches in
    let lawful = fewer_lawful m w m.iommu.unit.caches left q.caches fewer.leaves fewer.tables in
    record {
      table_frames = q.table_frames;
      domains = q.domains;
      caches = record { leaves = lawful.leaves; tables = lawful.tables };
      faults = λ f inside. q.faults f (fewer.faults f inside);
      contexts = record {
        devices = q.contexts.devices;
        roots = q.contexts.roots;
        cached = λ x inside. q.contexts.cached x (fewer.contexts x inside);
      };
      frames = q.frames;
      tickets = q.tickets;
    }

next_stepped : (w : World) (progress : Progress) → next w calls.Unit (Stepped progress) ≡ w
unfolding next
next_stepped w progress = refl

unit_step : (w : World) (progress : Progress) → IsStep w calls.Unit (Stepped progress)
unfolding IsStep model.Answers
unit_step w Did = (tt, inl refl)
unit_step w Idle = (tt, inr refl)

exact_step : (m : State) (progress : Progress) → ((progress ≡ Idle) ↔ (m.iommu.ring.waiting ≡ []))
    → Exact m calls.Unit (Stepped progress)
unfolding Exact
exact_step m Did idle = λ none. let same = idle.1 none in absurd cc
exact_step m Idle idle = idle.0 refl

pub unit_does : (m t : State) (progress : Progress) → ((progress ≡ Idle) ↔ (m.iommu.ring.waiting ≡ [])) → t ≡ stepped m
    → Does m calls.Unit (Stepped progress) t
unfolding Becomes
unit_does m t progress idle is = record {
  steps = λ w q. (
    unit_step w progress,
    subst (Quarantine t) (sym (next_stepped w progress)) (subst (λ s. Quarantine s w) (sym is) (quarantine_stepped m w q)),
  );
  exact = exact_step m progress idle;
  becomes = is;
  calls = ap (λ (x : State). x.calls) is;
}

-- no more wait than before
fewer_wait : (ds : List Descriptor) (status : ℕ) (taken : List Descriptor) → length (after_first ds status taken).waiting ≤ length ds
fewer_wait [] status taken = omega arith
fewer_wait (d ∷ ds) status taken = omega arith

pub whole_stepped : (m t : State) (progress : Progress) → IsWhole m.pool.frames m → Does m calls.Unit (Stepped progress) t
    → t ≡ stepped m → IsWhole t.pool.frames t
whole_stepped m t progress whole does is =
    let sent : t.iommu.sent ≡ m.iommu.sent = ap (λ (x : State). x.iommu.sent) is in
    let made : t.iommu.unit.steps ≡ m.iommu.unit.steps + 1 = ap (λ (x : State). x.iommu.unit.steps) is in
    let left = ap (λ (x : State). length x.iommu.ring.waiting) is in
    let few = fewer_wait m.iommu.ring.waiting m.iommu.ring.status m.iommu.ring.taken in
    record {
      of_world = (next whole.of_world.0 calls.Unit (Stepped progress), (does.steps whole.of_world.0 whole.of_world.1).1);
      places = ap (λ (x : State). length x.domains) is ∙ whole.places;
      devices = ap (λ (x : State). length x.iommu.contexts) is ∙ whole.devices;
      frames_are = refl;
      tickets = tickets_of m t calls.Unit (Stepped progress) whole does;
      sent = omega (arith, sent, whole.sent, does.calls);
      steps = omega (arith, made, left, few, whole.steps, does.calls);
      begun = begun_kept m t calls.Unit (Stepped progress) does.becomes (omega (arith, sent)) whole.begun;
      made = made_kept m t calls.Unit (Stepped progress) does.becomes (omega (arith, sent)) whole.made;
    }
