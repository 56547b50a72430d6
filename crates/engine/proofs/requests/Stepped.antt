-- A device's request is a step of the model, and keeps the quarantine.
use Rattle.std.proofs.Common.{◌≡◌, ℕ, ◌+◌, ◌<◌, ◌≤◌, inl, inr, None, Some, refl, sym, ap, subst, arith, slice_get}
use Rattle.std.specs.Prelude.{IfOk, IsTrue, Result, Ok, Err}
use Rattle.dmatypes.specs.Allows.{Allows, AllowsTo, domain_of_device}
use Rattle.dmatypes.specs.Conditions.{Stands}
use Rattle.dmatypes.specs.Page.{IsInWindow}
use Rattle.dmatypes.specs.Step.{IsStep, next}
use Rattle.dmatypes.specs.Step as model
use Rattle.dmatypes.specs.World.{World, IsIn}
use Rattle.dmatypes.specs.declared.call.Access.{Access}
use Rattle.dmatypes.specs.declared.call.Call.{Call}
use Rattle.dmatypes.specs.declared.call.Call.TheVariants as calls
use Rattle.dmatypes.specs.declared.call.Whim.{Whim}
use Rattle.dmatypes.specs.declared.refusal.Fault.{Fault}
use Rattle.dmatypes.specs.declared.refusal.Refusal.{Refusal}
use Rattle.dmatypes.specs.declared.reply.Reply.{Reply}
use Rattle.tables.specs.Pool.{memory}
use Rattle.unit.specs.Answers.{AnswersRequest, IsRemembered}
use Rattle.unit.specs.Caches.{Caches, CachedContext, CachedFault, unit_state}
use Rattle.unit.specs.declared.hit.Hit.{Hit}
use Rattle.vtdbits.specs.declared.context.ContextEntry.TheVariants.{Present}
use Rattle.engine.specs.Details.{hit_of, request_detail}
use Rattle.engine.specs.Hits.{IsHitIn, IsHitOf, IsNoRequest}
use Rattle.engine.specs.State.{State, Becomes, Exact, host_in, reached_reply, request_reply}
use Rattle.engine.specs.Quarantine.{AreLawfulCaches, IsLawfulFault, Quarantine}
use Rattle.engine.specs.Steps.{Does}
use Rattle.dmatypes.specs.declared.call.Cache.{Cache}
use Rattle.dmatypes.specs.declared.reply.Reply.TheVariants.{Done, Refused}
use Rattle.dmatypes.specs.declared.refusal.Refusal.TheVariants as refusals
use Rattle.unit.specs.Caches.{without}
use Rattle.unit.proofs.caches.Members.{without_leaf, without_non_leaf, without_context, without_fault}
use Rattle.engine.proofs.caches.Lawful.{fewer_lawful}
use Rattle.engine.proofs.states.Refused.{counted, refuses}
use Rattle.engine.proofs.requests.Allowed.{request_allowed, request_contexts, request_faults, request_hit, request_keeps}
use Rattle.dmatypes.specs.declared.limits.TheConstants.{DEVICES}

-- the state with these caches and so many calls, so many steps of the unit, and so many descriptors that it did
abbrev pub remembering : State → Caches → ℕ → ℕ → ℕ → State
remembering m c steps done calls =
    record m { iommu = record m.iommu { unit = unit_state c steps done m.iommu.unit.caching }; calls = calls }

-- it keeps the quarantine where the caches are lawful
pub quarantine_remembering : (m : State) (w : World) (c : Caches) (steps done calls : ℕ) → Quarantine m w → AreLawfulCaches m w c
    → ((f : CachedFault) → IsIn f c.faults → IsLawfulFault m.iommu.unit w f)
    → ((y : CachedContext) → IsIn y c.contexts → slice_get m.iommu.contexts y.device ≡ Some (Present y.root y.width y.domain))
    → Quarantine (remembering m c steps done calls) w
quarantine_remembering m w c steps done calls q lawful faults contexts = record {
  table_frames = q.table_frames;
  domains = q.domains;
  caches = record { leaves = lawful.leaves; tables = lawful.tables };
  faults = faults;
  contexts = record { devices = q.contexts.devices; roots = q.contexts.roots; cached = contexts };
  frames = q.frames;
  tickets = q.tickets;
}

step_of : (w : World) (device address : ℕ) (access : Access) (whim : Whim) (answer : Result Hit Fault) → device < DEVICES
    → (IsInWindow address → ⊥) → AllowsTo (domain_of_device w device) address access (reached_reply (host_in answer))
    → IsStep w (calls.Dma device address access whim) (reached_reply (host_in answer))
unfolding IsStep model.Answers Stands Allows
step_of w device address access whim (Ok hit) small outside allowed = ((λ over. omega arith, (outside, tt)), allowed)
step_of w device address access whim (Err fault) small outside allowed = ((λ over. omega arith, (outside, tt)), allowed)

next_same : (w : World) (device address : ℕ) (access : Access) (whim : Whim) (answer : Result Hit Fault)
    → next w (calls.Dma device address access whim) (reached_reply (host_in answer)) ≡ w
unfolding next
next_same w device address access whim (Ok hit) = refl
next_same w device address access whim (Err fault) = refl

exact_request : (m : State) (device address : ℕ) (access : Access) (whim : Whim) (answer : Result Hit Fault)
    → Exact m (calls.Dma device address access whim) (reached_reply (host_in answer))
unfolding Exact
exact_request m device address access whim (Ok hit) = tt
exact_request m device address access whim (Err fault) = tt

becomes_request : (m t : State) (device address : ℕ) (access : Access) (whim : Whim) (answer : Result Hit Fault)
    → AnswersRequest (memory m.pool.words) m.iommu.contexts whim.look whim.fill m.iommu.unit.caching device address access
    m.iommu.unit.caches t.iommu.unit.caches answer → (IsTrue whim.fill → IfOk answer (IsRemembered t.iommu.unit.caches device address))
    → t ≡ remembering m t.iommu.unit.caches m.iommu.unit.steps m.iommu.unit.done (m.calls + 1)
    → Becomes m (calls.Dma device address access whim) (reached_reply (host_in answer)) t
unfolding Becomes
becomes_request m t device address access whim (Ok hit) answers filled is = (Ok hit, refl, answers, filled, is)
becomes_request m t device address access whim (Err fault) answers filled is = (Err fault, refl, answers, filled, is)

-- a request to the unit does what a request does
pub request_does : (m t : State) (device address : ℕ) (access : Access) (whim : Whim) (answer : Result Hit Fault) → device < DEVICES
    → (IsInWindow address → ⊥)
    → AnswersRequest (memory m.pool.words) m.iommu.contexts whim.look whim.fill m.iommu.unit.caching device address access
    m.iommu.unit.caches t.iommu.unit.caches answer → (IsTrue whim.fill → IfOk answer (IsRemembered t.iommu.unit.caches device address))
    → t ≡ remembering m t.iommu.unit.caches m.iommu.unit.steps m.iommu.unit.done (m.calls + 1)
    → Does m (calls.Dma device address access whim) (reached_reply (host_in answer)) t
request_does m t device address access whim answer small outside answers filled is = record {
  steps = λ w q. (
    step_of w device address access whim answer small outside
        (request_allowed m w q whim.look whim.fill device address access t.iommu.unit.caches answer answers),
    subst (Quarantine t)
        (sym (next_same w device address access whim answer))
        (subst (λ s. Quarantine s w) (sym is) (quarantine_remembering m w t.iommu.unit.caches m.iommu.unit.steps m.iommu.unit.done
        (m.calls + 1) q (request_keeps m w q whim.look whim.fill device address access t.iommu.unit.caches answer answers)
        (request_faults m w q whim.look whim.fill device address access t.iommu.unit.caches answer answers)
        (request_contexts m w q whim.look whim.fill device address access t.iommu.unit.caches answer answers))),
  );
  exact = exact_request m device address access whim answer;
  becomes = becomes_request m t device address access whim answer answers filled is;
  calls = ap (λ (s : State). s.calls) is;
}

-- where it is answered a host address, the device's domain has the page so
pub request_hits : (m : State) (device address : ℕ) (access : Access) (whim : Whim) (new : Caches) (answer : Result Hit Fault)
    → device < DEVICES
    → AnswersRequest (memory m.pool.words) m.iommu.contexts whim.look whim.fill m.iommu.unit.caching device address access
    m.iommu.unit.caches new answer
    → IfOk answer (IsHitOf m device address access)
request_hits m device address access whim new (Ok hit) small answers =
    record { low = small; had = λ w q. request_hit m w q whim.look whim.fill device address access new (Ok hit) hit refl answers }
request_hits m device address access whim new (Err fault) small answers = tt

hit_in_request : (m : State) (w : World) (device address : ℕ) (access : Access) (whim : Whim) (answer : Result (Result Hit Fault) Refusal)
    → Quarantine m w → IfOk answer (λ a. IfOk a (IsHitOf m device address access))
    → IsHitIn w (calls.Dma device address access whim) (request_reply answer) (hit_of (request_detail answer))
unfolding IsHitIn
hit_in_request m w device address access whim (Ok (Ok hit)) q is = (refl, is.low, is.had w q)
hit_in_request m w device address access whim (Ok (Err fault)) q is = refl
hit_in_request m w device address access whim (Err refusal) q is = refl

-- the same of a call that is this request
pub hit_of_request : (m : State) (call : Call) (device address : ℕ) (access : Access) (whim : Whim)
    (answer : Result (Result Hit Fault) Refusal) → call ≡ calls.Dma device address access whim
    → IfOk answer (λ a. IfOk a (IsHitOf m device address access))
    → (w : World) → Quarantine m w → IsHitIn w call (request_reply answer) (hit_of (request_detail answer))
hit_of_request m call device address access whim answer same is w q =
    subst (λ (c : Call). IsHitIn w c (request_reply answer) (hit_of (request_detail answer))) (sym same)
    (hit_in_request m w device address access whim answer q is)

-- no other call has one
pub no_hit : (w : World) (call : Call) (reply : Reply) → IsNoRequest call → IsHitIn w call reply None
unfolding IsHitIn
no_hit w (calls.Domain mode width) reply other = refl
no_hit w (calls.Drop domain) reply other = refl
no_hit w (calls.Attach device domain) reply other = refl
no_hit w (calls.Detach device) reply other = refl
no_hit w (calls.Map domain frame pages order rights) reply other = refl
no_hit w (calls.MapList domain order rights segments) reply other = refl
no_hit w (calls.Unmap domain address pages) reply other = refl
no_hit w (calls.Flush domain) reply other = refl
no_hit w (calls.Begin domain) reply other = refl
no_hit w calls.Unit reply other = refl
no_hit w (calls.Reap domain number) reply other = refl
no_hit w (calls.Dma device address access whim) reply other = absurd (other device address access whim refl)
no_hit w (calls.Evict kind place) reply other = refl

-- ---- the refusals

pub request_no_device : (m t : State) (device address : ℕ) (access : Access) (whim : Whim) → t ≡ counted m → DEVICES ≤ device
    → Does m (calls.Dma device address access whim) (Refused refusals.NoDevice) t
unfolding Exact IsStep Stands
request_no_device m t device address access whim is big =
    refuses m t (calls.Dma device address access whim) refusals.NoDevice is tt (λ w q. inl (inl (big, refl)))

pub request_window : (m t : State) (device address : ℕ) (access : Access) (whim : Whim) → t ≡ counted m → device < DEVICES
    → IsInWindow address
    → Does m (calls.Dma device address access whim) (Refused refusals.Window) t
unfolding Exact IsStep Stands
request_window m t device address access whim is small inside = refuses m t (calls.Dma device address access whim) refusals.Window is tt
    (λ w q. inl (inr ((λ big. absurd (omega (arith, big, small))), inl (inside, refl))))

-- ---- evictions

next_evicted : (w : World) (kind : Cache) (place : ℕ) → next w (calls.Evict kind place) Done ≡ w
unfolding next
next_evicted w kind place = refl

evict_step : (w : World) (kind : Cache) (place : ℕ) → IsStep w (calls.Evict kind place) Done
unfolding IsStep model.Answers
evict_step w kind place = (tt, refl)

pub evict_does : (m t : State) (kind : Cache) (place : ℕ)
    → t ≡ remembering m (without kind place m.iommu.unit.caches) m.iommu.unit.steps m.iommu.unit.done (m.calls + 1)
    → Does m (calls.Evict kind place) Done t
unfolding Becomes Exact
evict_does m t kind place is = record {
  steps = λ w q. (
    evict_step w kind place,
    subst (Quarantine t) (sym (next_evicted w kind place))
        (subst (λ s. Quarantine s w) (sym is)
        (quarantine_remembering m w (without kind place m.iommu.unit.caches) m.iommu.unit.steps m.iommu.unit.done (m.calls + 1) q
        (fewer_lawful m w m.iommu.unit.caches (without kind place m.iommu.unit.caches) q.caches
        (without_leaf kind place m.iommu.unit.caches) (without_non_leaf kind place m.iommu.unit.caches))
        (λ f inside. q.faults f (without_fault kind place m.iommu.unit.caches f inside))
        (λ x inside. q.contexts.cached x (without_context kind place m.iommu.unit.caches x inside)))),
  );
  exact = tt;
  becomes = is;
  calls = ap (λ (x : State). x.calls) is;
}
