-- Judgments, from what is known of their parts.
use Rattle.std.specs.Prelude.{IsSomeAnd}
use Rattle.std.proofs.Common.{◌≡◌, inl, inr, ℕ, Bool, true, false, List, [], ◌∷◌, refl, sym, subst, ◌∙◌, arith}
use Rattle.dmatypes.specs.declared.call.Call.{Call}
use Rattle.dmatypes.specs.declared.call.Call.TheVariants as calls
use Rattle.dmatypes.specs.declared.call.Access.{Access}
use Rattle.dmatypes.specs.declared.call.Segment.{Segment}
use Rattle.dmatypes.specs.declared.call.Whim.{Whim}
use Rattle.dmatypes.specs.declared.refusal.Refusal.{Refusal}
use Rattle.dmatypes.specs.declared.reply.Reply.{Reply}
use Rattle.dmatypes.specs.declared.reply.Reply.TheVariants.{Made, Done, Mapped, Unmapped, Flushed, Ticket, Stepped, Reaped, Pending, Host}
use Rattle.dmatypes.specs.declared.reply.Reply.TheVariants.{Faulted, Refused}
use Rattle.arrayvec.specs.ArrayVec.{ArrayVec}
use Rattle.dmatypes.specs.Conditions.{IsBadUnmap, IsFirst, NoConditionStands, NoneStands, Stands, total_pages}
use Rattle.dmatypes.specs.Page.{byte_address}
use Rattle.dmatypes.specs.Step.{Answers, IsStep, next}
use Rattle.dmatypes.specs.World.{AreFreePages, World}
use Rattle.checker.specs.Judging.{Accepts, IsAnswer, Judges, JudgesMap, MayMapAt}

pub same_address : (a b : ℕ) → Mapped a ≡ Mapped b → a ≡ b
same_address a b e = cc

-- ---- the first condition that stands

pub first_excludes : (P : Refusal → Type 0) (rs : List Refusal) (a : Refusal) → NoneStands P rs → IsFirst P rs a → ⊥
first_excludes P [] a none h = h
first_excludes P (r ∷ rs) a none (inl h) = none.0 h.0
first_excludes P (r ∷ rs) a none (inr h) = first_excludes P rs a none.1 h.1

pub first_unique : (P : Refusal → Type 0) (rs : List Refusal) (a b : Refusal) → IsFirst P rs a → IsFirst P rs b → a ≡ b
first_unique P [] a b h k = absurd h
first_unique P (r ∷ rs) a b (inl h) (inl k) = h.1 ∙ sym k.1
first_unique P (r ∷ rs) a b (inl h) (inr k) = absurd (k.0 h.0)
first_unique P (r ∷ rs) a b (inr h) (inl k) = absurd (h.0 k.0)
first_unique P (r ∷ rs) a b (inr h) (inr k) = first_unique P rs a b h.1 k.1

-- ---- steps whose reply is no refusal

pub step_parts : (w : World) (call : Call) (reply : Reply) → IsAnswer reply → IsStep w call reply
    → NoConditionStands w call × Answers w call reply
unfolding IsStep
step_parts w call (Made x) answer h = h
step_parts w call Done answer h = h
step_parts w call (Mapped x) answer h = h
step_parts w call (Unmapped x) answer h = h
step_parts w call (Flushed x) answer h = h
step_parts w call (Ticket x y) answer h = h
step_parts w call (Stepped x) answer h = h
step_parts w call (Reaped x) answer h = h
step_parts w call Pending answer h = h
step_parts w call (Host x) answer h = h
step_parts w call (Faulted x) answer h = h
step_parts w call (Refused x) answer h = absurd answer

pub step_from : (w : World) (call : Call) (reply : Reply) → IsAnswer reply → NoConditionStands w call → Answers w call reply
    → IsStep w call reply
unfolding IsStep
step_from w call (Made x) answer h k = (h, k)
step_from w call Done answer h k = (h, k)
step_from w call (Mapped x) answer h k = (h, k)
step_from w call (Unmapped x) answer h k = (h, k)
step_from w call (Flushed x) answer h k = (h, k)
step_from w call (Ticket x y) answer h k = (h, k)
step_from w call (Stepped x) answer h k = (h, k)
step_from w call (Reaped x) answer h k = (h, k)
step_from w call Pending answer h k = (h, k)
step_from w call (Host x) answer h k = (h, k)
step_from w call (Faulted x) answer h k = (h, k)
step_from w call (Refused x) answer h k = absurd answer

-- ---- maps

-- the pages from the answer's first one on were free
pub free_there : (w : World) (domain : ℕ) (segments : List Segment) (order rights : ℕ) (reply : Reply) (first : ℕ)
    → MayMapAt w domain segments order rights reply first
    → IsSomeAnd (w.domains domain) (λ v. AreFreePages v (record { first = first; pages = total_pages segments }))
free_there w domain segments order rights reply first h =
    let answer = h.0.1 in
    let one : byte_address answer.0 0 ≡ byte_address first 0 = same_address (byte_address answer.0 0) (byte_address first 0)
    (sym answer.3 ∙ h.1) in
    let same : answer.0 ≡ first = omega (arith, one) in
    subst (λ (s : ℕ). IsSomeAnd (w.domains domain) (λ v. AreFreePages v (record { first = s; pages = total_pages segments }))) same answer.2

-- ---- steps that change nothing

pub next_refused : (w : World) (call : Call) (r : Refusal) → next w call (Refused r) ≡ w
unfolding next
next_refused w (calls.Domain mode width) r = refl
next_refused w (calls.Drop domain) r = refl
next_refused w (calls.Attach device domain) r = refl
next_refused w (calls.Detach device) r = refl
next_refused w (calls.Map domain frame pages order rights) r = refl
next_refused w (calls.MapList domain order rights segments) r = refl
next_refused w (calls.Unmap domain address pages) r = refl
next_refused w (calls.Flush domain) r = refl
next_refused w (calls.Begin domain) r = refl
next_refused w calls.Unit r = refl
next_refused w (calls.Reap domain number) r = refl
next_refused w (calls.Dma device address access whim) r = refl
next_refused w (calls.Evict kind place) r = refl

next_dma : (w : World) (device address : ℕ) (access : Access) (whim : Whim) (reply : Reply)
    → next w (calls.Dma device address access whim) reply ≡ w
unfolding next
next_dma w device address access whim reply = refl

-- ---- judgments

pub judges_refused : (legal : Bool) (w : World) (call : Call) (r : Refusal)
    → (legal ≡ true → IsStep w call (Refused r)) × (IsStep w call (Refused r) → legal ≡ true) → Judges w call (Refused r) legal w
judges_refused true w call r h = (h.0 refl, sym (next_refused w call r))
judges_refused false w call r h = (λ step. let clash : false ≡ true = h.1 step in absurd cc, refl)

pub judges_from_accepts : (legal : Bool) (w : World) (call : Call) (reply : Reply) (t : World) → IsAnswer reply → NoConditionStands w call
    → Accepts w call reply legal t → Judges w call reply legal t
judges_from_accepts true w call reply t answer none h = (step_from w call reply answer none h.0, h.1)
judges_from_accepts false w call reply t answer none h = (λ step. h.0 (step_parts w call reply answer step).1, h.1)

pub judges_map : (legal : Bool) (w : World) (domain frame pages order rights : ℕ) (reply : Reply) (t : World) → IsAnswer reply
    → JudgesMap w domain (record { frame = frame; pages = pages } ∷ []) order rights reply legal t
    → Judges w (calls.Map domain frame pages order rights) reply legal t
unfolding Answers next Stands
judges_map true w domain frame pages order rights reply t answer h = (
  step_from w (calls.Map domain frame pages order rights) reply answer h.2.0 h.2.1,
  subst (λ (r : Reply). t ≡ next w (calls.Map domain frame pages order rights) r) (sym h.1) h.3,
)
judges_map false w domain frame pages order rights reply t answer h = (
  λ step. h.0 (step_parts w (calls.Map domain frame pages order rights) reply answer step),
  h.1,
)

pub judges_maplist : (legal : Bool) (w : World) (domain order rights : ℕ) (segments : ArrayVec Segment) (reply : Reply) (t : World)
    → IsAnswer reply → JudgesMap w domain segments.items order rights reply legal t
    → Judges w (calls.MapList domain order rights segments) reply legal t
unfolding Answers next Stands
judges_maplist true w domain order rights segments reply t answer h = (
  step_from w (calls.MapList domain order rights segments) reply answer h.2.0 h.2.1,
  subst (λ (r : Reply). t ≡ next w (calls.MapList domain order rights segments) r) (sym h.1) h.3,
)
judges_maplist false w domain order rights segments reply t answer h = (
  λ step. h.0 (step_parts w (calls.MapList domain order rights segments) reply answer step),
  h.1,
)

pub accepts_dma : (legal : Bool) (w : World) (device address : ℕ) (access : Access) (whim : Whim) (reply : Reply)
    → (legal ≡ true → Answers w (calls.Dma device address access whim) reply)
    × (Answers w (calls.Dma device address access whim) reply → legal ≡ true)
    → Accepts w (calls.Dma device address access whim) reply legal w
accepts_dma true w device address access whim reply h = (h.0 refl, sym (next_dma w device address access whim reply))
accepts_dma false w device address access whim reply h = (λ k. let clash : false ≡ true = h.1 k in absurd cc, refl)

pub good_unmap : (w : World) (domain address pages : ℕ) → NoConditionStands w (calls.Unmap domain address pages)
    → IsSomeAnd (w.domains domain) (λ v. IsBadUnmap v.width address pages) → ⊥
unfolding Stands
good_unmap w domain address pages none = none.1.0
