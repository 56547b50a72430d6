-- That each span of words that is told lies in one table frame.
use Rattle.std.proofs.Common.{inl, inr, ℕ, Bool, true, false, List, [], ◌∷◌, Option, None, Some, subst, sym}
use Rattle.std.specs.List.{All}
use Rattle.std.proofs.lemmas.List.Elements.{All-append, All-cons, All-nil}
use Rattle.dmatypes.specs.declared.call.Call.{Call}
use Rattle.dmatypes.specs.declared.call.Call.TheVariants as calls
use Rattle.dmatypes.specs.declared.call.Mode.{Mode}
use Rattle.dmatypes.specs.declared.call.Mode.TheVariants.{Lazy, Strict}
use Rattle.vtdbits.specs.declared.descriptor.Descriptor.{Descriptor}
use Rattle.engine.specs.Domains.{Domain, domain_at}
use Rattle.engine.specs.State.{State}
use Rattle.driven.specs.declared.effect.Effect.{Effect}
use Rattle.driven.specs.declared.effect.Effect.TheVariants.{Await, Barrier, Context, Send, Words}
use Rattle.driven.specs.Effects.{IsForTables, IsSending, StaysInFrame, by_mode, in_mode, in_order}
use Rattle.driven.specs.Telling.{IsSentBy, with_wait}

pub none_in_frames : All StaysInFrame []
none_in_frames = All-nil StaysInFrame

-- ---- what is brought

of_one : (e : Effect) → IsForTables e → StaysInFrame e
of_one (Words frame first count) h = h
of_one Barrier h = tt
of_one (Context device first) h = tt
of_one (Send low high) h = tt
of_one (Await number) h = tt

pub tables_in_frames : (es : List Effect) → All IsForTables es → All StaysInFrame es
tables_in_frames es all k d less = of_one _ (all k d less)

-- ---- what is sent

sending_in_frame : (d : Descriptor) (e : Effect) → IsSending d e → StaysInFrame e
sending_in_frame d (Send low high) sends = tt
sending_in_frame d (Words frame first count) sends = absurd sends
sending_in_frame d Barrier sends = tt
sending_in_frame d (Context device first) sends = tt
sending_in_frame d (Await number) sends = tt

wait_in_frames : (awaits : Bool) (number : ℕ) → All StaysInFrame (with_wait awaits number)
wait_in_frames true number = All-cons StaysInFrame (Await number) [] tt none_in_frames
wait_in_frames false number = none_in_frames

pub sent_in_frames : (t : State) (waits : ℕ) (awaits : Bool) (es : List Effect) → IsSentBy t waits awaits es → All StaysInFrame es
sent_in_frames t waits awaits es sent =
    elim sent [
      | inl none ↦ subst (λ xs. All StaysInFrame xs) (sym none.1) none_in_frames
      | inr some ↦
          let (d, w, e, f, (ne, one, zero, se, sf, is)) = some in
          subst (λ xs. All StaysInFrame xs) (sym is)
          (All-cons StaysInFrame e (f ∷ with_wait awaits t.iommu.sent) (sending_in_frame d e se)
          (All-cons StaysInFrame f (with_wait awaits t.iommu.sent) (sending_in_frame w f sf) (wait_in_frames awaits t.iommu.sent)))
    ]

-- ---- both in their order

module _ (P : Effect → Type 0) (brought sent : List Effect) (first : All P brought) (second : All P sent) where
  all_in_mode : (d : Option Domain) → All P (in_mode d brought sent)
  all_in_mode None = All-append P brought sent first second
  all_in_mode (Some h) = by h.mode
    where
      by : (mode : Mode) → All P (by_mode mode brought sent)
      by Strict = All-append P brought sent first second
      by Lazy = All-append P sent brought second first

  pub all_in_order : (m : State) (call : Call) → All P (in_order m call brought sent)
  all_in_order m (calls.Drop domain) = All-append P sent brought second first
  all_in_order m (calls.Unmap domain address pages) = all_in_mode (domain_at m.domains domain)
  all_in_order m (calls.Domain mode width) = All-append P brought sent first second
  all_in_order m (calls.Attach device domain) = All-append P brought sent first second
  all_in_order m (calls.Detach device) = All-append P brought sent first second
  all_in_order m (calls.Map domain frame pages order rights) = All-append P brought sent first second
  all_in_order m (calls.MapList domain order rights segments) = All-append P brought sent first second
  all_in_order m (calls.Flush domain) = All-append P brought sent first second
  all_in_order m (calls.Begin domain) = All-append P brought sent first second
  all_in_order m calls.Unit = All-append P brought sent first second
  all_in_order m (calls.Reap domain number) = All-append P brought sent first second
  all_in_order m (calls.Dma device address access whim) = All-append P brought sent first second
  all_in_order m (calls.Evict kind place) = All-append P brought sent first second
