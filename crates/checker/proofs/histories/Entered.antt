-- A step is entered in histories: no step answers that the history is full.
use Rattle.std.proofs.Common.{◌≢◌, List, [], ◌∷◌, refl, inl, inr, sym}
use Rattle.std.specs.Prelude.{IsTrue}
use Rattle.std.specs.List.{AllByRecursion}
use Rattle.dmatypes.specs.declared.call.Call.{Call}
use Rattle.dmatypes.specs.declared.call.Call.TheVariants as calls
use Rattle.dmatypes.specs.declared.refusal.Refusal.{Refusal}
use Rattle.dmatypes.specs.declared.refusal.Refusal.TheVariants as refusals
use Rattle.dmatypes.specs.declared.reply.Reply.{Reply}
use Rattle.dmatypes.specs.declared.reply.Reply.TheVariants.{Refused}
use Rattle.dmatypes.specs.Conditions.{IsFirst, MayMeet, order_of}
use Rattle.dmatypes.specs.Step.{IsStep}
use Rattle.dmatypes.specs.World.{World}
use Rattle.checker.specs.Traces.{is_entered}

abbrev IsOther : Refusal → Type 0
IsOther refusal = refusal ≢ refusals.HistoryFull

others : (call : Call) → AllByRecursion IsOther (order_of call)
others (calls.Domain m w) = (λ e. cc, tt)
others (calls.Drop d) = (λ e. cc, (λ e. cc, tt))
others (calls.Attach v d) = (λ e. cc, (λ e. cc, (λ e. cc, tt)))
others (calls.Detach v) = (λ e. cc, (λ e. cc, tt))
others (calls.Map d f n o r) = (λ e. cc, (λ e. cc, (λ e. cc, (λ e. cc, tt))))
others (calls.MapList d o r ss) = (λ e. cc, (λ e. cc, (λ e. cc, (λ e. cc, tt))))
others (calls.Unmap d a n) = (λ e. cc, (λ e. cc, (λ e. cc, tt)))
others (calls.Flush d) = (λ e. cc, tt)
others (calls.Begin d) = (λ e. cc, (λ e. cc, tt))
others calls.Unit = tt
others (calls.Reap d t) = (λ e. cc, tt)
others (calls.Dma v a x w) = (λ e. cc, (λ e. cc, tt))
others (calls.Evict k p) = tt

none_first : (P : Refusal → Type 0) (rs : List Refusal) → AllByRecursion IsOther rs → IsFirst P rs refusals.HistoryFull → ⊥
none_first P [] h is = is
none_first P (r ∷ rs) h (inl is) = h.0 (sym is.1)
none_first P (r ∷ rs) h (inr is) = none_first P rs h.1 is.1

none_meets : (call : Call) → MayMeet call refusals.HistoryFull → ⊥
none_meets (calls.Domain m w) h = h
none_meets (calls.Drop d) h = h
none_meets (calls.Attach v d) h = h
none_meets (calls.Detach v) h = h
none_meets (calls.Map d f n o r) h = h
none_meets (calls.MapList d o r ss) h = h
none_meets (calls.Unmap d a n) h = h
none_meets (calls.Flush d) h = h
none_meets (calls.Begin d) h = h
none_meets calls.Unit h = h
none_meets (calls.Reap d t) h = h
none_meets (calls.Dma v a x w) h = h
none_meets (calls.Evict k p) h = h

pub step_is_entered : (w : World) (call : Call) (reply : Reply) → IsStep w call reply → IsTrue (is_entered reply)
unfolding IsStep
step_is_entered w call (Refused refusals.HistoryFull) (inl is) = absurd (none_first _ (order_of call) (others call) is)
step_is_entered w call (Refused refusals.HistoryFull) (inr is) = absurd (none_meets call is.1)
step_is_entered w call reply is = refl
