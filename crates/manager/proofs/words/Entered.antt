-- The words of the rows, when an event enters the history.
use Rattle.std.proofs.Common.{◌∙◌, ◌≡◌, ◌<◌, ℕ, inl, inr, List, [], ◌∷◌, ◌++◌, slice_index, sym, subst}
use Rattle.std.specs.Int.{bit_at}
use Rattle.std.specs.Prelude.{Option, None, Some}
use Rattle.dmatypes.specs.declared.call.Call.{Call}
use Rattle.dmatypes.specs.declared.call.Call.TheVariants as calls
use Rattle.dmatypes.specs.declared.reply.Event.{Event}
use Rattle.dmatypes.specs.declared.reply.Reply.{Reply}
use Rattle.dmatypes.specs.declared.reply.Reply.TheVariants.{Host}
use Rattle.dmatypes.specs.History.{IsLegal, IsLegalFrom, after, after_from}
use Rattle.dmatypes.specs.Step.{IsStep, next}
use Rattle.dmatypes.specs.World.{World, empty}
use Rattle.dmatypes.proofs.histories.Entered.{after_from-push}
use Rattle.engine.specs.declared.answer.Detail.{Detail}
use Rattle.engine.specs.Hits.{IsHitIn, IsDetailIn}
use Rattle.engine.specs.Quarantine.{Quarantine}
use Rattle.engine.specs.State.{State}
use Rattle.dmatypes.proofs.histories.Maps.{same_or_not}
use Rattle.ports.specs.Lawful.{IsLawful, IsLawfulAfter}
use Rattle.ports.specs.Steps.{AreLawful, place_of}
use Rattle.ports.proofs.histories.LawfulWords.{lawful_zero}
use Rattle.ports.proofs.histories.Staying.{keeps}
use Rattle.unit.specs.declared.hit.Hit.{Hit}
use Rattle.manager.specs.Words.{AreCleared, TellRows}

-- the words of the devices of these bits are 0, and all others stay
abbrev pub AreEmptied : ℕ → List ℕ → List ℕ → Type 0
AreEmptied bits last last' =
    (device slot : ℕ) → device < 16 → slot < 16
    → (bit_at bits device ≡ 1 → slice_index last' (place_of device slot) ≡ 0)
    × ((bit_at bits device ≡ 1 → ⊥) → slice_index last' (place_of device slot) ≡ slice_index last (place_of device slot))

pub emptied_cleared : (w : World) (call : Call) (reply : Reply) (bits : ℕ) (last last' : List ℕ)
    → TellRows last w call reply bits → AreEmptied bits last last' → AreCleared w call reply last last'
emptied_cleared w call reply bits last last' tells emptied device slot low small = (
  λ is. elim (same_or_not (bit_at bits device) 1) [
    | inl one ↦ (emptied device slot low small).0 one
    | inr not ↦ elim ((tells device low).1 is) [
      | inl one ↦ absurd (not one)
      | inr none ↦ (emptied device slot low small).1 not ∙ none slot small
    ]
  ],
  λ not. (emptied device slot low small).1 (λ one. not ((tells device low).0 one)),
)

-- ---- the step of an event

step_from : (w : World) (history : List Event) (e : Event) → IsLegalFrom w (history ++ e ∷ [])
    → IsStep (after_from w history) e.call e.reply
step_from w [] e legal = legal.0
step_from w (x ∷ xs) e legal = step_from (next w x.call x.reply) xs e legal.1

pub step_at : (frames : ℕ) (history : List Event) (e : Event) → IsLegal frames (history ++ e ∷ [])
    → IsStep (after frames history) e.call e.reply
step_at frames history e legal = step_from (empty frames) history e legal

-- the words stay lawful where the rows that are to be are cleared
pub lawful_cleared : (frames : ℕ) (history : List Event) (e : Event) (bits : ℕ) (last last' : List ℕ)
    → IsLegal frames (history ++ e ∷ []) → AreLawful (IsLawfulAfter frames) history last
    → TellRows last (after frames history) e.call e.reply bits → AreEmptied bits last last'
    → AreLawful (IsLawfulAfter frames) (history ++ e ∷ []) last'
lawful_cleared frames history e bits last last' legal lawful tells emptied device slot low small =
    elim (same_or_not (bit_at bits device) 1) [
      | inl one ↦
          subst (IsLawfulAfter frames (history ++ e ∷ []) device) (sym ((emptied device slot low small).0 one))
          (lawful_zero frames (history ++ e ∷ []) device)
      | inr not ↦
          subst (IsLawfulAfter frames (history ++ e ∷ []) device) (sym ((emptied device slot low small).1 not))
          (elim (same_or_not (slice_index last (place_of device slot)) 0) [
            | inl none ↦
                subst (IsLawfulAfter frames (history ++ e ∷ []) device) (sym none)
                (lawful_zero frames (history ++ e ∷ []) device)
            | inr some ↦ (subst (λ (w : World). IsLawful w device (slice_index last (place_of device slot)))
                (sym (after_from-push (empty frames) history e)) (keeps (after frames history) e.call e.reply device
                (slice_index last (place_of device slot)) (step_at frames history e legal) (lawful device slot low small)
                (λ is. elim ((tells device low).1 is) [
                  | inl one ↦ not one
                  | inr none ↦ some (none slot small)
                ])))
          ])
    ]

-- ---- the hit

-- what a request hit is there after it too
hit_next : (w : World) (call : Call) (reply : Reply) (hit : Option Hit) → IsHitIn w call reply hit
    → IsHitIn (next w call reply) call reply hit
unfolding IsHitIn next
hit_next w (calls.Domain mode width) reply hit is = is
hit_next w (calls.Drop domain) reply hit is = is
hit_next w (calls.Attach device domain) reply hit is = is
hit_next w (calls.Detach device) reply hit is = is
hit_next w (calls.Map domain frame pages order rights) reply hit is = is
hit_next w (calls.MapList domain order rights segments) reply hit is = is
hit_next w (calls.Unmap domain address pages) reply hit is = is
hit_next w (calls.Flush domain) reply hit is = is
hit_next w (calls.Begin domain) reply hit is = is
hit_next w calls.Unit reply hit is = is
hit_next w (calls.Reap domain number) reply hit is = is
hit_next w (calls.Dma device address access whim) (Host a) (Some hit) is = is
hit_next w (calls.Dma device address access whim) (Host a) None is = absurd is
hit_next w (calls.Dma device address access whim) _ hit is = is
hit_next w (calls.Evict kind place) reply hit is = is

pub hit_after : (frames : ℕ) (history : List Event) (e : Event) (hit : Option Hit) → IsHitIn (after frames history) e.call e.reply hit
    → IsHitIn (after frames (history ++ e ∷ [])) e.call e.reply hit
hit_after frames history e hit is =
    subst (λ (w : World). IsHitIn w e.call e.reply hit) (sym (after_from-push (empty frames) history e))
    (hit_next (after frames history) e.call e.reply hit is)

-- ---- the rows cleared, and the event entered

module _ (s : State) (frames : ℕ) (history : List Event) (e : Event) (bits : ℕ) (last last' : List ℕ)
    (legal : IsLegal frames (history ++ e ∷ []))
    (lawful : AreLawful (IsLawfulAfter frames) history last) (state : Quarantine s (after frames (history ++ e ∷ [])))
    (detail : Detail) (of_domain : IsDetailIn (after frames history) e.call e.reply detail)
    (tells : (w : World) → Quarantine s (next w e.call e.reply) → IsDetailIn w e.call e.reply detail
    → TellRows last w e.call e.reply bits)
    (emptied : AreEmptied bits last last') where
  tells_here : TellRows last (after frames history) e.call e.reply bits
  tells_here = tells (after frames history) (subst (Quarantine s) (after_from-push (empty frames) history e) state) of_domain

  pub words_lawful : AreLawful (IsLawfulAfter frames) (history ++ e ∷ []) last'
  words_lawful = lawful_cleared frames history e bits last last' legal lawful tells_here emptied

  pub words_cleared : AreCleared (after frames history) e.call e.reply last last'
  words_cleared = emptied_cleared (after frames history) e.call e.reply bits last last' tells_here emptied
