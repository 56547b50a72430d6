use Rattle.std.proofs.Common.{◌≡◌, inl, inr, ℕ, ap, sym, ◌∙◌, List, arith}
use Rattle.std.proofs.lemmas.Bool.{cases_lt}
use Rattle.dmatypes.specs.declared.reply.Event.{Event}
use Rattle.checker.specs.declared.verdict.Verdict.{Verdict}
use Rattle.checker.specs.declared.verdict.Verdict.TheVariants.{Legal, Illegal}
use Rattle.checker.specs.Verdicts.{IsVerdict, IsFirstIllegal}
use Rattle.checker.proofs.histories.Fronts.{step_at, step_in}
use Rattle.checker.proofs.laws.one_verdict.Goals as goal

same_first : (frames : ℕ) (history : List Event) (m n : ℕ) → IsFirstIllegal frames history m → IsFirstIllegal frames history n → m ≡ n
same_first frames history m n h k =
    elim (cases_lt h.0 k.0) [
      | inl below ↦ absurd (h.5 (step_in frames h.0 k.0 history h.1 below h.3 k.4))
      | inr above ↦ elim (cases_lt k.0 h.0) [
        | inl below ↦ absurd (k.5 (step_in frames k.0 h.0 history k.1 below k.3 h.4))
        | inr same ↦ omega (arith, h.2, k.2)
      ]
    ]

one : (frames : ℕ) (history : List Event) (v u : Verdict) → IsVerdict frames history v → IsVerdict frames history u → v ≡ u
one frames history (Legal m) (Legal n) h k = ap Legal (h.1 ∙ sym k.1)
one frames history (Legal m) (Illegal n) h k = absurd (k.5 (step_at frames k.0 history k.1 k.3 h.0))
one frames history (Illegal m) (Legal n) h k = absurd (h.5 (step_at frames h.0 history h.1 h.3 k.0))
one frames history (Illegal m) (Illegal n) h k = ap Illegal (same_first frames history m n h k)

pub returns : goal.returns
returns c = one
