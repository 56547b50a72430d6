-- The words of a new desk are lawful after any history.
use Rattle.std.proofs.Common.{◌≡◌, ℕ, zero, suc, List, refl, sym, subst, get_or, replicate}
use Rattle.dmatypes.specs.declared.reply.Event.{Event}
use Rattle.ports.specs.Lawful.{IsLawfulAfter}
use Rattle.ports.specs.Steps.{AreLawful, place_of}
use Rattle.ports.specs.declared.rule.TheConstants.{ROW_WORDS}
use Rattle.ports.proofs.histories.LawfulWords.{lawful_zero}

pub empty_lawful : (frames : ℕ) (history : List Event) → AreLawful (IsLawfulAfter frames) history (replicate ROW_WORDS 0)
empty_lawful frames history device slot d s =
    subst (IsLawfulAfter frames history device) (sym (replicated ROW_WORDS (place_of device slot))) (lawful_zero frames history device)
  where
    replicated : (n k : ℕ) → ◌≡◌ {A = ℕ} (get_or (replicate n 0) k 0) 0
    replicated zero k = refl
    replicated (suc n) zero = refl
    replicated (suc n) (suc k) = replicated n k
