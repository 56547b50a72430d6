-- A port that checked in meets the history.
use Rattle.std.proofs.Common.{◌≡◌, ℕ, zero, suc, ◌+◌, ◌<◌, List, [], ◌∷◌, ◌++◌, arith, ap, get_or, length, subst, sym, ◌∙◌}
use Rattle.dmatypes.specs.declared.reply.Event.{Event}
use Rattle.ports.specs.declared.known.OwnStep.{OwnStep}
use Rattle.ports.specs.declared.known.OwnStep.TheVariants.{Loaded}
use Rattle.ports.specs.Seen.{Port, Rows, new_port}
use Rattle.ports.specs.Steps.{counter}
use Rattle.storm.specs.Storms.{AreHits, AreNewFrom, HasChecked, HasMet}

-- a port loads the counter, and has then seen this history
abbrev pub Meets : List Event → Port → Port → Type 0
Meets history old new =
    (new.did ≡ old.did ++ Loaded counter (length history) ∷ []) × (new.seen ≡ history) × (new.device ≡ old.device)

pub has_met : (hits : ℕ) (history : List Event) (old new : Port) → HasChecked hits old → Meets history old new → HasMet hits history new
has_met hits history old new checked met = (
  checked.0,
  checked.1,
  subst (λ d. AreHits d hits checked.0) (sym met.2) checked.2,
  met.0 ∙ ap (λ (did : List OwnStep). did ++ Loaded counter (length history) ∷ []) checked.3,
  met.1,
)

-- the ports of devices from a number on, as they are made
pub new_from : (rows : Rows) (first : ℕ) (ports : List Port)
    → ((k : ℕ) → k < length ports → (d : Port) → get_or ports k d ≡ new_port rows (first + k)) → AreNewFrom first ports
new_from rows first [] each = tt
new_from rows first (p ∷ rest) each =
    let here : p ≡ new_port rows first = each zero (omega arith) p ∙ ap (new_port rows) (omega arith) in (
      ap (λ (q : Port). q.device) here,
      ap (λ (q : Port). q.did) here,
      new_from rows (first + 1) rest (λ k within d. each (suc k) (omega (arith, within)) d ∙ ap (new_port rows) (omega arith)),
    )
