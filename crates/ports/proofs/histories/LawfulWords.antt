-- All that the rule uses of legal histories and lawful words.
use Rattle.std.proofs.Common.{ℕ, List, [], inl, inr, refl}
use Rattle.dmatypes.specs.declared.reply.Event.{Event}
use Rattle.dmatypes.specs.History.{IsLegal, after}
use Rattle.vtdbits.specs.Port.{Spells}
use Rattle.vtdbits.specs.declared.port.PortWord.{PortWord}
use Rattle.ports.specs.Lawful.{IsBacked, IsLawful, IsLawfulAfter}

pub legal_empty : (frames : ℕ) → IsLegal frames []
legal_empty frames = tt

pub lawful_zero : (frames : ℕ) (history : List Event) (device : ℕ) → IsLawfulAfter frames history device 0
unfolding IsLawful
lawful_zero frames history device = inl refl

-- a word that spells what the device's domain backs is lawful
pub backed_word : (frames : ℕ) (history : List Event) (device word : ℕ) (p : PortWord) → Spells word p
    → IsBacked (after frames history) device p → IsLawfulAfter frames history device word
unfolding IsLawful
backed_word frames history device word p spelled backed = inr (p, spelled, backed)
