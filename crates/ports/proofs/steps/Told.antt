-- What loads tell, where the seat knows how many table frames there are.
use Rattle.std.proofs.Common.{◌≡◌, ℕ, suc, ◌<◌, subst}
use mathlib.Core.Option.{none}
use Rattle.atomic_table.specs.Table.{step, Allows}
use Rattle.dmatypes.specs.History.{IsLegal}
use Rattle.ports.specs.Lawful.{IsLawfulAfter}
use Rattle.ports.specs.Steps.{counter, place_of}
use Rattle.ports.specs.Rule.{Sat, Table, FollowsRule, Counted, Looked}
use Rattle.ports.proofs.histories.LawfulWords.{legal_empty, lawful_zero}
use Rattle.dmatypes.specs.declared.limits.TheConstants.{DEVICES}
use Rattle.ports.specs.declared.rule.TheConstants.{SLOTS}
use Rattle.ports.proofs.steps.Loads.{counts, looks}

abbrev Holds : ℕ → ℕ → Table → Type 0
Holds frames passes s = FollowsRule (IsLegal frames) (IsLawfulAfter frames) passes s

pub counted : (frames passes slots id : ℕ) (me : Sat) (p : ℕ) → me.0.frames ≡ frames → me.0.mine.who ≡ suc p
    → Allows (Holds frames passes) slots id me counter (λ n. n)
    (λ n later. Counted (IsLegal me.0.frames) (IsLawfulAfter me.0.frames) (step slots counter 0 0 none) me n later)
counted frames passes slots id me p same who =
    subst (λ (f : ℕ).
    Allows (Holds f passes) slots id me counter (λ n. n)
    (λ n later. Counted (IsLegal me.0.frames) (IsLawfulAfter me.0.frames) (step slots counter 0 0 none) me n later)) same
    (counts (IsLegal me.0.frames) (IsLawfulAfter me.0.frames) (legal_empty me.0.frames) (lawful_zero me.0.frames) passes slots id me p who)

pub looked : (frames passes slots id : ℕ) (me : Sat) (port slot : ℕ) → me.0.frames ≡ frames → port < DEVICES → slot < SLOTS
    → me.0.mine.who ≡ suc port
    → Allows (Holds frames passes) slots id me (place_of port slot) (λ n. n)
    (λ n later. Looked (IsLegal me.0.frames) (IsLawfulAfter me.0.frames) (step slots (place_of port slot) 0 0 none) me n later)
looked frames passes slots id me port slot same hp hs who =
    subst (λ (f : ℕ). Allows (Holds f passes) slots id me (place_of port slot) (λ n. n)
    (λ n later. Looked (IsLegal me.0.frames) (IsLawfulAfter me.0.frames) (step slots (place_of port slot) 0 0 none) me n later)) same
    (looks (IsLegal me.0.frames) (IsLawfulAfter me.0.frames) (legal_empty me.0.frames)
    (lawful_zero me.0.frames) passes slots id me port slot hp hs who)
