-- One more step of a run.
use Rattle.std.proofs.Common.{◌≡◌, ℕ, List, [], ◌∷◌, ◌++◌, refl, sym, ap, ◌∙◌, subst}
use Rattle.std.specs.Prelude.{fold}
use Rattle.dmatypes.specs.declared.reply.Event.{Event}
use Rattle.ports.specs.Steps.{Core, PortStep, empty, stepped, stepped_by, stored_after, IsPortStep, IsRun}
use Rattle.ports.specs.Rule.{Truth, IsReached}

pub stepped_by-append : (c : Core) (xs ys : List PortStep) → stepped_by c (xs ++ ys) ≡ stepped_by (stepped_by c xs) ys
stepped_by-append c [] ys = refl
stepped_by-append c (x ∷ xs) ys = stepped_by-append (stepped c x) xs ys

stored_push : (last : List ℕ) (steps : List PortStep) (s : PortStep)
    → fold stored_after last (steps ++ s ∷ []) ≡ stored_after (fold stored_after last steps) s
stored_push last [] s = refl
stored_push last (x ∷ xs) s = stored_push (stored_after last x) xs s

-- one step more is made
abbrev pub with_step : Truth → PortStep → Truth
with_step t s = record {
  steps = t.steps ++ s ∷ [];
  core = stepped t.core s;
  last = stored_after t.last s;
  desk = t.desk;
  made = t.made;
  place = t.place;
}

module _ (legal : List Event → Type 0) (lawful : List Event → ℕ → ℕ → Type 0) where
  run_push : (c : Core) (steps : List PortStep) (s : PortStep) → IsRun legal lawful c steps → IsPortStep legal lawful (stepped_by c steps) s
      → IsRun legal lawful c (steps ++ s ∷ [])
  run_push c [] s r may = (may, tt)
  run_push c (x ∷ xs) s r may = (r.0, run_push (stepped c x) xs s r.1 may)

  pub reached_more : (passes : ℕ) (t : Truth) (s : PortStep) → IsReached legal lawful passes t → IsPortStep legal lawful t.core s
      → IsReached legal lawful passes (with_step t s)
  reached_more passes t s r may = record {
    is_run = run_push (empty passes) t.steps s r.is_run (subst (λ (d : Core). IsPortStep legal lawful d s) (sym r.leads) may);
    leads = stepped_by-append (empty passes) t.steps (s ∷ []) ∙ ap (λ (d : Core). stepped d s) r.leads;
    last = stored_push _ t.steps s ∙ ap (λ (l : List ℕ). stored_after l s) r.last;
  }
