use Rattle.std.proofs.Common.{◌≡◌, ℕ, List, ◌∷◌, refl, subst, arith}
use Rattle.std.specs.BTreeMap.Range.{IsLeBy, IsRangeOf, IsEntryInRange}
use Rattle.std.specs.Ordering.{nat_cmp}
use Rattle.std.specs.List.{slice_get}
use Rattle.std.specs.Prelude.{IfSome}
use Rattle.std.specs.declared.ops.Bound.TheVariants.{Excluded, Included}
use Rattle.std.proofs.lemmas.Map.Keys.{le_from_not_gt}
use Rattle.checker.specs.declared.run.Run.{Run}
use Rattle.checker.specs.Pages.{runs_of}
use Rattle.checker.proofs.worlds.Keys.{is_less, less_is, no_run, not_greater}
use Rattle.checker.proofs.pages.Pages.first_run_in.Goals as goal

pub returns : goal.returns
returns c =
    let m = c.args.self.now.runs in
    let e : ℕ × Run = (c.in_ok-start.start.now, c.in_ok-start.run'.now) in
    let part : IsRangeOf nat_cmp (Included c.args.first) (Excluded c.args.end) m c.range.result = c.range.ensures.in_range tt in
    let steps : c.range.result ≡ e ∷ c.next.new.self = c.in_ok-start.ensures.steps in
    let entry : IsEntryInRange nat_cmp (Included c.args.first) (Excluded c.args.end) m e =
    subst (λ (es : List (ℕ × Run)). IfSome (slice_get es 0) (IsEntryInRange nat_cmp (Included c.args.first) (Excluded c.args.end) m)) steps part.1
    in (
      le_from_not_gt c.args.first e.0 entry.0.0,
      is_less e.0 c.args.end entry.0.1,
      entry.1,
      λ k from below. no_run (runs_of c.args.self.now k) (λ r is.
          let least : IsLeBy nat_cmp e.0 k =
          subst (λ (es : List (ℕ × Run)). IfSome (slice_get es 0) (λ x. IsLeBy nat_cmp x.0 k)) steps
          (part.2 k (not_greater c.args.first k from, less_is k c.args.end (omega (arith, below, is_less e.0 c.args.end entry.0.1))) (rw is refl)) in
          omega (arith, le_from_not_gt e.0 k least, below)),
    )
