use Rattle.std.proofs.Common.{◌≤◌, ℕ, refl, arith}
use Rattle.std.specs.BTreeMap.Range.{IsRangeOf}
use Rattle.std.specs.Ordering.{nat_cmp}
use Rattle.std.specs.declared.ops.Bound.TheVariants.{Included, Unbounded}
use Rattle.std.proofs.lemmas.Map.Keys.{ge_from_not_lt, le_from_not_gt}
use Rattle.checker.specs.declared.run.Run.{Run}
use Rattle.checker.specs.Pages.{runs_of}
use Rattle.checker.proofs.worlds.Keys.{no_run, not_greater}
use Rattle.checker.proofs.pages.Pages.last_run.Goals as goal

pub returns : goal.returns
returns c =
    let e : ℕ × Run = (c.in_ok-first.first.now, c.in_ok-first.run'.now) in
    let part : IsRangeOf nat_cmp Unbounded (Included c.args.page) c.args.self.now.runs c.range.result = c.range.ensures.in_range tt in
    let entry = part.3 e c.next_back.new.self c.in_ok-first.ensures.steps in (
      entry.1,
      le_from_not_gt c.in_ok-first.first.now c.args.page entry.0.1,
      λ k more less. no_run (runs_of c.args.self.now k) (λ r is.
          let low : k ≤ c.in_ok-first.first.now =
          ge_from_not_lt c.in_ok-first.first.now k
          (part.4 e c.next_back.new.self c.in_ok-first.ensures.steps k (tt, not_greater k c.args.page less) (rw is refl)) in
          omega (arith, low, more)),
    )
