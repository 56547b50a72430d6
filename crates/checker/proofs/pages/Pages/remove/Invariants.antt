use Rattle.std.proofs.Common.{◌-◌, ◌≤◌}
use Rattle.checker.specs.Pages.{runs_of, target_at}
use Rattle.checker.specs.Runs.{IsCutAt}
use Rattle.checker.proofs.worlds.Taken.{AreLeft}
use Rattle.checker.proofs.pages.Pages.remove.Given as goal

abbrev pub invariant-loop-start : goal.invariant-loop-start
invariant-loop-start l = record {
  order : (l.first ≤ l.page) × (l.page ≤ l.end);
  left : AreLeft (target_at l.fn.self) (target_at l.self) l.first l.page;
  here : IsCutAt (runs_of l.self) l.page;
  there : IsCutAt (runs_of l.self) l.end;
}

abbrev pub decreases-loop-start : goal.decreases-loop-start
decreases-loop-start l = l.end - l.page
