use Rattle.std.proofs.Common.{◌-◌, ◌≤◌}
use Rattle.checker.specs.Pages.{runs_between, runs_of, target_at}
use Rattle.checker.specs.Runs.{IsCutAt}
use Rattle.checker.specs.Taken.{taken_at, taken_end, taken_room}
use Rattle.checker.proofs.worlds.Taken.{AreLeft, AreTaken}
use Rattle.checker.proofs.pages.Pages.take_runs.Given as goal

abbrev pub invariant-loop-start : goal.invariant-loop-start
invariant-loop-start l = record {
  order : (l.first ≤ l.page) × (l.page ≤ l.end);
  left : AreLeft (target_at l.fn.self) (target_at l.self) l.first l.page;
  here : IsCutAt (runs_of l.self) l.page;
  there : IsCutAt (runs_of l.self) l.end;
  taken : AreTaken (target_at l.fn.self) (taken_at l.taken) l.first l.page;
  end : taken_end l.taken ≤ l.page;
  room : runs_between l.self l.page l.end ≤ taken_room l.taken;
}

abbrev pub decreases-loop-start : goal.decreases-loop-start
decreases-loop-start l = l.end - l.page
