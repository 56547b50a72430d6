use Rattle.std.proofs.Common.{sym}
use Rattle.checker.specs.Pages.{runs_of}
use Rattle.checker.proofs.worlds.Cuts.{begin_is_cut}
use Rattle.checker.proofs.pages.Pages.take.Goals as goal
use Rattle.checker.proofs.pages.Pages.take.Goals.{in-Some-2+in_ok-cut_at-in-Some-2, in-None+in_ok-cut_ends-in-None}

pub take_runs-requires-clause-first : goal.take_runs-requires-clause-first
take_runs-requires-clause-first c =
    elim c.match-run_at.branch [
      | in-Some-2+in_ok-cut_at-in-Some-2 w ↦
          rw w.self-is
          (w.in_ok-cut_at-in-Some-2.ensures.others c.args.first
          (begin_is_cut (runs_of c.args.self.now) c.args.first w.in-Some-2.field-0 c.args.self.now.apart (sym w.in-Some-2.ensures)))
      | in-None+in_ok-cut_ends-in-None w ↦ rw w.self-is w.in_ok-cut_ends-in-None.ensures.first
    ]
