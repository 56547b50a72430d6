use Rattle.std.proofs.Common.{◌≡◌, None, arith}
use Rattle.checker.specs.Pages.{runs_of}
use Rattle.checker.proofs.worlds.Runs.{not_held, past_last}
use Rattle.checker.proofs.pages.Pages.run_of.Goals as goal

pub returns-in_err-first : goal.returns-in_err-first
returns-in_err-first c =
    rw c.from_residual.ensures (not_held (runs_of c.args.self.now) c.args.page (λ k r is h.
    let none : runs_of c.args.self.now k ≡ None = c.in_err-first.ensures k h.0 in absurd cc))

pub returns-else-page-first : goal.returns-else-page-first
returns-else-page-first c =
    past_last (runs_of c.args.self.now) c.args.self.now.apart c.in_ok-first.first c.args.page c.in_ok-first.run' c.in_ok-first.ensures.0
    c.in_ok-first.ensures.1 (omega (arith, c.if-page-first.false, c.in_ok-first.ensures.1)) c.in_ok-first.ensures.2
