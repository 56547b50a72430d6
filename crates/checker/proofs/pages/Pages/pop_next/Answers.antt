use Rattle.std.proofs.Common.{◌+◌, refl, arith}
use Rattle.checker.specs.Pages.{runs_of}
use Rattle.checker.proofs.worlds.Taken.{gap_none, has_first}
use Rattle.checker.proofs.pages.Pages.pop_next.Goals as goal

pub returns-in_err-start-clause-leaves : goal.returns-in_err-start-clause-leaves
returns-in_err-start-clause-leaves c =
    rw c.from_residual.ensures (
      λ q from below.
          gap_none (runs_of c.args.self.now) c.args.page c.args.end q c.requires.first c.in_err-start.ensures from below,
      λ p. refl,
    )

pub returns-clause-leaves : goal.returns-clause-leaves
returns-clause-leaves c =
    let found = c.in_ok-start.ensures in (
      has_first (runs_of c.args.self.now) c.args.page c.args.end c.in_ok-start.start c.in_ok-start.run' c.args.self.now.apart found.2 found.0
          found.1
          (λ q from below. gap_none (runs_of c.args.self.now) c.args.page c.in_ok-start.start q c.requires.first found.3 from below),
      c.remove_at.ensures.left c.in_ok-start.run' found.2,
    )

pub returns-clause-end : goal.returns-clause-end
returns-clause-end c = c.remove_at.ensures.cuts c.args.end c.requires.end

pub returns-clause-fewer : goal.returns-clause-fewer
returns-clause-fewer c =
    let found = c.in_ok-start.ensures in
    let some = c.args.self.now.apart.some c.in_ok-start.start c.in_ok-start.run' found.2 in
    c.remove_at.ensures.fewer c.in_ok-start.run' found.2 c.args.page (c.in_ok-start.start + c.in_ok-start.run'.pages) c.args.end found.0
    (omega (arith, some)) found.1
