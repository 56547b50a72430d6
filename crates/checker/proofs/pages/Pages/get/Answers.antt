use Rattle.std.proofs.Common.{Some, ap, sym, ◌∙◌}
use Rattle.checker.specs.Pages.{runs_of}
use Rattle.checker.proofs.worlds.Runs.{held}
use Rattle.checker.proofs.pages.Pages.get.Goals as goal

pub returns-in-Some : goal.returns-in-Some
returns-in-Some c =
    ap Some c.new.ensures
    ∙ sym (held (runs_of c.args.self.now) c.args.self.now.apart c.in-Some.first c.args.page c.in-Some.run' c.in-Some.ensures.0
    c.in-Some.ensures.1)
