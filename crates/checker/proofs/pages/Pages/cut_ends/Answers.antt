use Rattle.checker.proofs.worlds.Cuts.{then_so}
use Rattle.checker.proofs.pages.Pages.cut_ends.Goals as goal

pub returns-clause-first : goal.returns-clause-first
returns-clause-first c = then_so c.cut_at-2.result c.cut_at-2.ensures.others (λ others. others c.args.first c.in_ok-cut_at.ensures.here)
