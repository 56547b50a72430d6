use Rattle.std.proofs.Common.{sym}
use Rattle.checker.specs.Pages.{runs_of}
use Rattle.checker.proofs.worlds.Cuts.{begin_is_cut, then_so}
use Rattle.checker.proofs.pages.Pages.part.Goals as goal

pub returns-in-Some-2-clause-first : goal.returns-in-Some-2-clause-first
returns-in-Some-2-clause-first c =
    then_so c.cut_at.result c.cut_at.ensures.others (λ others. others c.args.first
    (begin_is_cut (runs_of c.args.self.now) c.args.first c.in-Some-2.field-0 c.args.self.now.apart (sym c.in-Some-2.ensures)))
