use Rattle.std.proofs.Common.{[], ◌∷◌, ap, ◌∙◌}
use Rattle.std.specs.Option.{option_or}
use Rattle.dmatypes.specs.World.{placed}
use Rattle.checker.specs.Pages.{runs_of}
use Rattle.checker.proofs.worlds.Taken.{one_taken}
use Rattle.checker.proofs.pages.Pages.take_run.Goals as goal

pub returns-clause-taken : goal.returns-clause-taken
returns-clause-taken c = λ p.
    let r = c.args.run in
    c.push.ensures.pages p
    ∙ ap (option_or (placed (record { frame = r.frame; pages = r.pages } ∷ []) c.args.first r.rights p)) (c.in_ok-taken.ensures.none p)
    ∙ one_taken (runs_of c.args.self.now) c.args.first p r c.args.self.now.apart c.requires.there
