use Rattle.std.proofs.Common.{◌++◌, [], ◌∷◌, ap, ◌∙◌}
use Rattle.checker.specs.Rising.{IsSoundRun, at_runs, runs_end, is_rising}
use Rattle.checker.proofs.worlds.Rising.{end_push, pushed, rises, rising_push, to_rise}
use Rattle.checker.proofs.taken.Taken.push.Goals as goal

pub invariant_of-self : goal.invariant_of-self
invariant_of-self c =
    let old = c.args.self.now.runs.items in
    let sound : IsSoundRun c.args.run = (c.requires.some, c.requires.frames) in
    record {
      rising = ap (is_rising 0) c.push_reserved.ensures.items
          ∙ to_rise 0 (old ++ (c.args.first, c.args.run) ∷ [])
          (rising_push 0 c.args.first c.args.run old (rises 0 old c.args.self.now.rising) c.requires.order sound);
    }

pub returns-clause-pages : goal.returns-clause-pages
returns-clause-pages c = λ p.
    let old = c.args.self.now.runs.items in
    ap (λ es. at_runs es p) c.push_reserved.ensures.items
    ∙ pushed 0 c.args.first p c.args.run old (rises 0 old c.args.self.now.rising) c.requires.order

pub returns-clause-end : goal.returns-clause-end
returns-clause-end c = ap (runs_end 0) c.push_reserved.ensures.items ∙ end_push 0 c.args.first c.args.run c.args.self.now.runs.items
