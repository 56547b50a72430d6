use Rattle.std.proofs.Common.{◌+◌, inl, inr, arith}
use Rattle.std.proofs.lemmas.Bool.{cases_lt}
use Rattle.checker.specs.Pages.{runs_of}
use Rattle.checker.proofs.worlds.Runs.{none_held}
use Rattle.checker.proofs.pages.Pages.cut_at.Goals as goal

pub returns-in_default-clause-here : goal.returns-in_default-clause-here
returns-in_default-clause-here c = λ k r is less.
    elim (cases_lt c.args.page (k + r.pages)) [
      | inl crosses ↦
          let a = c.args.self.now.apart in
          absurd (none_held (runs_of c.args.self.now) a k c.args.page r c.in_default.ensures is (omega (arith, less), crosses))
      | inr stops ↦ stops
    ]
