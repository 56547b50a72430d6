use Rattle.std.proofs.Common.{inl, inr, refl, arith}
use Rattle.std.proofs.lemmas.Bool.{cases_lt}
use Rattle.checker.specs.Pages.{runs_of}
use Rattle.checker.proofs.worlds.Runs.{held}
use Rattle.checker.proofs.pages.Pages.unmapped_in.Goals as goal

pub loop-page-preserved : goal.loop-page-preserved
loop-page-preserved c = (
  omega (arith, c.loop-page.invariant.0, c.in-Some.ensures.1),
  λ p from below. elim (cases_lt p c.loop-page.page) [
    | inl before ↦ c.loop-page.invariant.1 p from before
    | inr at ↦
        rw (held (runs_of c.args.self.now) c.args.self.now.apart c.in-Some.start p c.in-Some.run' c.in-Some.ensures.0
        (omega (arith, at, c.in-Some.ensures.1), below)) refl
  ],
)

pub returns-in-None : goal.returns-in-None
returns-in-None c = ((c.loop-page.invariant.0, c.loop-page-test.true), rw c.in-None.ensures refl)
