use Rattle.std.proofs.Common.{◌≡◌, ◌+◌, ◌-◌, ◌≤◌, ◌<◌, None, refl, arith}
use Rattle.checker.specs.Pages.{runs_of}
use Rattle.checker.proofs.worlds.Runs.{held, not_held, past_last}
use Rattle.checker.proofs.pages.Pages.last_mapped_in.Goals as goal

pub returns-in_err-start : goal.returns-in_err-start
returns-in_err-start c =
    rw c.from_residual.ensures (λ p inside. not_held (runs_of c.args.self.now) p (λ k r is h.
    let none : runs_of c.args.self.now k ≡ None = c.in_err-start.ensures k (omega (arith, h.0, inside.1)) in absurd cc))

pub returns-then-first-end : goal.returns-then-first-end
returns-then-first-end c =
    let runs = runs_of c.args.self.now in
    let s = c.in_ok-start.start in
    let r = c.in_ok-start.run' in
    let there = c.in_ok-start.ensures.0 in
    let some : 1 ≤ r.pages = c.args.self.now.apart.some s r there in
    let before : s ≤ c.min-end.result - 1 = omega (arith, some, c.in_ok-start.ensures.1, c.min-end.ensures, c.requires.some) in
    let below : c.min-end.result - 1 < s + r.pages = omega (arith, some, c.min-end.ensures, c.if-first-end.true) in (
      (omega (arith, c.if-first-end.true), omega (arith, c.min-end.ensures, c.if-first-end.true)),
      rw (held runs c.args.self.now.apart s (c.min-end.result - 1) r there (before, below)) refl,
    )

pub returns-else-first-end : goal.returns-else-first-end
returns-else-first-end c = λ p inside.
    let runs = runs_of c.args.self.now in
    let s = c.in_ok-start.start in
    let r = c.in_ok-start.run' in
    let ended : s + r.pages ≤ c.args.first = omega (arith, c.if-first-end.false, c.min-end.ensures, c.requires.some) in
    past_last runs c.args.self.now.apart s p r c.in_ok-start.ensures.0 (omega (arith, ended, inside.0)) (omega (arith, ended, inside.0))
    (λ j more less. c.in_ok-start.ensures.2 j more (omega (arith, less, inside.1)))
