use Rattle.std.proofs.Common.{◌≡◌, ◌≤◌, ◌%◌, ◌^◌, sym, subst, inl, inr, arith}
use Rattle.std.proofs.lemmas.Bool.{cases_lt}
use Rattle.checker.specs.World.{domain_of}
use Rattle.checker.proofs.domain.Domain.free_range.Goals as goal

pub loop-start-preserved : goal.loop-start-preserved
loop-start-preserved c =
    let d = domain_of c.args.self.now in
    let m = c.multiple_past-start.ensures in
    let step : c.power-step.result ≡ 2 ^ c.args.order = c.power-step.ensures.power in
    record {
      aligned = subst (λ n. c.multiple_past-start.result % n ≡ 0) step m.multiple;
      none = λ s aligned below free.
          elim (cases_lt s c.loop-start.start) [
            | inl before ↦ c.loop-start.invariant.none s aligned before free
            | inr from ↦
                let le : s ≤ c.in-Some.page = m.next s (subst (λ n. s % n ≡ 0) (sym step) aligned) below in
                let at = free c.in-Some.page (omega (arith, from, le), omega (arith, from, c.in-Some.ensures.0)) in
                c.in-Some.ensures.1 at
          ];
    }
