use Rattle.std.proofs.Common.{◌++◌, List, ℕ, arith, length, sym, ap, ◌∙◌}
use Rattle.manager.proofs.Reporting.{domain_missing, domain_there, no_domains}
use Rattle.manager.proofs.report.Report.push_domains.Goals.{in-Some, in_default}
use Rattle.manager.proofs.report.Report.push_domains.Goals as goal

pub loop-index-init : goal.loop-index-init
loop-index-init c = record { so_far = no_domains c.args.state.now c.args.self.now; few = c.requires }

pub loop-index-preserved : goal.loop-index-preserved
loop-index-preserved c = elim c.match-domain_totals.branch [
  | in-Some w ↦ record {
    so_far = w.self-is
        ∙ domain_there c.args.state.now c.loop-index.index w.in-Some.totals c.args.self.now c.loop-index.self w.push.new.self
        c.loop-index.invariant.so_far (sym c.domain_totals.ensures ∙ w.in-Some.is)
        (w.push.ensures.bytes ∙ ap (λ (line : List ℕ). c.loop-index.self ++ line) w.domain_line.ensures);
    few = omega (arith, ap length w.self-is, w.push.ensures.few, c.loop-index.invariant.few);
  }
  | in_default w ↦ record {
    so_far = w.self-is
        ∙ domain_missing c.args.state.now c.loop-index.index c.args.self.now c.loop-index.self c.loop-index.invariant.so_far
        (sym c.domain_totals.ensures ∙ w.in_default.is);
    few = omega (arith, ap length w.self-is, c.loop-index.invariant.few);
  }
]
