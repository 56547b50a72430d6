use Rattle.std.proofs.Common.{◌++◌, List, ℕ, arith, length, sym, ap, ◌∙◌}
use Rattle.manager.proofs.Reporting.{device_alone, device_attached, no_devices}
use Rattle.manager.proofs.report.Report.push_devices.Goals.{in-Some, in_default}
use Rattle.manager.proofs.report.Report.push_devices.Goals as goal

pub loop-device-init : goal.loop-device-init
loop-device-init c = record { so_far = no_devices c.args.state.now c.args.self.now; few = c.requires }

pub loop-device-preserved : goal.loop-device-preserved
loop-device-preserved c = elim c.match-domain_of.branch [
  | in-Some w ↦ record {
    so_far = w.self-is
        ∙ device_attached c.args.state.now c.loop-device.device w.in-Some.domain c.args.self.now c.loop-device.self w.push.new.self
        c.loop-device.invariant.so_far (sym c.domain_of.ensures ∙ w.in-Some.is)
        (w.push.ensures.bytes ∙ ap (λ (line : List ℕ). c.loop-device.self ++ line) w.device_line.ensures.bytes);
    few = omega (arith, ap length w.self-is, w.push.ensures.len, w.device_line.ensures.short, c.loop-device.invariant.few);
  }
  | in_default w ↦ record {
    so_far = w.self-is
        ∙ device_alone c.args.state.now c.loop-device.device c.args.self.now c.loop-device.self c.loop-device.invariant.so_far
        (sym c.domain_of.ensures ∙ w.in_default.is);
    few = omega (arith, ap length w.self-is, c.loop-device.invariant.few);
  }
]
