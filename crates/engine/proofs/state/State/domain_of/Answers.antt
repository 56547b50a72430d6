use Rattle.std.proofs.Common.{◌≤◌, arith, length, sym, ap}
use Rattle.std.proofs.lemmas.Option.{slice_get_past}
use Rattle.vtdbits.specs.Context.{attached}
use Rattle.engine.proofs.state.State.domain_of.Goals as goal

pub returns-then-device-ge-DEVICES : goal.returns-then-device-ge-DEVICES
returns-then-device-ge-DEVICES c =
    let past : length c.self.inside.iommu.contexts ≤ c.args.device =
    omega (arith, c.self.invariant.0.devices, c.if-device-ge-DEVICES.true) in
    rw (← c.self.view_is) (ap attached (sym (slice_get_past c.self.inside.iommu.contexts c.args.device past)))
