use Rattle.std.proofs.Common.{◌≡◌, ℕ, None, Some, ap, arith, inl, inr, slice_get, sym, true, false, ◌∙◌}
use Rattle.std.proofs.lemmas.Bool.{cases_lt}
use Rattle.std.proofs.lemmas.Option.{none-some, slice_get_past}
use Rattle.vtdbits.specs.Context.{attached}
use Rattle.engine.proofs.devices.Bits.{told_in, told_out}
use Rattle.engine.proofs.state.State.devices_of.Goals as goal
use Rattle.engine.proofs.state.State.devices_of.Goals.{then-is_attached_to, else-is_attached_to}

pub loop-device-preserved : goal.loop-device-preserved
loop-device-preserved c =
    let In : ℕ → Type 0 = λ v. attached (slice_get c.args.self.now.iommu.contexts v) ≡ Some c.args.id in
    elim c.if-is_attached_to.branch [
      | then-is_attached_to w ↦
          rw (w.devices-is)
          (told_in In c.loop-device.devices c.loop-device.device (omega (arith, c.loop-device-test.true)) c.loop-device.invariant
          (c.is_attached_to.ensures.0 w.if-is_attached_to.true))
      | else-is_attached_to w ↦
          rw (w.devices-is)
          (told_out In c.loop-device.devices c.loop-device.device c.loop-device.invariant
          (λ there. let both : true ≡ false = sym (c.is_attached_to.ensures.1 there) ∙ w.if-is_attached_to.false in cc))
    ]

-- the bits of all devices are told, and there is no other device
pub returns : goal.returns
returns c device =
    elim (cases_lt device 16) [
      | inl there ↦ c.loop-device.invariant.0 device (omega (arith, there, c.loop-device-test.false))
      | inr past ↦
          let none : attached (slice_get c.args.self.now.iommu.contexts device) ≡ None =
          rw (← c.self.view_is) (ap attached
          (slice_get_past c.self.inside.iommu.contexts device (omega (arith, past, c.self.invariant.0.devices)))) in (
            λ set. absurd (omega (
              arith,
              set,
              past,
              c.loop-device-test.false,
              c.loop-device.invariant.1 device
                  (omega (arith, past, c.loop-device.auto.device-end)),
            )),
            λ there. absurd (none-some _ (sym none ∙ there)),
          )
    ]
