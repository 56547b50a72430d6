use Rattle.std.proofs.Common.{arith, ap, ◌∙◌}
use Rattle.std.specs.Prelude.{slice_index}
use Rattle.std.proofs.lemmas.Grind.{common_steps}
use Rattle.ports.specs.Seen.{Desk}
use Rattle.ports.specs.Steps.{place_of}
use Rattle.ports.proofs.lists.Emptied.{one_emptied}
use Rattle.ports.proofs.lists.Rows.{cleared_filled}
use Rattle.ports.proofs.desk.Desk.clear.Goals as goal

pub loop-slot-preserved : goal.loop-slot-preserved
loop-slot-preserved c = (
  grind (arith, common_steps),
  grind (arith, common_steps),
  one_emptied c.args.self.now.did c.loop-slot.self.did c.store.new.self.did c.args.device c.loop-slot.slot c.loop-slot.invariant.2
      c.store.ensures.did,
  c.store.ensures.same.0 ∙ c.loop-slot.invariant.3,
  c.store.ensures.same.1 ∙ c.loop-slot.invariant.4,
)

pub invariant_of-self : goal.invariant_of-self
invariant_of-self c = (
  c.self.invariant.0,
  c.self.invariant.1,
  cleared_filled c.self.inside.filled c.args.device c.self.inside.seat.me.0.last c.requires.device
      (λ slot small.
      ap (λ (d : Desk). slice_index d.last (place_of c.args.device slot)) c.self.view_is
      ∙ c.loop-slot.invariant.0 slot (omega (arith, small, c.loop-slot-test.false)))
      c.self.invariant.2,
)
