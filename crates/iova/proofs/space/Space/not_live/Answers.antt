use Rattle.iova.proofs.Names.{◌∙◌, Some, inl, inr, ap, arith}
use Rattle.iova.proofs.Among.{in_state}
use Rattle.iova.proofs.Pieces.{order}
use Rattle.iova.proofs.Keep.{in_narrow}
use Rattle.iova.proofs.space.Space.not_live.Goals as goal

pub overflow_add-next : goal.overflow_add-next
overflow_add-next c =
    let found = c.in-Some.ensures in
    let narrow = in_narrow c.args.self.now c.in-Some.piece found.space found.live.0 in
    omega (arith, narrow)

pub loop-next-preserved : goal.loop-next-preserved
loop-next-preserved c =
    let found = c.in-Some.ensures in
    let holds = found.live.1 in
    record {
      from = omega (arith, holds, c.loop-next.invariant.from);
      live = λ page a b. elim (order c.loop-next.next page) [
        | inr less ↦ c.loop-next.invariant.live page a less
        | inl more ↦ in_state 1 c.in-Some.piece c.args.self.now.pieces page found.space.ordered found.live.0 (omega (arith, holds))
            (omega arith) ∙ ap (λ u. Some u) found.live.2
      ];
    }
