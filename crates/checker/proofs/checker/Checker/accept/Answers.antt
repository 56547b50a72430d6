use Rattle.std.proofs.Common.{sym, subst}
use Rattle.dmatypes.specs.declared.call.Call.{Call}
use Rattle.dmatypes.specs.Conditions.{NoConditionStands}
use Rattle.checker.specs.Judging.{Accepts}
use Rattle.checker.specs.World.{world_of}
use Rattle.checker.proofs.calls.Judged.{good_unmap}
use Rattle.checker.proofs.checker.Checker.accept.Goals as goal

pub accept_unmap_at-requires : goal.accept_unmap_at-requires
accept_unmap_at-requires c =
    let w = world_of c.args.self.now in
    good_unmap w c.in-Unmap.domain c.in-Unmap.address c.in-Unmap.pages
    (subst (λ (call : Call). NoConditionStands w call) c.in-Unmap.is c.requires.none)

pub returns-in-Dma : goal.returns-in-Dma
returns-in-Dma c =
    let w = world_of c.args.self.now in
    subst (λ (call : Call). Accepts w call c.args.reply c.accept_dma.result w) (sym c.in-Dma.is) (c.accept_dma.ensures c.in-Dma.whim)
