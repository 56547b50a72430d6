use Rattle.std.proofs.Common.{sym, subst}
use Rattle.dmatypes.specs.declared.call.Call.{Call}
use Rattle.checker.specs.Refusing.{IsRefusalOf}
use Rattle.checker.specs.World.{world_of}
use Rattle.checker.proofs.checker.Checker.refusal_of.Goals as goal

pub returns-in-Domain : goal.returns-in-Domain
returns-in-Domain c =
    subst (λ (call : Call). IsRefusalOf (world_of c.args.self.now) call c.no_id.result) (sym c.in-Domain.is)
    (c.no_id.ensures c.in-Domain.mode c.in-Domain.width)

pub returns-in-Unmap : goal.returns-in-Unmap
returns-in-Unmap c =
    subst (λ (call : Call). IsRefusalOf (world_of c.args.self.now) call c.unmap_refusal.result) (sym c.in-Unmap.is)
    c.unmap_refusal.ensures

pub returns-in-Dma : goal.returns-in-Dma
returns-in-Dma c =
    subst (λ (call : Call). IsRefusalOf (world_of c.args.self.now) call c.dma_refusal.result) (sym c.in-Dma.is)
    (c.dma_refusal.ensures c.in-Dma.access c.in-Dma.whim)
