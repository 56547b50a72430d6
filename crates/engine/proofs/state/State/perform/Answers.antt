use Rattle.engine.proofs.requests.Detailed.{detail_of_other, detail_of_unmap, request_is_no_unmap, request_unmaps_none, unmap_hits_none}
use Rattle.engine.proofs.requests.Detailed.{unmap_is_no_request}
use Rattle.engine.proofs.requests.Stepped.{hit_of_request, no_hit}
use Rattle.engine.proofs.state.State.perform.Goals as goal

-- ---- a request

pub returns-in-Dma-clause-hit : goal.returns-in-Dma-clause-hit
returns-in-Dma-clause-hit c =
    rw (c.requested.ensures.reply, c.requested.ensures.detail)
    (hit_of_request _ _ c.in-Dma.device c.in-Dma.address c.in-Dma.access c.in-Dma.whim _ c.in-Dma.is c.dma.ensures.hit)

pub returns-in-Dma-clause-unmapped : goal.returns-in-Dma-clause-unmapped
returns-in-Dma-clause-unmapped c w q =
    rw c.requested.ensures.detail
    (detail_of_other w c.args.call.now _ _ (request_is_no_unmap c.in-Dma.is) (request_unmaps_none c.dma.result))

-- ---- an unmap

pub returns-in-Unmap-clause-hit : goal.returns-in-Unmap-clause-hit
returns-in-Unmap-clause-hit c w q =
    rw (c.unmapped.ensures.detail, unmap_hits_none c.unmap.result)
    (no_hit w c.args.call.now _ (unmap_is_no_request c.in-Unmap.is))

pub returns-in-Unmap-clause-unmapped : goal.returns-in-Unmap-clause-unmapped
returns-in-Unmap-clause-unmapped c =
    rw (c.unmapped.ensures.reply, c.unmapped.ensures.detail)
    (detail_of_unmap _ _ c.in-Unmap.domain c.in-Unmap.address c.in-Unmap.pages _ c.in-Unmap.is c.unmap.ensures.mode)

-- ---- any other call

pub returns-in_default : goal.returns-in_default
returns-in_default c = record {
  does = c.reply_to.ensures;
  hit = λ w q. no_hit w c.args.call.now _ c.in_default.not-Dma;
  unmapped = λ w q. detail_of_other w c.args.call.now _ _ c.in_default.not-Unmap (λ unmapped same. cc);
}
