use Rattle.std.proofs.Common.{◌*◌, ◌/◌, ◌%◌, ◌<◌, arith, rules}
use Rattle.engine.proofs.caches.Widened.{widened}
use Rattle.engine.proofs.sending.block_of.Goals as goal
use Rattle.dmatypes.specs.declared.page.TheConstants.{SPAN_PAGES}

pub returns-then-order-lt-SPAN_ORDER-clause-block : goal.returns-then-order-lt-SPAN_ORDER-clause-block
returns-then-order-lt-SPAN_ORDER-clause-block c =
    let near : c.aligned_block-first.result.0 < 18446744073709551616 = search rules in
    rw c.if-split.true (widened c.args.range c.aligned_block-first.result.0 c.aligned_block-first.result.1
    (c.aligned_block-first.result.0 / SPAN_PAGES * SPAN_PAGES % 18446744073709551616) c.aligned_block-first.ensures
    c.if-order-lt-SPAN_ORDER.true
    (omega (arith, near)))
