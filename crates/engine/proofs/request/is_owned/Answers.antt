use Rattle.std.proofs.Common.{refl, arith}
use Rattle.engine.proofs.maps.Segments.{owned_at, owned_later, owned_none}
use Rattle.engine.proofs.request.is_owned.Goals as goal

pub returns-then-segment-frames : goal.returns-then-segment-frames
returns-then-segment-frames c = (
  λ yes. owned_at c.args.frames c.args.segments.now c.loop-segment.segment-index c.loop-segment-test.true c.if-segment-frames.true,
  λ owned. refl,
)

pub loop-segment-preserved : goal.loop-segment-preserved
loop-segment-preserved c =
    owned_later c.args.frames c.args.segments.now c.loop-segment.segment-index c.loop-segment-test.true c.loop-segment.invariant
    (λ low. omega (arith, low, c.if-segment-frames.false))

pub returns : goal.returns
returns c = (
  λ yes. absurd cc,
  λ owned.
      absurd (owned_none c.args.frames c.args.segments.now c.loop-segment.segment-index c.loop-segment-test.false c.loop-segment.invariant
      owned),
)
