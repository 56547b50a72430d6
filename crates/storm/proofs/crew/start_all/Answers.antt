use Rattle.std.proofs.Common.{◌≡◌, arith, ap}
use Rattle.storm.specs.Storms.{IsFresh}
use Rattle.storm.proofs.Elements.{All-next, All-pushed}
use Rattle.storm.proofs.crew.start_all.Goals as goal

pub loop-worker-preserved : goal.loop-worker-preserved
loop-worker-preserved g c =
    let i = c.loop-worker.invariant in let step = c.in-Some.ensures.steps in (
      omega (arith, i.0, step.1, c.push_reserved.ensures.len),
      omega (arith, i.1, c.push_reserved.ensures.capacity),
      All-next IsFresh _ _ c.in-Some.worker step.0 i.2,
      All-pushed (λ h. h.promise.0 ≡ c.args.site.now.calls) c.loop-worker.running.items c.push_reserved.new.self.items c.in-Ok.handle
          c.push_reserved.ensures.items (ap (λ p. p.0) c.in-Ok.ensures.ok) i.3,
    )
