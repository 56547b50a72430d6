use Rattle.std.proofs.Common.{◌≡◌, IfSome, arith, subst}
use Rattle.storm.specs.Storms.{HasChecked, HasCheckedIn, HasMade}
use Rattle.storm.proofs.Elements.{All-first, All-next, All-pushed}
use Rattle.storm.proofs.crew.join_all.Goals as goal

pub loop-handle-preserved-in-Some-port : goal.loop-handle-preserved-in-Some-port
loop-handle-preserved-in-Some-port g c =
    let i = c.loop-handle.invariant in
    let step = c.in-Some.ensures.steps in
    let share = c.join-share.result.share in
    let made = c.in-Some.handle.promise.0 in (
      omega (arith, i.0, step.1, c.push_reserved.ensures.len),
      omega (arith, i.1, c.push_reserved.ensures.len, c.push_reserved-in-Some-port.ensures.len),
      omega (arith, i.2, c.push_reserved.ensures.capacity),
      omega (arith, i.3, c.push_reserved-in-Some-port.ensures.capacity),
      λ calls all.
          let h = i.4 calls all in
          let first : made ≡ calls = All-first (λ h. h.promise.0 ≡ calls) _ _ c.in-Some.handle step.0 h.0 in
          let checked : HasCheckedIn made share c.in-Some-port.port =
          subst (λ p. IfSome p (HasCheckedIn made share)) c.in-Some-port.is c.join-share.ensures.1 in (
            All-next (λ h. h.promise.0 ≡ calls) _ _ c.in-Some.handle step.0 h.0,
            All-pushed (HasMade g.B.Owner.room calls) c.loop-handle.returned.shares.items c.push_reserved.new.self.items share
                c.push_reserved.ensures.items (subst (λ n. HasMade g.B.Owner.room n share) first c.join-share.ensures.0) h.1,
            All-pushed (HasChecked calls) c.loop-handle.returned.ports.items c.push_reserved-in-Some-port.new.self.items c.in-Some-port.port
                c.push_reserved-in-Some-port.ensures.items (subst (λ n. HasChecked n c.in-Some-port.port) first checked.0) h.2,
          ),
    )

pub loop-handle-preserved : goal.loop-handle-preserved
loop-handle-preserved g c =
    let i = c.loop-handle.invariant in
    let step = c.in-Some.ensures.steps in
    let share = c.join-share.result.share in (
      omega (arith, i.0, step.1, c.push_reserved.ensures.len),
      omega (arith, i.1, c.push_reserved.ensures.len),
      omega (arith, i.2, c.push_reserved.ensures.capacity),
      omega (arith, i.3),
      λ calls all.
          let h = i.4 calls all in
          let first = All-first (λ h. h.promise.0 ≡ calls) _ _ c.in-Some.handle step.0 h.0 in (
            All-next (λ h. h.promise.0 ≡ calls) _ _ c.in-Some.handle step.0 h.0,
            All-pushed (HasMade g.B.Owner.room calls) c.loop-handle.returned.shares.items c.push_reserved.new.self.items share
                c.push_reserved.ensures.items (subst (λ n. HasMade g.B.Owner.room n share) first c.join-share.ensures.0) h.1,
            h.2,
          ),
    )
