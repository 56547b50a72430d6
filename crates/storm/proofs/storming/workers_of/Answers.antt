use Rattle.std.proofs.Common.{◌≡◌, ◌+◌, ◌-◌, arith, ap, subst, sym, vec_len}
use Rattle.std.specs.Vec.Iter.{into_iter_items}
use Rattle.manager.specs.Kept.{Share, new_share}
use Rattle.storm.specs.Storms.{AreNewFrom, IsFresh}
use Rattle.storm.proofs.Elements.{All-first, All-next, All-pushed}
use Rattle.storm.proofs.storming.workers_of.Goals as goal

pub loop-share-preserved : goal.loop-share-preserved
loop-share-preserved g c =
    let i = c.loop-share.invariant in let step = c.in-Some.ensures.steps in
    let number = c.len-number.ensures in
    let more : vec_len c.push.new.self ≡ c.len-number.result + 1 = omega (arith, number, c.in_ok-push.ensures.len) in (
      omega (arith, i.0, step.1, c.in_ok-push.ensures.len),
      All-next (λ s. s ≡ new_share) _ _ c.in-Some.share step.0 i.1,
      All-pushed IsFresh c.loop-share.workers.items c.push.new.self.items _ c.in_ok-push.ensures.items
          (ap (λ (s : Share). s.calls) (All-first (λ s. s ≡ new_share) _ _ c.in-Some.share step.0 i.1), c.role_of-role.ensures.role) i.2,
      λ few. subst (λ n. AreNewFrom (n - c.args.plan.drivers) (into_iter_items c.role_of-role.new.ports)) (sym more)
          (c.role_of-role.ensures.ports (omega (arith, few, more))),
    )
