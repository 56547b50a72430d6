use Rattle.std.proofs.Common.{◌≡◌, ◌+◌, ◌-◌, ◌≤◌, arith, subst}
use Rattle.std.specs.Vec.Iter.{into_iter_items}
use Rattle.storm.specs.Storms.{AreNewFrom, HasNewPort}
use Rattle.storm.proofs.storming.role_of.Goals as goal

pub returns-then-number-plan-clause-role : goal.returns-then-number-plan-clause-role
unfolding HasNewPort
returns-then-number-plan-clause-role g c = tt

pub returns-then-number-plan-clause-ports : goal.returns-then-number-plan-clause-ports
returns-then-number-plan-clause-ports g c few =
    subst (λ n. AreNewFrom n (into_iter_items c.args.ports.now)) (omega arith) (c.requires (omega (arith, few)))

pub returns-then-device-plan-clause-role : goal.returns-then-device-plan-clause-role
unfolding HasNewPort
returns-then-device-plan-clause-role g c = tt

pub returns-in-Some-clause-role : goal.returns-in-Some-clause-role
unfolding HasNewPort
returns-in-Some-clause-role g c =
    let few : c.args.number ≤ c.args.plan.drivers + c.args.plan.devices = omega (arith, c.if-number-plan.false, c.if-device-plan.false) in
    let all = subst (AreNewFrom (c.args.number - c.args.plan.drivers)) c.in-Some.ensures.items (c.requires few) in
    (all.0, all.1)

pub returns-in-Some-clause-ports : goal.returns-in-Some-clause-ports
returns-in-Some-clause-ports g c few =
    let all = subst (AreNewFrom (c.args.number - c.args.plan.drivers)) c.in-Some.ensures.items (c.requires (omega (arith, few))) in
    let next : c.args.number - c.args.plan.drivers + 1 ≡ c.args.number + 1 - c.args.plan.drivers =
    omega (arith, c.if-number-plan.false) in
    subst (λ n. AreNewFrom n (into_iter_items c.next.new.self)) next all.2

pub returns-in-None-clause-role : goal.returns-in-None-clause-role
unfolding HasNewPort
returns-in-None-clause-role g c = tt
