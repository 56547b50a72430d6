use Rattle.std.proofs.Common.{◌≤◌, ◌<◌, ◌^◌, arith}
use Rattle.std.proofs.lemmas.Nat.{pow_pos}
use Rattle.std.proofs.Math.Nat.{pow-le-pow_right}
use Rattle.checker.proofs.searching.power.Goals as goal

pub returns : goal.returns
returns c =
    let small : 2 ^ c.args.order ≤ 2 ^ 9 = pow-le-pow_right {n = 2} (omega arith) c.requires in
    let some : 0 < 2 ^ c.args.order = pow_pos c.args.order in
    record { power = omega arith; range = (omega arith, omega arith) }
