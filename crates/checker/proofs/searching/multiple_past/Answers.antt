use Rattle.std.proofs.Common.{◌+◌, ◌/◌}
use Rattle.std.proofs.Math.Nat.{mul-mod_left}
use Rattle.checker.proofs.searching.multiple_past.Goals as goal

pub returns-clause-multiple : goal.returns-clause-multiple
returns-clause-multiple c = mul-mod_left (c.args.page / c.args.step + 1) c.args.step
