use Rattle.std.proofs.Common.{[], ◌∷◌, arith}
use Rattle.driven.proofs.Brought.{whole_table}
use Rattle.driven.proofs.telling.bring_whole.Goals as goal

pub returns-in-Some : goal.returns-in-Some
returns-in-Some c = (
  c.part.result ∷ [],
  c.push.ensures.items,
  omega arith,
  whole_table c.args.table c.in-Some.frame c.part.result c.in-Some.is c.part.ensures,
)
