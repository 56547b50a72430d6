use Rattle.std.proofs.Common.{arith}
use Rattle.storm.proofs.crew.fn.run_all.scope.Goals as goal

pub returns-in-Ok : goal.returns-in-Ok
returns-in-Ok g c = record {
  len = omega (arith, c.join_all.ensures.len, c.in-Ok.ensures.all);
  room = omega (arith, c.join_all.ensures.len, c.join_all.ensures.room, c.in-Ok.ensures.all, c.requires.shares);
  made = (c.join_all.ensures.made c.captures.site.now.calls c.in-Ok.ensures.stints).0;
  checked = (c.join_all.ensures.made c.captures.site.now.calls c.in-Ok.ensures.stints).1;
}
