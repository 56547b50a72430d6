use Rattle.std.proofs.Common.{◌==◌, ◌&&◌, sym}
use Rattle.unit.specs.Caches.{CachedLeaf}
use Rattle.unit.specs.Walking.{hold}
use Rattle.unit.proofs.caches.Marks.{found_none}
use Rattle.unit.proofs.leaves.MarkedLeaves.first.Goals as goal

pub returns-then-not-may_hold : goal.returns-then-not-may_hold
returns-then-not-may_hold c =
    sym (found_none (λ (l : CachedLeaf). (l.domain == c.args.domain) && hold l.first l.pages c.args.page) c.args.self.now
    (c.may_hold.ensures c.if-not-may_hold.true))
