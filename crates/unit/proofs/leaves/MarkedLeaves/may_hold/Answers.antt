use Rattle.std.proofs.Common.{subst, sym, ◌∙◌}
use Rattle.unit.specs.Marks.{AreMarked}
use Rattle.unit.proofs.caches.Marks.{neither, no_mark, none_holds}
use Rattle.unit.proofs.leaves.MarkedLeaves.may_hold.Goals as goal
use Rattle.unit.proofs.leaves.MarkedLeaves.may_hold.Goals.{then-is_some, else-is_some}

pub returns-else-is_marked : goal.returns-else-is_marked
returns-else-is_marked c = λ no_span. elim c.if-is_some.branch [
  | then-is_some w ↦ absurd (cc)
  | else-is_some w ↦
      none_holds c.self.inside.marks c.args.self.now c.args.domain c.args.page
      (subst (AreMarked c.self.inside.marks) c.self.view_is c.self.invariant)
      (neither c.self.inside.marks c.args.domain c.args.page w.mark_of.result c.mark_of-else-is_marked.result w.mark_of.ensures.value
      c.mark_of-else-is_marked.ensures.value
      (no_mark _ w.is_marked.result (sym w.value-is ∙ c.if-is_marked.false) w.is_marked.ensures)
      (no_mark _ c.is_marked-else-is_marked.result no_span c.is_marked-else-is_marked.ensures))
]
