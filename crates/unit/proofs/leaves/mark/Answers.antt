use Rattle.std.proofs.Common.{ℕ, ◌+◌, ◌-◌, ◌/◌, subst, arith}
use Rattle.dmatypes.specs.declared.page.TheConstants.{SPAN_PAGES}
use Rattle.unit.specs.Marks.{HasMark, IsMarked, mark_of}
use Rattle.unit.proofs.caches.Marks.{of_a_span, spans_marked}
use Rattle.unit.proofs.leaves.mark.Goals as goal

pub returns-else-leaf-eq1-clause-marked : goal.returns-else-leaf-eq1-clause-marked
returns-else-leaf-eq1-clause-marked c =
    let new = c.mark_place-else-leaf-eq1-2.new.marks in
    let span = of_a_span _ c.leaf.invariant c.if-leaf-eq1.false in
    subst (IsMarked new) c.leaf.view_is
    (spans_marked new _ (omega (arith, span)) (omega (arith, span))
    (subst (HasMark new) c.mark_of-else-leaf-eq1.ensures.value
    (c.mark_place-else-leaf-eq1-2.ensures.kept c.mark_of-else-leaf-eq1.result c.mark_place-else-leaf-eq1.ensures.marked))
    (subst (λ (n : ℕ). HasMark new (mark_of c.leaf.inside.domain ((c.leaf.inside.first + (n - 1)) / SPAN_PAGES))) c.from.ensures
    (subst (HasMark new) c.mark_of-else-leaf-eq1-2.ensures.value c.mark_place-else-leaf-eq1-2.ensures.marked)))
