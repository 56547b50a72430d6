use Rattle.std.proofs.Common.{◌≡◌, ℕ, ◌==◌, ◌&&◌, false, not, sym, subst, ◌∙◌}
use Rattle.dmatypes.specs.World.{IsIn}
use Rattle.unit.specs.Caches.{CachedLeaf}
use Rattle.unit.specs.Filters.{drops_leaf}
use Rattle.unit.specs.Marks.{AreMarked}
use Rattle.unit.specs.Walking.{hold}
use Rattle.unit.proofs.caches.Marks.{fewer_marked, kept_in, outside_page}
use Rattle.dmatypes.proofs.lists.Filtered.{in_filter}
use Rattle.vtdbits.specs.declared.descriptor.Descriptor.{Descriptor}
use Rattle.unit.proofs.leaves.MarkedLeaves.forget.Goals as goal

pub returns-then-not-may_hold-clause-items : goal.returns-then-not-may_hold-clause-items
returns-then-not-may_hold-clause-items c =
    let marked = subst (AreMarked c.self.inside.marks) c.self.view_is c.self.invariant in
    sym (kept_in (drops_leaf c.args.descriptor.now) c.args.self.now (λ l there.
    subst (λ (d : Descriptor). drops_leaf d l ≡ false) (sym c.in-IotlbPages.is)
    (outside_page l c.in-IotlbPages.domain c.in-IotlbPages.block (marked l there).some (sym c.order.ensures.value ∙ c.if-order-eq0.true)
    (subst (λ (p : ℕ). ((l.domain == c.in-IotlbPages.domain) && hold l.first l.pages p) ≡ false) c.first.ensures.value
    (c.may_hold.ensures c.if-not-may_hold.true l there)))))

pub invariant_of-self : goal.invariant_of-self
invariant_of-self c =
    fewer_marked c.self.inside.marks c.self.inside.list c.forget.new.self c.self.invariant (λ l there.
    (in_filter (λ (k : CachedLeaf). not (drops_leaf c.args.descriptor.now k)) l c.self.inside.list
    (subst (IsIn l) c.forget.ensures.items there)).0)
