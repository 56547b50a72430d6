use Rattle.std.proofs.Common.{◌≡◌, ap, arith, refl, subst, sym}
use Rattle.engine.specs.declared.iommu.Iommu.{Iommu}
use Rattle.engine.specs.State.{IsNew, State}
use Rattle.engine.specs.Whole.{IsWhole, domain_count}
use Rattle.engine.proofs.states.New.{of_empty_world, whole_new}
use Rattle.engine.proofs.state.State.with_caching.Goals as goal

abbrev made : goal.After-new-3 → State
made c = record {
  pool = c.in_ok-new.field-0;
  domains = c.in_ok-no_domains.field-0.items;
  iommu = c.new-2.result;
  tickets = c.new-3.result.items;
  calls = 0;
}

is_new : (c : goal.After-new-3) → IsNew c.args.frames c.args.on (made c)
is_new c = record {
  frames_are = c.in_ok-new.ensures.frames;
  free = c.in_ok-new.ensures.free;
  past = λ f high. c.in_ok-new.ensures.pool.within f (rw c.in_ok-new.ensures.frames high);
  count = c.in_ok-new.ensures.count;
  zeroed = c.in_ok-new.ensures.zeroed;
  domains_are = c.in_ok-no_domains.ensures;
  contexts_are = ap (λ (x : Iommu). x.contexts) c.new-2.ensures;
  ring_is = ap (λ (x : Iommu). x.ring) c.new-2.ensures;
  unit_is = ap (λ (x : Iommu). x.unit) c.new-2.ensures;
  sent_is = ap (λ (x : Iommu). x.sent) c.new-2.ensures;
  shown_is = ap (λ (x : Iommu). x.shown) c.new-2.ensures;
  tickets_are = c.new-3.ensures;
  calls_are = refl;
}

pub returns : goal.returns
returns c = record { new = is_new c; empty = of_empty_world (made c) c.args.frames c.args.on (is_new c) }

pub invariant_of-result : goal.invariant_of-result
invariant_of-result c =
    let none : domain_count c.in_ok-no_domains.field-0.items ≡ 0 = ap domain_count c.in_ok-no_domains.ensures in
    let many = c.in_ok-all_rooms.ensures.count in (
      subst (λ n. IsWhole n (made c)) (sym c.in_ok-new.ensures.frames) (whole_new (made c) c.args.frames c.args.on (is_new c)),
      record
          { count = omega (arith, none, many); roomy = c.in_ok-all_rooms.ensures.room },
    )
