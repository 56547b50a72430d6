use Rattle.std.proofs.Common.{◌≡◌, true, refl, arith}
use Rattle.engine.proofs.maps.Segments.{bad_else, mappable_not_bad, some_page}
use Rattle.engine.proofs.request.judge.Goals as goal

pub returns-in_default-2 : goal.returns-in_default-2
returns-in_default-2 c = bad_else c.args.segments.now c.args.order c.args.rights (rw c.in_default.is-0 at c.pages_of.ensures.none)

pub returns-then-is_owned : goal.returns-then-is_owned
returns-then-is_owned c = (
  mappable_not_bad c.args.segments.now c.args.order c.args.rights c.in-Some-Some.ensures.some.1 c.if-order-gt-MOST_ORDER.false
      (c.in-Some-Some.ensures'.some.0 refl),
  c.is_owned.ensures.0 c.if-is_owned.true,
)

pub invariant_of-result-clause-some_pages : goal.invariant_of-result-clause-some_pages
invariant_of-result-clause-some_pages c =
    omega (arith, some_page c.args.segments.now c.in-Some-Some.ensures.some.1, c.in-Some-Some.ensures.some.0)

pub invariant_of-result-clause-few_pages : goal.invariant_of-result-clause-few_pages
invariant_of-result-clause-few_pages c = omega (arith, c.in-Some-Some.ensures.some.1.few, c.in-Some-Some.ensures.some.0)

pub returns : goal.returns
returns c = (
  mappable_not_bad c.args.segments.now c.args.order c.args.rights c.in-Some-Some.ensures.some.1 c.if-order-gt-MOST_ORDER.false
      (c.in-Some-Some.ensures'.some.0 refl),
  λ owned. let yes : c.is_owned.result ≡ true = c.is_owned.ensures.1 owned in let clash = rw c.if-is_owned.false at yes in absurd cc,
  record {
    pages_are = c.in-Some-Some.ensures.some.0;
    order_is = refl;
    rights_are = c.in-Some-Some.ensures'.value;
    mappable = c.in-Some-Some.ensures.some.1;
  },
)
