use Rattle.std.proofs.Common.{rules, ◌≡◌, ◌∙◌, ◌==◌, sym, ap, inr, List, eq-eqb, subst, arith}
use Rattle.std.specs.Prelude.{find, None}
use Rattle.dmatypes.specs.World.{IsIn}
use Rattle.std.proofs.lemmas.Bool.{eqb-true}
use Rattle.unit.specs.Caches.{CachedContext}
use Rattle.unit.proofs.caches.Found.{find_in, find_none}
use Rattle.unit.proofs.caches.Known.{new_unfound}
use Rattle.unit.proofs.caches.Remembered.{gains_entry, remembered_in}
use Rattle.unit.proofs.requests.context_of.Goals as goal
use Rattle.unit.proofs.requests.context_of.Goals.{then-whim+in_default, else-whim}

pub returns-in-Some-clause-some : goal.returns-in-Some-clause-some
returns-in-Some-clause-some c =
    let found =
    find_in (λ (x : CachedContext). x.device == c.args.device) c.deref.result.now c.in-Some.context
    (sym c.first_context.ensures ∙ c.in-Some.is) in
    let there = subst (λ (xs : List CachedContext). IsIn c.in-Some.context xs) c.deref.ensures.0 found.0 in (
      ap (λ (x : CachedContext). x.device) c.context.view_is ∙ eqb-true c.in-Some.context.device c.args.device found.1,
      inr (c.if-whim.true, subst (λ (x : CachedContext). IsIn x c.args.cached.now.items) (sym c.context.view_is) there),
    )

pub returns-in-Some-clause-remembered : goal.returns-in-Some-clause-remembered
returns-in-Some-clause-remembered c = λ fill.
    let found =
    find_in (λ (x : CachedContext). x.device == c.args.device) c.deref.result.now c.in-Some.context
    (sym c.first_context.ensures ∙ c.in-Some.is) in
    let there = subst (λ (xs : List CachedContext). IsIn c.in-Some.context xs) c.deref.ensures.0 found.0 in
    subst (λ (x : CachedContext). IsIn x c.args.cached.now.items) (sym c.context.view_is) there

pub returns-in_err-context-clause-none : goal.returns-in_err-context-clause-none
returns-in_err-context-clause-none c = rw c.from_residual.ensures (
  c.in_err-context.ensures.none,
  λ looks x cached is. elim c.if-whim.branch [
    | then-whim+in_default w ↦
        let none =
        subst (λ (xs : List CachedContext). find (λ (y : CachedContext). y.device == c.args.device) xs ≡ None) w.deref.ensures.0
        (sym w.first_context.ensures ∙ w.in_default.is) in
        find_none (λ (y : CachedContext). y.device == c.args.device) c.args.cached.now.items none x cached
        (eq-eqb x.device c.args.device is)
    | else-whim w ↦ absurd (cc)
  ],
)

pub remember-requires : goal.remember-requires
remember-requires c = (
  omega arith,
  (
    omega arith,
    λ looks. elim c.if-whim.branch [
      | then-whim+in_default w ↦
          let none =
          subst (λ (xs : List CachedContext). find (λ (y : CachedContext). y.device == c.args.device) xs ≡ None) w.deref.ensures.0
          (sym w.first_context.ensures ∙ w.in_default.is) in
          new_unfound _ (λ (y : CachedContext). y.device == c.args.device) c.in_ok-context.context c.args.cached.now.items
          (λ y same. search rules) none (eq-eqb _ _ c.in_ok-context.ensures.some.0)
      | else-whim w ↦ absurd (cc)
    ],
  ),
)

pub returns-clause-gains : goal.returns-clause-gains
returns-clause-gains c = gains_entry _ _ _ _ _ _ c.remember.ensures.items

pub returns-clause-remembered : goal.returns-clause-remembered
returns-clause-remembered c = λ fill.
    subst (IsIn c.in_ok-context.context) (sym c.remember.ensures.items)
    (rw fill (remembered_in _ _ c.in_ok-context.context c.args.cached.now.items (λ y same. search rules)))
