use Rattle.std.proofs.Common.{◌≡◌, ℕ, ◌+◌, true, List, [], ◌∷◌, refl, sym, ap, ◌∙◌, filter, arith}
use Rattle.vtdbits.specs.declared.descriptor.Descriptor.{Descriptor}
use Rattle.vtdbits.specs.declared.descriptor.Descriptor.TheVariants.{Wait}
use Rattle.unit.specs.Caches.{UnitState, unit_state, Caches, caches}
use Rattle.unit.specs.Filters.{done_after, left_by, left_by_first}
use Rattle.unit.proofs.unit.Unit.step.Goals as goal

filter_all : {X : Type 0} (xs : List X) → filter (λ _. true) xs ≡ xs
filter_all [] = refl
filter_all (x ∷ xs) = ap (λ ys. x ∷ ys) (filter_all xs)

-- a wait drops nothing
left_wait : (n : ℕ) (k : Caches) → left_by (Wait n) k ≡ k
left_wait n k = λ i. caches (filter_all k.leaves i) (filter_all k.non_leaves i) (filter_all k.contexts i) (filter_all k.faults i)

pub returns-in-Wait-clause-unit : goal.returns-in-Wait-clause-unit
returns-in-Wait-clause-unit c =
    let now = c.args.self.now in
    let more : c.self.inside.done + 1 + c.self.inside.idle ≡ c.self.inside.done + c.self.inside.idle + 1 = omega arith in
    ap (λ (n : ℕ).
    unit_state
    (caches c.self.inside.leaves c.self.inside.non_leaves.items c.self.inside.contexts.items c.self.inside.faults.items) n
    (c.self.inside.done + 1) c.self.inside.caching) more
    ∙ ap (λ (u : UnitState). unit_state u.caches (u.steps + 1) (u.done + 1) u.caching) c.self.view_is
    ∙ ap (λ (k : Caches). unit_state k (now.steps + 1) (now.done + 1) now.caching) (sym (left_wait c.in-Wait.number now.caches))
    ∙ ap (λ (d : Descriptor). unit_state (left_by d now.caches) (now.steps + 1) (now.done + 1) now.caching) (sym c.in-Wait.is)
    ∙ ap (λ (ds : List Descriptor). unit_state (left_by_first ds now.caches) (now.steps + 1) (done_after ds now.done) now.caching)
    (sym c.in-Some.ensures.some)
