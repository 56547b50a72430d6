use Rattle.std.proofs.Common.{arith, eq-eqb, Bool, rules, ◌≡◌, ◌∙◌, ◌==◌, ◌&&◌, true, false, refl, sym, ap, subst, List}
use Rattle.unit.specs.Answers.{IsStart, entries}
use Rattle.std.specs.List.{list_any}
use Rattle.std.proofs.lemmas.Bool.{eqb-true, false≢true}
use Rattle.tables.specs.Pool.{memory}
use Rattle.unit.specs.Caches.{CachedLeaf, CachedNonLeaf, CachedContext, CachedFault, fault}
use Rattle.unit.specs.Walking.{hold}
use Rattle.unit.proofs.caches.Found.{find_in, find_none, both}
use Rattle.unit.proofs.caches.Known.{both_true, new_of_none}
use Rattle.unit.proofs.caches.Remembered.{gains_entry}
use Rattle.unit.proofs.walks.Reading.{met_domain, met_holds, read_absent, read_cached, read_nothing, read_walked}
use Rattle.unit.specs.Lists.{Gains}
use Rattle.unit.proofs.requests.translation_of.Goals as goal
use Rattle.unit.proofs.requests.translation_of.Goals.{then-whim-2, else-whim-2, then-whim+in_default+else-is_absent, else-whim}

pub translation-requires : goal.translation-requires
translation-requires c =
    let found =
    find_in (λ (l : CachedLeaf). (l.domain == c.context.inside.domain) && hold l.first l.pages c.args.lookup.page) c.args.leaves.now
    c.in-Some.leaf
    (sym c.first.ensures ∙ c.in-Some.is) in
    (both _ _ found.1).1

pub returns-in-Some-clause-read : goal.returns-in-Some-clause-read
returns-in-Some-clause-read c =
    let found =
    find_in (λ (l : CachedLeaf). (l.domain == c.context.inside.domain) && hold l.first l.pages c.args.lookup.page) c.args.leaves.now
    c.in-Some.leaf
    (sym c.first.ensures ∙ c.in-Some.is) in
    let tests = both _ _ found.1 in
    let cached = found.0 in
    read_cached (memory c.args.pool.now.words) c.args.lookup.context c.args.lookup.whim.look c.args.lookup.whim.fill
    c.args.lookup.caching c.args.lookup.page
    (entries c.args.leaves.now c.args.tables.now.items c.args.faults.now.items) c.in-Some.leaf c.translation.result c.if-whim.true
    cached
    (eqb-true _ _ tests.0 ∙ ap (λ (x : CachedContext). x.domain) c.context.view_is) tests.1 c.translation.ensures

pub returns-then-is_absent-clause-read : goal.returns-then-is_absent-clause-read
returns-then-is_absent-clause-read c =
    read_absent (memory c.args.pool.now.words) c.args.lookup.context c.args.lookup.whim.look c.args.lookup.whim.fill
    c.args.lookup.caching c.args.lookup.page
    (entries c.args.leaves.now c.args.tables.now.items c.args.faults.now.items) c.context.inside.domain
    (ap (λ (x : CachedContext). x.domain) c.context.view_is) c.if-whim.true
    (subst (λ (fs : List CachedFault). list_any (λ f. (f.domain == c.context.inside.domain) && (f.page == c.args.lookup.page)) fs ≡ true)
    c.deref.ensures.0 (sym c.is_absent.ensures ∙ c.if-is_absent.true))

pub returns-in_default-walk-clause-read : goal.returns-in_default-walk-clause-read
returns-in_default-walk-clause-read c =
    let both : c.if-whim-2.remember ≡ (c.args.lookup.whim.fill && c.args.lookup.caching) = elim c.if-whim-2.branch [
      | then-whim-2 w ↦ w.remember-is ∙ ap (λ b. b && c.args.lookup.caching) (sym w.if-whim-2.true)
      | else-whim-2 w ↦ w.remember-is ∙ w.if-whim-2.false ∙ ap (λ b. b && c.args.lookup.caching) (sym w.if-whim-2.false)
    ] in
    read_nothing (memory c.args.pool.now.words) c.args.lookup.context c.args.lookup.whim.look c.args.lookup.whim.fill
    c.args.lookup.caching c.args.lookup.page
    (entries c.args.leaves.now c.args.tables.now.items c.args.faults.now.items) c.start_of-level.result.0
    c.start_of-level.result.1 c.context.inside.domain c.walk.new.passed.items (ap (λ (x : CachedContext). x.domain) c.context.view_is)
    (subst (λ (ts : List CachedNonLeaf).
    IsStart ts c.args.lookup.whim.look c.args.lookup.context c.args.lookup.page c.start_of-level.result.0 c.start_of-level.result.1)
    c.deref-2.ensures.0
    c.start_of-level.ensures.start) c.walk.ensures.passed c.remember.new.list.items
    (sym c.in_default-walk.is ∙ c.walk.ensures.leaf)
    (subst (λ b. Gains b (λ f. f ≡ fault c.context.inside.domain c.args.lookup.page) c.args.faults.now.items c.remember.new.list.items) both
    (gains_entry _ _ _ _ _ _ c.remember.ensures.items))

pub returns-clause-read : goal.returns-clause-read
returns-clause-read c =
    read_walked (memory c.args.pool.now.words) c.args.lookup.context c.args.lookup.whim.look c.args.lookup.whim.fill
    c.args.lookup.caching c.args.lookup.page
    (entries c.args.leaves.now c.args.tables.now.items c.args.faults.now.items) c.start_of-level.result.0
    c.start_of-level.result.1 c.context.inside.domain c.walk.new.passed.items (ap (λ (x : CachedContext). x.domain) c.context.view_is)
    (subst (λ (ts : List CachedNonLeaf).
    IsStart ts c.args.lookup.whim.look c.args.lookup.context c.args.lookup.page c.start_of-level.result.0 c.start_of-level.result.1)
    c.deref-2.ensures.0
    c.start_of-level.ensures.start) c.walk.ensures.passed
    c.in-Some-walk.leaf c.translation-2.result c.remember-2.new.self (sym c.in-Some-walk.is ∙ c.walk.ensures.leaf)
    (c.remember-2.ensures.gains) c.translation-2.ensures

pub returns-in-Some-clause-remembered : goal.returns-in-Some-clause-remembered
returns-in-Some-clause-remembered c = λ fill.
    let found =
    find_in (λ (l : CachedLeaf). (l.domain == c.context.inside.domain) && hold l.first l.pages c.args.lookup.page) c.args.leaves.now
    c.in-Some.leaf
    (sym c.first.ensures ∙ c.in-Some.is) in
    let tests = both _ _ found.1 in (
      c.in-Some.leaf,
      found.0,
      eqb-true _ _ tests.0 ∙ ap (λ (x : CachedContext). x.domain) c.context.view_is,
      tests.1,
      c.translation.ensures,
    )

pub returns-clause-remembered : goal.returns-clause-remembered
returns-clause-remembered c = λ fill. (
  c.in-Some-walk.leaf,
  c.remember-2.ensures.remembered fill,
  met_domain _ _ _ _ (sym c.in-Some-walk.is ∙ c.walk.ensures.leaf) ∙ ap (λ (x : CachedContext). x.domain) c.context.view_is,
  met_holds _ _ _ _ (sym c.in-Some-walk.is ∙ c.walk.ensures.leaf),
  c.translation-2.ensures,
)

pub remember-requires-2 : goal.remember-requires-2
remember-requires-2 c = record {
  new = λ looks there. elim c.if-whim.branch [
    | then-whim+in_default+else-is_absent w ↦
        let serves : CachedLeaf → Bool =
        λ (l : CachedLeaf). (l.domain == c.context.inside.domain) && hold l.first l.pages c.args.lookup.page in
        let met = sym c.in-Some-walk.is ∙ c.walk.ensures.leaf in
        find_none serves c.args.leaves.now (sym w.first.ensures ∙ w.in_default.is) c.in-Some-walk.leaf there
        (both_true _ _ (eq-eqb _ _ (met_domain _ _ _ _ met)) (met_holds _ _ _ _ met))
    | else-whim w ↦ absurd (false≢true (sym w.if-whim.false ∙ looks))
  ];
}

pub remember-requires : goal.remember-requires
remember-requires c = (
  omega arith,
  (
    omega arith,
    λ looks. elim c.if-whim.branch [
      | then-whim+in_default+else-is_absent w ↦
          let is : CachedFault → Bool =
          λ (f : CachedFault). (f.domain == c.context.inside.domain) && (f.page == c.args.lookup.page) in
          let none =
          subst (λ (fs : List CachedFault). list_any is fs ≡ false) w.deref.ensures.0
          (sym w.is_absent.ensures ∙ w.if-is_absent.false) in
          new_of_none _ is (fault c.context.inside.domain c.args.lookup.page) c.args.faults.now.items (λ y same. search rules) none
          (both_true _ _ (eq-eqb c.context.inside.domain c.context.inside.domain refl) (eq-eqb c.args.lookup.page c.args.lookup.page refl))
      | else-whim w ↦ absurd (false≢true (sym w.if-whim.false ∙ looks))
    ],
  ),
)
