use Rattle.std.proofs.Common.{rules, ◌≡◌, true, false, sym, ap, subst, ◌∙◌, arith, Bool, if◌then◌else◌, List, length, ◌≤◌, inl}
use Rattle.std.proofs.lemmas.Bool.Decides.{nat_tests}
use Rattle.unit.specs.Lists.{with_entry, with_newest}
use Rattle.unit.specs.declared.recent.TheConstants.{LEAVES}
use Rattle.dmatypes.specs.World.{IsIn}
use Rattle.unit.specs.Caches.{CachedLeaf}
use Rattle.unit.proofs.caches.Marks.{more_marked, outside}
use Rattle.unit.proofs.caches.Members.{of_not}
use Rattle.unit.proofs.caches.Known.{gained_filled, in_with_newest, last_in, new_outside, there_in, with_newest_few, with_new, with_there}
use Rattle.unit.specs.contracts.entries.CachedLeafPartialEq.TheImpl.{ghosts}
use Rattle.unit.proofs.leaves.MarkedLeaves.remember.Goals as goal
use Rattle.unit.proofs.leaves.MarkedLeaves.remember.Goals.{then-is_new, else-is_new}

-- the derived test tells leaves apart
same_leaf : (y x : CachedLeaf) → ghosts.eq y x ≡ true → y ≡ x
same_leaf y x h = search rules

itself : (x : CachedLeaf) → ghosts.eq x x ≡ true
itself x = grind (arith, nat_tests)

pub is_there-requires : goal.is_there-requires
is_there-requires c = λ new.
    rw c.as_slice.ensures.value
    (new_outside _ c.args.leaf c.self-2.inside.list (λ y h. same_leaf y c.args.leaf h) (λ there.
    elim c.if-is_new.branch [
      | then-is_new w ↦ c.requires.new w.if-is_new.true (subst (IsIn c.args.leaf) c.self-2.view_is there)
      | else-is_new w ↦
          let free : w.may_hold.result ≡ false = of_not w.may_hold.result (sym w.is_new-is ∙ new) in
          outside c.self-2.inside.marks c.self-2.inside.list c.args.leaf c.leaf.inside.domain c.leaf.inside.first c.self-2.invariant
          (ap (λ (l : CachedLeaf). l.domain) (sym c.leaf.view_is)) (ap (λ (l : CachedLeaf). l.first) (sym c.leaf.view_is))
          (λ k in_it. w.may_hold.ensures free k (subst (IsIn k) c.self-2.view_is in_it)) there
    ]))

pub invariant_of-self : goal.invariant_of-self
invariant_of-self c =
    more_marked c.self-2.inside.marks c.mark.new.marks c.args.leaf c.self-2.inside.list c.push.new.self
    c.self-2.invariant c.mark.ensures.kept c.mark.ensures.marked
    (λ l there. in_with_newest _ c.args.leaf l c.self-2.inside.list (subst (IsIn l) c.push.ensures there))

pub invariant_of-self-else-self-lt-LEAVES : goal.invariant_of-self-else-self-lt-LEAVES
invariant_of-self-else-self-lt-LEAVES c = λ l there.
    c.mark_all.ensures l (subst (IsIn l) (sym c.as_slice-else-self-lt-LEAVES.ensures.value) there)

pub returns-then-is_there-clause-items : goal.returns-then-is_there-clause-items
returns-then-is_there-clause-items c = λ same tells.
    let whole = c.as_slice.ensures.value ∙ c.self-2.view_is in
    subst (λ (xs : List CachedLeaf). xs ≡ (if c.args.fill then with_entry same LEAVES c.args.leaf xs else xs)) whole
    (rw c.if-not-fill.false
    (with_there _ same LEAVES c.args.leaf c.as_slice.result.now (λ y h. same_leaf y c.args.leaf h) (itself c.args.leaf) tells
    (sym c.is_there.ensures ∙ c.if-is_there.true)))

pub returns-then-is_there-clause-gains : goal.returns-then-is_there-clause-gains
returns-then-is_there-clause-gains c = λ y there. inl there

pub returns-then-is_there-clause-remembered : goal.returns-then-is_there-clause-remembered
returns-then-is_there-clause-remembered c = λ fill.
    let whole = c.as_slice.ensures.value ∙ c.self-2.view_is in
    subst (IsIn c.args.leaf) whole
    (there_in _ c.args.leaf c.as_slice.result.now (λ y h. same_leaf y c.args.leaf h) (sym c.is_there.ensures ∙ c.if-is_there.true))

pub returns-then-self-lt-LEAVES-clause-items : goal.returns-then-self-lt-LEAVES-clause-items
returns-then-self-lt-LEAVES-clause-items c = λ same tells.
    let whole = c.as_slice.ensures.value in
    c.push.ensures
    ∙ ap (λ (xs : List CachedLeaf). with_newest LEAVES c.args.leaf xs) (sym whole)
    ∙ with_new _ same LEAVES c.args.leaf c.as_slice.result.now (λ y h. same_leaf y c.args.leaf h) (itself c.args.leaf) tells
    (sym c.is_there.ensures ∙ c.if-is_there.false)
    ∙ ap (λ (xs : List CachedLeaf). with_entry same LEAVES c.args.leaf xs) (whole ∙ c.self-2.view_is)
    ∙ ap (λ (b : Bool). if b then with_entry same LEAVES c.args.leaf c.args.self.now else c.args.self.now) (sym c.if-not-fill.false)

pub returns-then-self-lt-LEAVES-clause-gains : goal.returns-then-self-lt-LEAVES-clause-gains
returns-then-self-lt-LEAVES-clause-gains c = λ y there.
    gained_filled c.args.leaf y c.if-not-fill.false
    (in_with_newest _ c.args.leaf y c.args.self.now
    (subst (IsIn y) (c.push.ensures ∙ ap (λ (xs : List CachedLeaf). with_newest LEAVES c.args.leaf xs) c.self-2.view_is) there))

pub returns-then-self-lt-LEAVES-clause-remembered : goal.returns-then-self-lt-LEAVES-clause-remembered
returns-then-self-lt-LEAVES-clause-remembered c = λ fill.
    subst (IsIn c.args.leaf) (sym c.push.ensures) (last_in _ c.args.leaf c.self-2.inside.list)

pub returns-then-self-lt-LEAVES-clause-few : goal.returns-then-self-lt-LEAVES-clause-few
returns-then-self-lt-LEAVES-clause-few c = λ few.
    subst (λ (xs : List CachedLeaf). length xs ≤ LEAVES) (sym c.push.ensures)
    (with_newest_few LEAVES c.args.leaf c.self-2.inside.list (omega arith) (omega (arith, ap length c.self-2.view_is)))

pub returns-else-self-lt-LEAVES-clause-items : goal.returns-else-self-lt-LEAVES-clause-items
returns-else-self-lt-LEAVES-clause-items c = λ same tells.
    let whole = c.as_slice.ensures.value in
    c.push.ensures
    ∙ ap (λ (xs : List CachedLeaf). with_newest LEAVES c.args.leaf xs) (sym whole)
    ∙ with_new _ same LEAVES c.args.leaf c.as_slice.result.now (λ y h. same_leaf y c.args.leaf h) (itself c.args.leaf) tells
    (sym c.is_there.ensures ∙ c.if-is_there.false)
    ∙ ap (λ (xs : List CachedLeaf). with_entry same LEAVES c.args.leaf xs) (whole ∙ c.self-2.view_is)
    ∙ ap (λ (b : Bool). if b then with_entry same LEAVES c.args.leaf c.args.self.now else c.args.self.now) (sym c.if-not-fill.false)

pub returns-else-self-lt-LEAVES-clause-gains : goal.returns-else-self-lt-LEAVES-clause-gains
returns-else-self-lt-LEAVES-clause-gains c = λ y there.
    gained_filled c.args.leaf y c.if-not-fill.false
    (in_with_newest _ c.args.leaf y c.args.self.now
    (subst (IsIn y) (c.push.ensures ∙ ap (λ (xs : List CachedLeaf). with_newest LEAVES c.args.leaf xs) c.self-2.view_is) there))

pub returns-else-self-lt-LEAVES-clause-remembered : goal.returns-else-self-lt-LEAVES-clause-remembered
returns-else-self-lt-LEAVES-clause-remembered c = λ fill.
    subst (IsIn c.args.leaf) (sym c.push.ensures) (last_in _ c.args.leaf c.self-2.inside.list)

pub returns-else-self-lt-LEAVES-clause-few : goal.returns-else-self-lt-LEAVES-clause-few
returns-else-self-lt-LEAVES-clause-few c = λ few.
    subst (λ (xs : List CachedLeaf). length xs ≤ LEAVES) (sym c.push.ensures)
    (with_newest_few LEAVES c.args.leaf c.self-2.inside.list (omega arith) (omega (arith, ap length c.self-2.view_is)))
