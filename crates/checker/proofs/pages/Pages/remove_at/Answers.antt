use Rattle.std.specs.BTreeMap as tree
use Rattle.std.specs.Ordering.{nat_cmp}
use Rattle.std.proofs.Common.{◌≡◌, ◌+◌, Option, Some, None, ap, ◌∙◌}
use Rattle.std.specs.Prelude.{IfNone}
use Rattle.checker.specs.declared.run.Run.{Run}
use Rattle.checker.specs.Runs.{begun_between}
use Rattle.checker.proofs.worlds.Cuts.{end_is_cut, fewer_cut}
use Rattle.checker.proofs.worlds.Counted.{fewer_between}
use Rattle.checker.proofs.worlds.Entries.{less_of, other_run}
use Rattle.checker.proofs.worlds.Taken.{fewer_apart, less_pages, none_less}
use Rattle.checker.proofs.pages.Pages.remove_at.Goals as goal

where_none : (o : Option Run) (A : Type 0) → o ≡ None → IfNone o A → A
where_none None A is a = a
where_none (Some r) A is a = absurd cc

pub invariant_of-self : goal.invariant_of-self
invariant_of-self c =
    let old = c.args.self.now.runs in
    let new = c.remove.new.self in
    record {
      apart = fewer_apart (tree.get nat_cmp old) (tree.get nat_cmp new) c.args.page c.args.self.now.apart c.remove.ensures.updates.1
          (other_run old new c.args.page None c.remove.ensures.updates);
    }

pub returns-clause-left : goal.returns-clause-left
returns-clause-left c = λ r there p.
    let old = c.args.self.now.runs in
    let new = c.remove.new.self in
    less_pages (tree.get nat_cmp old) (tree.get nat_cmp new) c.args.page p r c.args.self.now.apart
    (fewer_apart (tree.get nat_cmp old) (tree.get nat_cmp new) c.args.page c.args.self.now.apart c.remove.ensures.updates.1
    (other_run old new c.args.page None c.remove.ensures.updates)) (less_of old new c.args.page r there c.remove.ensures.updates)

pub returns-clause-same : goal.returns-clause-same
returns-clause-same c = λ none.
    let old = c.args.self.now.runs in
    let new = c.remove.new.self in
    let others = other_run old new c.args.page None c.remove.ensures.updates in
    none_less (tree.get nat_cmp old) (tree.get nat_cmp new) c.args.page c.args.self.now.apart
    (fewer_apart (tree.get nat_cmp old) (tree.get nat_cmp new) c.args.page c.args.self.now.apart c.remove.ensures.updates.1 others) none
    c.remove.ensures.updates.1 others

pub returns-clause-cuts : goal.returns-clause-cuts
returns-clause-cuts c = λ q cut.
    let old = c.args.self.now.runs in
    let new = c.remove.new.self in
    fewer_cut (tree.get nat_cmp old) (tree.get nat_cmp new) c.args.page q c.remove.ensures.updates.1
    (other_run old new c.args.page None c.remove.ensures.updates) cut

pub returns-clause-end : goal.returns-clause-end
returns-clause-end c = λ r there.
    let old = c.args.self.now.runs in
    let new = c.remove.new.self in
    fewer_cut (tree.get nat_cmp old) (tree.get nat_cmp new) c.args.page (c.args.page + r.pages) c.remove.ensures.updates.1
    (other_run old new c.args.page None c.remove.ensures.updates)
    (end_is_cut (tree.get nat_cmp old) c.args.page r c.args.self.now.apart there)

pub returns-clause-fewer : goal.returns-clause-fewer
returns-clause-fewer c = λ r there from next end low order high.
    let new = c.remove.new.self in
    rw c.remove.ensures.entries (fewer_between from c.args.page next end r c.args.self.now.runs.entries there low order high)

pub returns-clause-as_many : goal.returns-clause-as_many
returns-clause-as_many c = λ none from end.
    let old = c.args.self.now.runs.entries in
    let new = c.remove.new.self.entries in
    ap (begun_between from end) (where_none c.remove.result (new ≡ old) (c.remove.ensures.value ∙ none) c.remove.ensures.unchanged)
