use Rattle.std.proofs.Common.{◌≡◌, ℕ, ◌+◌, ◌<◌, Some, ◌∙◌, arith}
use Rattle.std.specs.Prelude.{Result, OnOk, OnErr, None}
use Rattle.std.specs.BTreeMap as tree
use Rattle.std.specs.BTreeMap.{BTreeMap, Updates}
use Rattle.std.specs.Ordering.{nat_cmp}
use Rattle.checker.specs.declared.run.Run.{Run}
use Rattle.checker.proofs.worlds.Cuts.{AreCut, cut_apart, cut_same, front_of, parts_cut, rest_of}
use Rattle.checker.proofs.worlds.Entries.{always_put, other_run}
use Rattle.checker.proofs.pages.Pages.cut_run.Goals as goal

-- two entries, one after the other
cut_of : (old mid new : BTreeMap ℕ Run) (first page : ℕ) (r : Run) → tree.get nat_cmp old first ≡ Some r → first < page
    → page < first + r.pages
    → Updates nat_cmp old mid page (Some (rest_of first page r)) → Updates nat_cmp mid new first (Some (front_of first page r))
    → AreCut (tree.get nat_cmp old) (tree.get nat_cmp new) first page r
cut_of old mid new first page r there less below rest front = record {
  there = there;
  less = less;
  below = below;
  front = front.1;
  rest = other_run mid new first (Some (front_of first page r)) front page (λ (e : page ≡ first). omega (arith, e, less)) ∙ rest.1;
  others = λ k one two.
      other_run mid new first (Some (front_of first page r)) front k one ∙ other_run old mid page (Some (rest_of first page r)) rest k two;
}

-- the rest was put, and then the front too
cut_by : {X E : Type 0} (o : Result X E) (old mid new : BTreeMap ℕ Run) (first page : ℕ) (r : Run) → tree.get nat_cmp old first ≡ Some r
    → first < page → page < first + r.pages
    → Updates nat_cmp old mid page (Some (rest_of first page r)) → OnOk o (Updates nat_cmp mid new first (Some (front_of first page r)))
    → OnErr o (tree.get nat_cmp mid first ≡ None)
    → AreCut (tree.get nat_cmp old) (tree.get nat_cmp new) first page r
cut_by o old mid new first page r there less below rest put none =
    let stays : tree.get nat_cmp mid first ≡ Some r =
    other_run old mid page (Some (rest_of first page r)) rest first (λ (e : first ≡ page). omega (arith, e, less)) ∙ there in
    cut_of old mid new first page r there less below rest (always_put o mid first r put none stays)

pub invariant_of-self-2 : goal.invariant_of-self-2
invariant_of-self-2 c =
    let old = c.args.self.now.runs in
    let new = c.insert-2.new.self in
    record {
      apart = cut_apart (tree.get nat_cmp old) (tree.get nat_cmp new) c.args.first c.args.page c.args.run c.args.self.now.apart
          (cut_by c.insert-2.result old c.insert.new.self new c.args.first c.args.page c.args.run c.requires.there c.requires.less
          c.requires.below c.in_ok-insert.ensures.updates c.insert-2.ensures.updates c.insert-2.ensures.absent);
    }

pub returns-clause-same : goal.returns-clause-same
returns-clause-same c = λ p.
    let old = c.args.self.now.runs in
    let new = c.insert-2.new.self in
    cut_same (tree.get nat_cmp old) (tree.get nat_cmp new) c.args.first c.args.page p c.args.run c.args.self.now.apart
    (cut_by c.insert-2.result old c.insert.new.self new c.args.first c.args.page c.args.run c.requires.there c.requires.less
    c.requires.below c.in_ok-insert.ensures.updates c.insert-2.ensures.updates c.insert-2.ensures.absent)

pub returns-clause-others : goal.returns-clause-others
returns-clause-others c = λ q.
    let old = c.args.self.now.runs in
    let mid = c.insert.new.self in
    let new = c.insert-2.new.self in
    parts_cut (tree.get nat_cmp old) (tree.get nat_cmp new) c.args.first c.args.page q c.args.run
    (cut_of old mid new c.args.first c.args.page c.args.run c.requires.there c.requires.less c.requires.below
    c.in_ok-insert.ensures.updates c.in_ok-insert-2.ensures.updates)
