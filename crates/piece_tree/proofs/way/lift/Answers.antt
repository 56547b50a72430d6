use Rattle.piece_tree.proofs.Names.{ℕ, Option, Some, None, IsSome, cond, is_some, refl, ap, sym, subst, ◌∙◌, arith, sum_by-set, Slab, get}
use Rattle.piece_tree.proofs.Names.{with_value, Node, KeepsCount, Mends}
use Rattle.slab.proofs.SlabLemmas.{ContainsKey-within, Updates-with_value}
use Rattle.piece_tree.proofs.shapes.Forks.{is_there}
use Rattle.piece_tree.proofs.shapes.Lifted.{lifting_start, lifting_end, lifting-can, lifting-next, lifting-piece, lifting-stops}
use Rattle.piece_tree.proofs.shapes.Mended.{counts_twice, mending-few}
use Rattle.piece_tree.proofs.way.lift.Goals as goal

kept : (nodes : Slab Node) (key : ℕ) (node : Node) → IsSome (get nodes key) → KeepsCount nodes (with_value nodes key node)
kept nodes key node there =
    let h = sum_by-set (λ (o : Option Node). cond (is_some o) 1 0) nodes.slots key (Some node) None (ContainsKey-within nodes key there) in
    record { len = omega (arith, h, ap {B = ℕ} (λ b. cond b 1 0) there); capacity = refl }

pub loop-depth-init : goal.loop-depth-init
loop-depth-init c = lifting_start c.args.nodes.now c.args.way.now c.args.steps c.args.root c.args.longest

pub bounds-way-depth : goal.bounds-way-depth
bounds-way-depth c =
    let q = c.requires in omega (arith, mending-few (c.loop-depth.invariant q.0 q.1 q.2 q.3).mending c.loop-depth-test.true)

pub offset_bounds-way-depth : goal.offset_bounds-way-depth
offset_bounds-way-depth c =
    let q = c.requires in omega (arith, mending-few (c.loop-depth.invariant q.0 q.1 q.2 q.3).mending c.loop-depth-test.true)

pub index_mut-node-requires : goal.index_mut-node-requires
index_mut-node-requires c =
    let q = c.requires in is_there (lifting-can (c.loop-depth.invariant q.0 q.1 q.2 q.3) c.loop-depth-test.true).here

pub returns-then-longest-now-clause-lifted : goal.returns-then-longest-now-clause-lifted
returns-then-longest-now-clause-lifted c path t new can =
    let there = c.index_mut-node.ensures.value in
    let child = c.child_mut-child in
    lifting-stops (c.loop-depth.invariant path t new can) c.loop-depth-test.true there child.result.now child.ensures.before
    child.ensures.behind (ap (λ x. record child.result.now { longest = x })
    (sym c.longest.ensures ∙ c.if-longest-now.true)) (Updates-with_value c.loop-depth.nodes _ _ (is_there there))
    (kept c.loop-depth.nodes _ _ (is_there there))
    (sym c.longest.ensures ∙ c.if-longest-now.true)

pub returns-then-longest-now-clause-count : goal.returns-then-longest-now-clause-count
returns-then-longest-now-clause-count c =
    let q = c.requires in
    counts_twice c.args.nodes.now c.loop-depth.nodes _ (c.loop-depth.invariant q.0 q.1 q.2 q.3).mending.count
    (kept c.loop-depth.nodes _ _ (is_there c.index_mut-node.ensures.value))

pub longest-now-requires : goal.longest-now-requires
longest-now-requires c =
    let q = c.requires in
    let child = c.child_mut-child in
    lifting-piece (c.loop-depth.invariant q.0 q.1 q.2 q.3) c.loop-depth-test.true c.index_mut-node.ensures.value
    child.result.now child.ensures.before child.ensures.behind c.set_longest.new.self

pub loop-depth-preserved : goal.loop-depth-preserved
loop-depth-preserved c path t new can =
    let there = c.index_mut-node.ensures.value in
    let child = c.child_mut-child in
    lifting-next (c.loop-depth.invariant path t new can) c.loop-depth-test.true there child.result.now child.ensures.before
    child.ensures.behind c.set_longest.ensures (Updates-with_value c.loop-depth.nodes _ _ (is_there there))
    (kept c.loop-depth.nodes _ _ (is_there there))
    c.longest-now.result c.longest-now.ensures

pub returns-clause-lifted : goal.returns-clause-lifted
returns-clause-lifted c path t new can =
    subst (λ top. Mends (get c.args.nodes.now) (get c.loop-depth.nodes) top path t new) (sym c.set_longest-2.ensures) (lifting_end
    (c.loop-depth.invariant path t new can) (omega arith))

pub returns-clause-count : goal.returns-clause-count
returns-clause-count c = let q = c.requires in (c.loop-depth.invariant q.0 q.1 q.2 q.3).mending.count
