use Rattle.piece_tree.proofs.Names.{arith}
use Rattle.piece_tree.proofs.shapes.Forks.{is_there}
use Rattle.piece_tree.proofs.shapes.Mended.{counts_twice, mending_start, mending_end, mending-few, mending-can, mending-next}
use Rattle.piece_tree.proofs.shapes.Mended.{mending-lifts}
use Rattle.piece_tree.proofs.way.mend.Goals as goal

pub loop-depth-init : goal.loop-depth-init
loop-depth-init c = mending_start c.args.nodes.now c.args.way.now c.args.steps c.args.root c.args.end

pub offset_bounds-way-depth : goal.offset_bounds-way-depth
offset_bounds-way-depth c = let q = c.requires in omega (arith, mending-few (c.loop-depth.invariant q.0 q.1 q.2 q.3) c.loop-depth-test.true)

pub bounds-way-depth : goal.bounds-way-depth
bounds-way-depth c = let q = c.requires in omega (arith, mending-few (c.loop-depth.invariant q.0 q.1 q.2 q.3) c.loop-depth-test.true)

pub index-requires : goal.index-requires
index-requires c = let q = c.requires in is_there (mending-can (c.loop-depth.invariant q.0 q.1 q.2 q.3) c.loop-depth-test.true).here

pub lift-requires : goal.lift-requires
lift-requires c =
    let q = c.requires in
    let m = c.loop-depth.invariant q.0 q.1 q.2 q.3 in (
      _,
      _,
      _,
      mending-lifts m c.loop-depth-test.true c.index.ensures c.child.result c.child.ensures.before c.child.ensures.behind
          (c.stands_as.ensures.0 c.if-stands_as.true) c.longest.result c.longest.ensures,
    )

pub returns-then-stands_as-clause-mended : goal.returns-then-stands_as-clause-mended
returns-then-stands_as-clause-mended c path t new can =
    let m = c.loop-depth.invariant path t new can in
    m.back c.lift.new.nodes c.lift.result (c.lift.ensures.lifted _ _ _
    (mending-lifts m c.loop-depth-test.true c.index.ensures c.child.result c.child.ensures.before c.child.ensures.behind
    (c.stands_as.ensures.0 c.if-stands_as.true) c.longest.result c.longest.ensures))

pub returns-then-stands_as-clause-count : goal.returns-then-stands_as-clause-count
returns-then-stands_as-clause-count c =
    let q = c.requires in
    counts_twice c.args.nodes.now c.loop-depth.nodes c.lift.new.nodes (c.loop-depth.invariant q.0 q.1 q.2 q.3).count c.lift.ensures.count

pub regraft-top-requires : goal.regraft-top-requires
regraft-top-requires c =
    let q = c.requires in
    let m = c.loop-depth.invariant q.0 q.1 q.2 q.3 in (_, _, _, _, mending-can m c.loop-depth-test.true)

pub loop-depth-preserved : goal.loop-depth-preserved
loop-depth-preserved c path t new can =
    let m = c.loop-depth.invariant path t new can in
    mending-next m c.loop-depth-test.true (c.regraft-top.ensures.joins _ _ _ _ (mending-can m c.loop-depth-test.true))
    c.regraft-top.ensures.count

pub returns-clause-mended : goal.returns-clause-mended
returns-clause-mended c path t new can = mending_end (c.loop-depth.invariant path t new can) (omega arith)

pub returns-clause-count : goal.returns-clause-count
returns-clause-count c = let q = c.requires in (c.loop-depth.invariant q.0 q.1 q.2 q.3).count
