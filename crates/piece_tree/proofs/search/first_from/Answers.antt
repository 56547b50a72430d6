use Rattle.piece_tree.proofs.Names.{inl, inr}
use Rattle.piece_tree.proofs.shapes.Led.{placed-there}
use Rattle.piece_tree.proofs.shapes.Sought.{narrow_start, narrows_at, narrow-falls, narrow-right, narrow-left, narrow-end}
use Rattle.piece_tree.proofs.search.first_from.Goals as goal

pub loop-at-init : goal.loop-at-init
loop-at-init c = narrow_start c.args.nodes.now c.args.root c.args.page c.root-at.result c.root-at.ensures

pub index-node-requires : goal.index-node-requires
index-node-requires c = let q = c.requires in placed-there q.1 (narrows_at (c.loop-at.invariant q.0 q.1)) c.in-Some.is

pub loop-at-smaller-then-node-page : goal.loop-at-smaller-then-node-page
loop-at-smaller-then-node-page c =
    let q = c.requires in
    narrow-falls q.1 (c.loop-at.invariant q.0 q.1) c.in-Some.is c.index-node.ensures _ (inr c.root-at-then-node-page.ensures)

pub loop-at-preserved-then-node-page : goal.loop-at-preserved-then-node-page
loop-at-preserved-then-node-page c t w =
    narrow-right w (c.loop-at.invariant t w) c.in-Some.is c.index-node.ensures _ c.root-at-then-node-page.ensures c.if-node-page.true

pub loop-at-smaller : goal.loop-at-smaller
loop-at-smaller c =
    let q = c.requires in
    narrow-falls q.1 (c.loop-at.invariant q.0 q.1) c.in-Some.is c.index-node.ensures _ (inl c.root-at-else-node-page.ensures)

pub loop-at-preserved : goal.loop-at-preserved
loop-at-preserved c t w =
    narrow-left w (c.loop-at.invariant t w) c.in-Some.is c.index-node.ensures _ c.root-at-else-node-page.ensures c.if-node-page.false

pub returns : goal.returns
returns c = let q = c.requires in narrow-end q.1 (c.loop-at.invariant q.0 q.1) c.in_default.is
