use Rattle.piece_tree.proofs.Names.{sym, subst, arith, get, with_value, Joins, with_child}
use Rattle.slab.proofs.SlabLemmas.{Updates-with_value}
use Rattle.piece_tree.proofs.shapes.Forks.{is_there}
use Rattle.piece_tree.proofs.shapes.Hung.{hung-joins, hung-links, hung-near, hung-parts, link_joins}
use Rattle.piece_tree.proofs.grafts.regraft.Goals as goal

pub graft-requires-clause-parts : goal.graft-requires-clause-parts
graft-requires-clause-parts c =
    let q = c.requires in
    let there = c.index_mut-node.ensures.value in
    let side = c.child-other.ensures in
    (_, _, hung-parts q.4 there (Updates-with_value c.args.nodes.now _ _ (is_there there)) c.child-other.result side.before side.behind)

pub returns-then-abs_diff-gt1-clause-joins : goal.returns-then-abs_diff-gt1-clause-joins
returns-then-abs_diff-gt1-clause-joins c piece was n f h =
    let there = c.index_mut-node.ensures.value in
    let side = c.child-other.ensures in
    let node = with_child c.args.before c.index_mut-node.result.now c.args.tree in
    let u = Updates-with_value c.args.nodes.now c.args.key node (is_there there) in
    hung-joins h there u (get c.graft.new.nodes) c.graft.result
    (c.graft.ensures.joins n f (hung-parts h there u c.child-other.result side.before side.behind))

pub returns-clause-joins : goal.returns-clause-joins
returns-clause-joins c piece was n f h =
    let there = c.index_mut-node.ensures.value in
    let node = with_child c.args.before c.index_mut-node.result.now c.args.tree in
    let u = Updates-with_value c.args.nodes.now c.args.key node (is_there there) in
    subst (λ top. Joins (get c.args.nodes.now) (get (with_value c.args.nodes.now c.args.key node)) c.args.before top c.args.key piece n f)
    (sym c.tree.ensures)
    (link_joins (hung-links h there u (hung-near h there u (omega (arith, c.abs_diff.ensures, c.if-abs_diff-gt1.false)))))
