use Rattle.piece_tree.proofs.Names.{subst, sym, Makes}
use Rattle.piece_tree.proofs.shapes.Trimmed.{made-same}
use Rattle.piece_tree.proofs.laying.keep.Goals as goal

pub returns-then-not-lies_beside : goal.returns-then-not-lies_beside
returns-then-not-lies_beside c t can = subst (λ l. Makes c.args.nodes.now c.args.nodes.now c.args.tree t l)
    (sym (can.all (c.lies_beside.ensures.off c.if-not-lies_beside.true))) (made-same can.tree)

pub trim-requires : goal.trim-requires
trim-requires c = let q = c.requires in (q.0, q.1.tree, q.1.from, q.1.sorted)

pub returns : goal.returns
returns c t can = c.trim.ensures t can.from can.tree can.sorted
