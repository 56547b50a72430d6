use Rattle.piece_tree.proofs.Names.{ap, sym, subst, arith, ◌++◌, ◌∷◌, get, Top, Makes, Empty, items}
use Rattle.piece_tree.proofs.shapes.Crowned.{crown-makes}
use Rattle.piece_tree.proofs.shapes.Tall.{low_tree}
use Rattle.piece_tree.proofs.grafts.crown.Goals as goal

pub tree-requires-clause-left : goal.tree-requires-clause-left
tree-requires-clause-left c =
    let q = c.requires.parts in
    let t = q.3.near_tree in
    omega (arith, low_tree (get c.args.nodes.now) q.1 t.stands t.few, ap (λ (v : Top). v.height) t.is)

pub tree-requires-clause-right : goal.tree-requires-clause-right
tree-requires-clause-right c =
    let q = c.requires.parts in
    let t = q.3.far_tree in
    omega (arith, low_tree (get c.args.nodes.now) q.2 t.stands t.few, ap (λ (v : Top). v.height) t.is)

pub returns-clause-makes : goal.returns-clause-makes
returns-clause-makes c was n f parted near few =
    let key = c.insert_reserved-key in
    subst (λ top. Makes was key.new.self top Empty (items n ++ c.args.piece ∷ items f)) (sym c.tree.ensures)
    (crown-makes parted key.result key.ensures.was_vacant c.requires.piece near few key.ensures.updates key.ensures.len
    key.ensures.capacity)
