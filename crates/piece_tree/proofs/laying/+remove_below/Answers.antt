use Rattle.piece_tree.proofs.Names.{arith}
use Rattle.piece_tree.proofs.shapes.Removed.{remove-left, remove-right, remove-done}
use Rattle.piece_tree.proofs.laying.+remove_below.Goals as goal

pub remove_at-remove_below-requires : goal.remove_at-remove_below-requires
remove_at-remove_below-requires t c =
    let q = c.requires in
    let l = remove-left q.0 q.1 q.2 c.remove-node.ensures.value c.remove-node.ensures.updates in
    (omega (arith, c.decreases, l.2), (_, l.0, l.1))

pub remove_at-remove_below-requires-2 : goal.remove_at-remove_below-requires-2
remove_at-remove_below-requires-2 t c =
    let q = c.requires in
    let l = remove-left q.0 q.1 q.2 c.remove-node.ensures.value c.remove-node.ensures.updates in
    let r = remove-right q.0 q.1 q.2 c.remove-node.ensures.value c.remove-node.ensures.updates (c.remove_below.ensures _ l.0 l.1) in
    (omega (arith, c.decreases, r.2), (_, r.0, r.1))

pub remove_at-returns : goal.remove_at-returns
remove_at-returns t c x b once =
    let n = c.remove-node.ensures in
    let l = remove-left x b once n.value n.updates in
    let m = c.remove_below.ensures _ l.0 l.1 in
    let r = remove-right x b once n.value n.updates m in
    remove-done x b once n.value n.updates m (c.remove_below-2.ensures _ r.0 r.1) n.len n.capacity
