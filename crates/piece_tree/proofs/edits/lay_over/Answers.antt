use Rattle.piece_tree.proofs.Names.{None, refl, arith}
use Rattle.piece_tree.proofs.shapes.Edited.{laid-can, laid-done}
use Rattle.piece_tree.proofs.shapes.Over.{lay-can, lay-done, lay-held}
use Rattle.piece_tree.proofs.edits.lay_over.Goals as goal

pub replace-top-requires : goal.replace-top-requires
replace-top-requires c = let q = c.requires in (_, _, _, lay-can q.3)

pub mend-root-requires : goal.mend-root-requires
mend-root-requires c =
    let q = c.requires in
    let m = c.replace-top.ensures _ _ _ (lay-can q.3) in
    (_, _, _, laid-can (lay-held q.3) m)

pub returns : goal.returns
returns c t first last can =
    let h = lay-held can in
    let m = c.replace-top.ensures _ _ _ (lay-can can) in
    let count = c.mend-root.ensures.count in
    lay-done can refl (laid-done h m (c.mend-root.ensures.mended _ _ _ (laid-can h m)) count.capacity)
    (omega (arith, m.len, count.len)) None tt
