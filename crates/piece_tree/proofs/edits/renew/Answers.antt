use Rattle.piece_tree.proofs.Names.{◌∙◌}
use Rattle.piece_tree.proofs.shapes.Edited.{renew-there, renew-can, renew-done}
use Rattle.piece_tree.proofs.shapes.Forks.{is_there}
use Rattle.piece_tree.proofs.edits.renew.Goals as goal

pub set_piece-longest-requires-clause-there : goal.set_piece-longest-requires-clause-there
set_piece-longest-requires-clause-there c = let q = c.requires.held in is_there (renew-there q.4)

pub lift-requires : goal.lift-requires
lift-requires c =
    let q = c.requires.held in
    let t = renew-there q.4 in
    let s = c.set_piece-longest.ensures in
    (_, _, _, renew-can q.4 t c.requires.piece (s.updates _ t) (s.longest _ t))

pub returns-clause-becomes : goal.returns-clause-becomes
returns-clause-becomes c path p l r h =
    let t = renew-there h in
    let s = c.set_piece-longest.ensures in
    let u = s.updates _ t in
    let e = s.longest _ t in
    renew-done h t c.requires.piece u e (c.lift.ensures.lifted _ _ _ (renew-can h t c.requires.piece u e))
    (c.lift.ensures.count.capacity ∙ s.count.capacity)
