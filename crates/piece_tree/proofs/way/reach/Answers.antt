use Rattle.piece_tree.proofs.shapes.Led.{hand-there, hand-reaches}
use Rattle.piece_tree.proofs.way.reach.Goals as goal

pub index-requires : goal.index-requires
index-requires c = let q = c.requires.tree in hand-there q.1 (rw c.in-Some.is at q.2)

pub returns-then-last-piece : goal.returns-then-last-piece
returns-then-last-piece c t w h =
    hand-reaches w (rw c.in-Some.is at h) c.index.ensures c.if-piece-first.true c.if-last-piece.true c.requires.pages.0

pub walk-requires-clause-tree : goal.walk-requires-clause-tree
walk-requires-clause-tree c = let q = c.requires.tree in (q.0, q.1, q.3)

pub returns : goal.returns
returns c t w h = c.walk.ensures t w
