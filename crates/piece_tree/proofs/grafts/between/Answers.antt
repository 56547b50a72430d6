use Rattle.piece_tree.proofs.Names.{arith}
use Rattle.piece_tree.proofs.shapes.Hung.{parts_flip, joins-flip, link_joins}
use Rattle.piece_tree.proofs.shapes.Turned.{shown_heights}
use Rattle.piece_tree.proofs.grafts.between.Goals as goal

pub returns-then-height-2-clause-joins : goal.returns-then-height-2-clause-joins
returns-then-height-2-clause-joins c n f parts =
    let h = shown_heights parts in
    let known = shown_heights c.requires.parts.2 in
    joins-flip c.args.before (c.turn-then-height-2.ensures.joins f n (parts_flip parts) (omega arith))

pub returns-clause-joins : goal.returns-clause-joins
returns-clause-joins c n f parts = let h = shown_heights parts in link_joins (c.link.ensures.links n f parts (omega arith, omega arith))
