use Rattle.piece_tree.proofs.Names.{arith}
use Rattle.piece_tree.proofs.shapes.Hung.{parts_flip, joins-flip, link_joins}
use Rattle.piece_tree.proofs.shapes.Turned.{shown_heights}
use Rattle.piece_tree.proofs.grafts.graft.Goals as goal

pub returns-then-height-clause-joins : goal.returns-then-height-clause-joins
returns-then-height-clause-joins c n f parts = joins-flip c.args.before (c.graft_onto.ensures.joins f n (parts_flip parts))

pub returns-clause-joins : goal.returns-clause-joins
returns-clause-joins c n f parts = let h = shown_heights parts in link_joins (c.link.ensures.links n f parts (omega arith, omega arith))
