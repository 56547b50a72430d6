use Rattle.piece_tree.proofs.Names.{arith, Empty}
use Rattle.piece_tree.proofs.shapes.Crowned.{parted-none}
use Rattle.piece_tree.proofs.grafts.leaf.Goals as goal

pub crown-requires-clause-parts : goal.crown-requires-clause-parts
crown-requires-clause-parts c = (c.args.nodes.now, Empty, Empty, parted-none c.args.nodes.now, (omega arith, omega arith), omega arith)

pub returns-clause-makes : goal.returns-clause-makes
returns-clause-makes c =
    c.crown.ensures.makes c.args.nodes.now Empty Empty (parted-none c.args.nodes.now) (omega arith, omega arith) (omega arith)
