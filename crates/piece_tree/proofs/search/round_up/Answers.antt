use Rattle.piece_tree.proofs.Names.{◌<◌, subst, sym, pow_pos}
use Rattle.piece_tree.proofs.shapes.Room.{masked_up}
use Rattle.piece_tree.proofs.search.round_up.Goals as goal

pub returns-clause-up : goal.returns-clause-up
returns-clause-up c =
    let power = c.requires.power in
    masked_up c.args.page c.args.unit power.0 power.1 (subst (λ u. 0 < u) (sym power.1) (pow_pos power.0))
