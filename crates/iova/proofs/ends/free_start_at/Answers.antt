use Rattle.iova.proofs.Names.{◌∙◌, ap, ◌-◌, start_by}
use Rattle.iova.proofs.searches.BesidePieces.{piece_at_page}
use Rattle.iova.proofs.searches.Neighbours.{start_at}
use Rattle.iova.proofs.ends.free_start_at.Goals as goal

pub start-requires : goal.start-requires
start-requires c =
    piece_at_page c.args.tree.now (c.args.first - 1) c.piece_at.result c.piece_at.ensures.piece c.piece_at.ensures.sorted

pub returns : goal.returns
returns c =
    c.start.ensures ∙ ap (λ o. start_by o c.args.first) c.piece_at.ensures.piece
    ∙ start_at 1 c.args.tree.now c.args.first c.requires.ordered c.requires.some
