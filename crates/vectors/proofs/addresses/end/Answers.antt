use Rattle.piece_tree.specs.declared.piece.PageState.TheVariants.{Retired}
use Rattle.iova.specs.Pieces.{piece_of}
use Rattle.iova.proofs.Freed.{one_run}
use Rattle.vectors.proofs.addresses.end.Goals as goal

pub release-requires : goal.release-requires
release-requires c = one_run (piece_of c.in_ok-range.range Retired) c.retire.new.self.pieces c.retire.ensures.retired.piece
