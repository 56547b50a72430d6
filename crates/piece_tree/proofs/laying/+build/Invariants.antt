use Rattle.piece_tree.proofs.Names.{length}
use Rattle.piece_tree.proofs.laying.+build.Given as goal

abbrev pub decreases-build : goal.decreases-build
decreases-build l = length l.pieces.now
