use Rattle.piece_tree.proofs.laying.+trim.Given as goal

abbrev pub decreases-trim : goal.decreases-trim
decreases-trim l = l.tree.height
