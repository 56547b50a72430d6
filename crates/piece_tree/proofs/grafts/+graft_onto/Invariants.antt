use Rattle.piece_tree.proofs.grafts.+graft_onto.Given as goal

abbrev pub decreases-graft_onto : goal.decreases-graft_onto
decreases-graft_onto l = l.near.height
