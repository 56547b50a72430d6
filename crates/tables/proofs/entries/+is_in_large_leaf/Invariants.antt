use Rattle.tables.proofs.entries.+is_in_large_leaf.Given as goal

abbrev pub decreases-is_in_large_leaf : goal.decreases-is_in_large_leaf
decreases-is_in_large_leaf l = l.level
