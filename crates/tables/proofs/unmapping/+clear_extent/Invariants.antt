use Rattle.tables.proofs.unmapping.+clear_extent.Given as goal

abbrev pub decreases-clear_extent : goal.decreases-clear_extent
decreases-clear_extent l = l.level
