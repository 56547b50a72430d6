use Rattle.tables.proofs.mapping.+map_extent.Given as goal

abbrev pub decreases-map_extent : goal.decreases-map_extent
decreases-map_extent l = l.level
