use Rattle.tables.proofs.entries.+table_at.Given as goal

abbrev pub decreases-table_at : goal.decreases-table_at
decreases-table_at l = l.level
