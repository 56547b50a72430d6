use Rattle.tables.proofs.trails.Fills.{no_fill}
use Rattle.tables.proofs.mapping.map_segments.Goals as goal

pub returns-then-free-tables_lacking-clause-order : goal.returns-then-free-tables_lacking-clause-order
returns-then-free-tables_lacking-clause-order c spelled = no_fill c.args.pool.now
