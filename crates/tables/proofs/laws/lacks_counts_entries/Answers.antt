use Rattle.tables.proofs.counts.ByEntries.{lacks_by_entries}
use Rattle.tables.proofs.laws.lacks_counts_entries.Goals as goal

pub returns : goal.returns
returns c m level root large from to some one absent = lacks_by_entries m level root large from to some one absent
