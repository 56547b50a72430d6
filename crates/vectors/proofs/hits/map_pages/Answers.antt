use Rattle.vectors.proofs.Histories.{legal_one, legal_two, legal_three, mapped_is}
use Rattle.std.proofs.Common.{arith}
use Rattle.vectors.proofs.hits.map_pages.Goals as goal

pub enter-requires-clause-legal : goal.enter-requires-clause-legal
enter-requires-clause-legal c = rw c.requires.empty.0 (omega arith, legal_one)

pub enter-requires-2-clause-legal : goal.enter-requires-2-clause-legal
enter-requires-2-clause-legal c = rw (c.enter.ensures.history, c.requires.empty.0) (omega arith, legal_two)

pub enter-requires-3-clause-legal : goal.enter-requires-3-clause-legal
enter-requires-3-clause-legal c = rw (c.enter-2.ensures.history, c.enter.ensures.history, c.requires.empty.0) (omega arith, legal_three)

pub returns-clause-history : goal.returns-clause-history
returns-clause-history c = rw (c.enter-3.ensures.history, c.enter-2.ensures.history, c.enter.ensures.history, c.requires.empty.0) mapped_is
