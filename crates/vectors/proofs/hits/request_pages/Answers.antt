use Rattle.vectors.proofs.Histories.{few_mapped, few_first, legal_first, legal_second, whole_is}
use Rattle.vectors.proofs.hits.request_pages.Goals as goal

pub enter-requires-clause-legal : goal.enter-requires-clause-legal
enter-requires-clause-legal c = rw c.requires.mapped.0 (few_mapped, legal_first)

pub enter-requires-2-clause-legal : goal.enter-requires-2-clause-legal
enter-requires-2-clause-legal c = rw (c.enter.ensures.history, c.requires.mapped.0) (few_first, legal_second)

pub returns-clause-history : goal.returns-clause-history
returns-clause-history c = rw (c.enter-2.ensures.history, c.enter.ensures.history, c.requires.mapped.0) whole_is
