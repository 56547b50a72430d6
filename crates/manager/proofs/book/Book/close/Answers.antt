use Rattle.manager.proofs.book.Book.close.Goals as goal

pub returns-clause-saw : goal.returns-clause-saw
returns-clause-saw g c = rw c.merged-whole.ensures.same c.merged-whole.ensures.saw
