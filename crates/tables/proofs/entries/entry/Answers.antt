use Rattle.std.proofs.Common.{sym, ap, ◌∙◌}
use Rattle.vtdbits.specs.Entry.{look}
use Rattle.tables.proofs.walks.Words.{memory_at}
use Rattle.tables.proofs.entries.entry.Goals as goal

pub returns-clause-is : goal.returns-clause-is
returns-clause-is c =
    memory_at c.args.pool.now.words c.args.level c.args.table c.args.index ∙ ap (look c.args.level) (sym c.word_of.ensures)
    ∙ c.decode.ensures.looked ∙ sym c.unwrap_or.ensures
