use Rattle.std.proofs.Common.{[], ◌∷◌, ◌++◌}
use Rattle.ports.proofs.histories.EmptyWords.{empty_lawful}
use Rattle.vectors.proofs.hits.enter.Goals as goal

pub append-requires-clause-lawful : goal.append-requires-clause-lawful
append-requires-clause-lawful c =
    rw c.requires.empty (empty_lawful c.args.desk.now.rows.frames (c.args.desk.now.history ++ c.args.event.now ∷ []))
