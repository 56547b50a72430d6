use Rattle.manager.proofs.words.Rows.{some_filled}
use Rattle.manager.proofs.entering.rows_to_clear.Goals as goal

pub returns : goal.returns
returns c =
    λ w fits of_domain.
    some_filled w c.args.event.now.call c.args.event.now.reply c.args.desk.now.last c.cleared_at.result c.filled-filled.result
    (c.cleared_at.ensures w fits of_domain) c.filled-filled.ensures
