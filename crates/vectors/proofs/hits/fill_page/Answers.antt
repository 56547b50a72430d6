use Rattle.std.proofs.Common.{◌∙◌, ap}
use Rattle.ports.specs.Seen.{Rows}
use Rattle.vectors.proofs.Histories.{backed_page}
use Rattle.vectors.proofs.hits.fill_page.Goals as goal

pub fill-requires-clause-lawful : goal.fill-requires-clause-lawful
fill-requires-clause-lawful g c =
    rw (c.word_of.ensures, ap (λ (r : Rows). r.frames) c.requires.rows.0 ∙ c.requires.rows.1, c.requires.place.1)
    (backed_page c.args.place c.requires.place.0)
