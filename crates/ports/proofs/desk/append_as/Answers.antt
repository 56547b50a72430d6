use Rattle.std.proofs.Common.{ℕ, ◌++◌, ◌∷◌, [], arith, sym, ap, ◌∙◌, subst}
use Rattle.dmatypes.specs.History.{IsLegal}
use Rattle.ports.specs.Lawful.{IsLawfulAfter}
use Rattle.ports.specs.Steps.{AreLawful}
use Rattle.ports.specs.Seen.{Rows}
use Rattle.ports.proofs.histories.LawfulWords.{legal_empty, lawful_zero}
use Rattle.ports.proofs.steps.Stores.{appends}
use Rattle.ports.proofs.desk.append_as.Goals as goal

pub fetch_add-requires : goal.fetch_add-requires
fetch_add-requires g c =
    let frames = ap (λ (r : Rows). r.frames) (sym c.rows.view_is) in
    let later = c.args.desk.now.me.0.mine.seen ++ g.E.Told.event ∷ [] in (
      c.requires.rows.0 ∙ ap (λ (r : Rows). r.table) (sym c.rows.view_is),
      omega (arith, c.rows.invariant),
      appends (IsLegal c.rows.inside.words.shared.key.frames) (IsLawfulAfter c.rows.inside.words.shared.key.frames)
          (legal_empty c.rows.inside.words.shared.key.frames)
          (lawful_zero c.rows.inside.words.shared.key.frames) _ _ _ _ g.E.Told.event c.requires.desk.0 c.requires.desk.1
          (subst (λ (f : ℕ). IsLegal f later) frames c.requires.legal)
          (subst (λ (f : ℕ). AreLawful (IsLawfulAfter f) later c.args.desk.now.me.0.last) frames c.requires.lawful),
    )
