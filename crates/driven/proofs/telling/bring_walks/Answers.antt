use Rattle.std.proofs.Common.{◌+◌, ◌-◌, ◌++◌, ◌∙◌, ap, arith, length}
use Rattle.std.proofs.lemmas.List.{append_assoc, length-append}
use Rattle.engine.specs.Domains.{domain_at}
use Rattle.driven.proofs.Brought.{ways}
use Rattle.driven.proofs.Levels.{nine_tables}
use Rattle.driven.proofs.telling.bring_walks.Goals as goal

pub bring_level-requires-clause-room : goal.bring_level-requires-clause-room
bring_level-requires-clause-room c =
    omega (arith, c.requires.room, nine_tables c.args.first (c.args.first + c.args.pages - 1) (omega (arith, c.requires.pages)))

pub bring_upper-requires-clause-room : goal.bring_upper-requires-clause-room
bring_upper-requires-clause-room c =
    let (x, items, few, brings) = c.bring_level.ensures in
    omega (
      arith,
      c.requires.room,
      ap length items ∙ length-append c.args.effects.now.items x,
      few,
      nine_tables c.args.first (c.args.first + c.args.pages - 1) (omega (arith, c.requires.pages)),
    )

pub returns : goal.returns
returns c =
    let (x, items, few, brings) = c.bring_level.ensures in
    let (y, items', few', brings') = c.bring_upper.ensures in (
      x ++ y,
      items' ∙ ap (λ es. es ++ y) items ∙ append_assoc c.args.effects.now.items x y,
      omega (
        arith,
        few,
        few',
        length-append x y,
        nine_tables c.args.first (c.args.first + c.args.pages - 1) (omega (arith, c.requires.pages)),
      ),
      ways c.args.state.now.pool (domain_at c.args.state.now.domains c.args.domain) c.args.first (c.args.first + c.args.pages - 1)
          (c.args.first + c.args.pages) x y (omega (arith, c.requires.pages)) brings brings',
    )
