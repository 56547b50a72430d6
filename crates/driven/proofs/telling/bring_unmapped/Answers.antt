use Rattle.std.proofs.Common.{[], ◌∷◌, ◌++◌, ◌∙◌, ap, arith}
use Rattle.std.proofs.lemmas.List.{append_assoc, length-append}
use Rattle.engine.specs.Domains.{domain_at}
use Rattle.driven.specs.declared.effect.Effect.TheVariants.{Barrier}
use Rattle.driven.proofs.Brought.{unmapped, unmapped_in}
use Rattle.driven.proofs.telling.bring_unmapped.Goals as goal

pub returns-then-bring_lowest : goal.returns-then-bring_lowest
returns-then-bring_lowest c =
    let (x, items, few, brings) = c.bring_lowest.ensures.brings in (
      x ++ Barrier ∷ [],
      c.push.ensures.items ∙ ap (λ es. es ++ Barrier ∷ []) items ∙ append_assoc c.args.effects.now.items x (Barrier ∷ []),
      omega (arith, few, length-append x (Barrier ∷ [])),
      unmapped_in c.args.state.now.pool (domain_at c.args.state.now.domains c.args.domain) c.args.first c.args.last c.args.before.now.items
          x brings (c.bring_lowest.ensures.stay c.if-bring_lowest.true),
    )

pub returns-else-bring_lowest : goal.returns-else-bring_lowest
returns-else-bring_lowest c =
    let (x, items, few, brings) = c.bring_lowest.ensures.brings in
    let (y, items', few', brings') = c.bring_upper.ensures in (
      x ++ y,
      items' ∙ ap (λ es. es ++ y) items ∙ append_assoc c.args.effects.now.items x y,
      omega (arith, few, few', length-append x y),
      unmapped c.args.state.now.pool (domain_at c.args.state.now.domains c.args.domain) c.args.first c.args.last c.args.before.now.items x y
          brings brings',
    )
