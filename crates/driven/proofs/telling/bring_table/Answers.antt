use Rattle.std.proofs.Common.{◌++◌, ◌∙◌, ap, arith, sym}
use Rattle.std.proofs.lemmas.Bool.Decides.{nat_tests}
use Rattle.std.proofs.lemmas.List.{append_assoc, length-append}
use Rattle.driven.proofs.Brought.{differ, exchanged}
use Rattle.driven.proofs.telling.bring_table.Goals as goal

pub returns-then-ne : goal.returns-then-ne
returns-then-ne c =
    let (xs, first, one, before) = c.bring_whole.ensures in
    let (ys, second, other, after) = c.bring_whole-then-ne.ensures in (
      xs ++ ys,
      second ∙ ap (λ zs. zs ++ ys) first ∙ append_assoc c.args.effects.now.items xs ys,
      omega (arith, length-append xs ys, one, other),
      exchanged c.args.was c.args.now c.args.from c.args.to xs ys
          (differ _ (λ n. grind (arith, nat_tests)) c.args.was c.args.now (sym c.if-ne.true ∙ c.ne.ensures)) before after,
    )
