use Rattle.std.proofs.Common.{◌∙◌, arith}
use Rattle.std.proofs.lemmas.Grind.{common_steps}
use mathlib.Core.List.{IsPrefix}
use Rattle.manager.proofs.books.Shares.{All-last}
use Rattle.manager.proofs.share.merged.Goals as goal

pub loop-share-init : goal.loop-share-init
loop-share-init g c = (
  grind (arith, common_steps),
  grind (arith, common_steps),
  grind (arith, common_steps),
  c.told-part.ensures.same,
  All-last (λ s. IsPrefix s.seen c.args.desk.now.history) c.args.shares.items c.pop.new.self.items c.in-Some.first c.in-Some.ensures.items
      c.told-part.ensures.saw,
)

pub loop-share-preserved : goal.loop-share-preserved
loop-share-preserved g c =
    let i = c.loop-share.invariant in (
      grind (arith, common_steps),
      grind (arith, common_steps),
      grind (arith, common_steps),
      c.told.ensures.same ∙ i.3,
      λ before. i.4 (All-last (λ s. IsPrefix s.seen c.args.desk.now.history) c.loop-share.shares.items c.pop-in-loop-share.new.self.items
          c.in-Some-pop.share c.in-Some-pop.ensures.items (rw (← i.3) c.told.ensures.saw) before),
    )
