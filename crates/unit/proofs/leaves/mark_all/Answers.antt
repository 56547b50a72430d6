use Rattle.std.proofs.Common.{◌≡◌, [], ◌+◌, ◌∷◌, ◌++◌, take, sym, ap, subst, ◌∙◌}
use Rattle.dmatypes.specs.World.{IsIn}
use Rattle.unit.specs.Caches.{CachedLeaf}
use Rattle.unit.proofs.caches.Marks.{more_marked}
use Rattle.std.proofs.lemmas.List.{take_more, take_all}
use Rattle.unit.proofs.caches.Remembered.{in_push}
use Rattle.unit.proofs.leaves.mark_all.Goals as goal

pub loop-leaf-preserved : goal.loop-leaf-preserved
loop-leaf-preserved c =
    let x = c.leaf-item.result in
    let before = take c.loop-leaf.leaf-index c.args.leaves.now in
    let more : take (c.loop-leaf.leaf-index + 1) c.args.leaves.now ≡ before ++ x ∷ [] =
    take_more c.args.leaves.now c.loop-leaf.leaf-index x c.loop-leaf-test.true
    ∙ ap (λ (l : CachedLeaf). before ++ l ∷ []) (sym c.leaf-item.is) in
    more_marked c.loop-leaf.marks c.mark.new.marks x before (take (c.loop-leaf.leaf-index + 1) c.args.leaves.now) c.loop-leaf.invariant
    c.mark.ensures.kept c.mark.ensures.marked (λ l there. in_push x l before (subst (IsIn l) more there))

pub returns : goal.returns
returns c = λ l there. c.loop-leaf.invariant l (subst (IsIn l) (sym (take_all c.loop-leaf.leaf-index c.args.leaves.now c.loop-leaf-test.false)) there)
