use Rattle.std.proofs.Common.{◌<◌, arith, not, length, sym, ap, ◌∙◌}
use Rattle.std.proofs.lemmas.List.Filters.{FiltersInPlace-more_no, FiltersInPlace-more_set}
use Rattle.unit.proofs.recent.keep.Goals as goal
use Rattle.unit.proofs.recent.keep.Goals.{then-not-goes, else-not-goes}

pub loop-place-preserved : goal.loop-place-preserved
loop-place-preserved c =
    let inside : c.loop-place.place < length c.loop-place.leaves = omega (arith, c.loop-place-test.true, c.loop-place.invariant.long) in
    elim c.if-not-goes.branch [
      | then-not-goes w ↦
          rw (w.leaves-is, w.kept-is)
          (FiltersInPlace-more_set c.loop-place.invariant inside (ap not (sym c.goes.ensures ∙ w.if-not-goes.true)) c.index-leaves-place.is)
      | else-not-goes w ↦
          rw (w.leaves-is, w.kept-is)
          (FiltersInPlace-more_no c.loop-place.invariant inside (ap not (sym c.goes.ensures ∙ w.if-not-goes.false)) c.index-leaves-place.is)
    ]
