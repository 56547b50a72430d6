use Rattle.std.proofs.Common.{◌≡◌, subst, sym}
use Rattle.dmatypes.specs.Page.{Fits}
use Rattle.unit.proofs.unit.request_tests.tree_with.Goals as goal

pub map-requires-clause-fits : goal.map-requires-clause-fits
map-requires-clause-fits g c =
    let is : c.expect-tree.result.width ≡ c.args.width = rw c.expect-tree.ensures at c.new-2.ensures.width in
    subst (Fits c.args.range) (sym is) c.requires.fits
