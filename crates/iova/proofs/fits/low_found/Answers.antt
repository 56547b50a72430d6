use Rattle.iova.proofs.Names.{subst, arith, IsLowestFit}
use Rattle.iova.proofs.LowestFree.{none_below_lowest}
use Rattle.iova.proofs.searches.FromFloor.{first_from}
use Rattle.iova.proofs.fits.low_found.Goals as goal

pub returns-then-sought-eq1-3 : goal.returns-then-sought-eq1-3
returns-then-sought-eq1-3 c pieces o none i =
    let s = c.args.sought in
    let l = first_from s.floor s.pages s.unit c.args.start pieces (omega (arith, c.if-sought-eq1.true)) o c.requires.sought.some i in
    none_below_lowest c.args.start pieces o
    (subst (λ n. IsLowestFit pieces 1 n c.args.start) c.if-sought-eq1-3.true
    (subst (λ n. IsLowestFit pieces n s.unit c.args.start) c.if-sought-eq1-2.true l))
