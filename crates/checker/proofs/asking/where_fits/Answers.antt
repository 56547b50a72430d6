use Rattle.std.proofs.Common.{refl}
use Rattle.checker.proofs.asking.where_fits.Goals as goal

pub returns-then-fits : goal.returns-then-fits
returns-then-fits c = (refl, c.fits.ensures.0 c.if-fits.true)
