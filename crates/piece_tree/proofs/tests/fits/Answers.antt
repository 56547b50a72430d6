use Rattle.piece_tree.proofs.Names.{refl}
use Rattle.piece_tree.proofs.tests.fits.Goals as goal

pub seek_fit-requires-clause-power : goal.seek_fit-requires-clause-power
seek_fit-requires-clause-power c = (2, refl)
