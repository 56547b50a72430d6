use Rattle.moments.proofs.Walks.{others_steady}
use Rattle.moments.proofs.others_are_steady.Goals as goal

pub returns : goal.returns
returns c = others_steady
