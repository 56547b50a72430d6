use Rattle.quiet.proofs.Reaps.{reaps_forget}
use Rattle.quiet.proofs.reaps_forget.Goals as goal

pub returns : goal.returns
returns c = reaps_forget
