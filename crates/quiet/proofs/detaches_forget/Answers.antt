use Rattle.quiet.proofs.Ends.{detaches_forget}
use Rattle.quiet.proofs.detaches_forget.Goals as goal

pub returns : goal.returns
returns c = detaches_forget
